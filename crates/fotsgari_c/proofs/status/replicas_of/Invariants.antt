use Rattle.std.proofs.Common.{◌≡◌, length, map, take}
use Rattle.fotsgari_c.specs.Told.{replica_for_c}
use Rattle.fotsgari_c.proofs.status.replicas_of.Given as goal

abbrev pub invariant-loop-i : goal.invariant-loop-i
invariant-loop-i l =
    (length l.replica-items ≡ 16) × (take l.i l.replica-items ≡ map replica_for_c (take l.i l.replicas))
