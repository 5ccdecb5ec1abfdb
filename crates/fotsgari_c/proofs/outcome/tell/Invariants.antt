use Rattle.std.proofs.Common.{◌≡◌, map, take}
use Rattle.life.specs.declared.call.Turn.{Turn}
use Rattle.fotsgari_c.specs.Told.{outcome_for_c}
use Rattle.fotsgari_c.proofs.outcome.tell.Given as goal

abbrev pub invariant-loop-i : goal.invariant-loop-i
invariant-loop-i l = take l.i l.outcomes ≡ map (λ (t : Turn). outcome_for_c t.outcome) (take l.i l.turns)
