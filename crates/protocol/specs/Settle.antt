-- The call settle: a replica at work puts a verdict that a quorum committed into its line, at a slot that is open to votes: behind the line, or in the place of the verdict that stands there. A no-op is sealed. Nothing is said.
--   settle u x i s d  — the call for replica i, slot s and the verdict d, on a bench u in the state x
use Rattle.std.specs.Prelude.{ℕ, Ok}
use Rattle.record.specs.Statements.{commit_by}
use Rattle.replica.specs.Replicas.{settled}
use Rattle.replica.specs.Verdicts.{verdict_number}
use Rattle.replica.specs.declared.Verdict.{Verdict}
use Rattle.protocol.specs.Setup.{Setup}
use Rattle.protocol.specs.State.{State, replica_at, with_replica, Action, idle}
use Rattle.protocol.specs.Grounds.{if_honest, if_stamped, if_working, if_open, if_quorum}

abbrev pub settle : Setup → State → ℕ → ℕ → Verdict → Action
settle u x i s d =
    let r = replica_at x i in
    record (idle x) {
      grounds =
          if_honest u i
          (if_stamped x s
          (if_working r
          (if_open r s
          (if_quorum u x (commit_by 0 r.view s (verdict_number d)) (Ok tt)))));
      replicas = with_replica x i (settled r s d);
    }
