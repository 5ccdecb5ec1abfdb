-- The call prepare: a replica at work takes up its leader's DECISION on a slot that is open to votes and says PREPARE, unless it said the other there. A no-op needs a quorum of DROP.
--   prepare u x i s d  — the call for replica i, slot s and the verdict d, on a bench u in the state x
use Rattle.std.specs.Prelude.{ℕ, Some, Ok}
use Rattle.record.specs.Statements.{decision_by, prepare_by}
use Rattle.replica.specs.Verdicts.{verdict_number, other_verdict}
use Rattle.replica.specs.declared.Verdict.{Verdict}
use Rattle.protocol.specs.Setup.{Setup, leader}
use Rattle.protocol.specs.State.{State, replica_at, Action, idle}
use Rattle.protocol.specs.Grounds.{if_honest, if_stamped, if_working, if_open, if_none, if_said, if_dropped}

abbrev pub prepare : Setup → State → ℕ → ℕ → Verdict → Action
prepare u x i s d =
    let r = replica_at x i in
    record (idle x) {
      grounds =
          if_honest u i
          (if_stamped x s
          (if_working r
          (if_open r s
          (if_none x (prepare_by i r.view s (verdict_number (other_verdict d)))
          (if_said x (decision_by (leader u r.view) r.view s (verdict_number d))
          (if_dropped u x r.view s d (Ok tt)))))));
      says = Some (prepare_by i r.view s (verdict_number d));
    }
