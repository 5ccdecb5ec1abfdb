-- The call decide: the leader, at work, says its DECISION on a slot that is open to votes, unless it said the other there. A no-op needs a quorum of DROP.
--   decide u x i s d  — the call for replica i, slot s and the verdict d, on a bench u in the state x
use Rattle.std.specs.Prelude.{ℕ, Some, Ok}
use Rattle.record.specs.Statements.{decision_by}
use Rattle.replica.specs.Verdicts.{verdict_number, other_verdict}
use Rattle.replica.specs.declared.Verdict.{Verdict}
use Rattle.protocol.specs.Setup.{Setup}
use Rattle.protocol.specs.State.{State, replica_at, Action, idle}
use Rattle.protocol.specs.Grounds.{if_honest, if_stamped, if_working, if_leader, if_open, if_none, if_dropped}

abbrev pub decide : Setup → State → ℕ → ℕ → Verdict → Action
decide u x i s d =
    let r = replica_at x i in
    record (idle x) {
      grounds =
          if_honest u i
          (if_stamped x s
          (if_working r
          (if_leader u i r.view
          (if_open r s
          (if_none x (decision_by i r.view s (verdict_number (other_verdict d)))
          (if_dropped u x r.view s d (Ok tt)))))));
      says = Some (decision_by i r.view s (verdict_number d));
    }
