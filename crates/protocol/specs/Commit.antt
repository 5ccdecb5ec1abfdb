-- The call commit: a replica at work says COMMIT of a verdict that a quorum prepared, on a slot that is open to votes. A no-op is sealed.
--   commit u x i s d  — the call for replica i, slot s and the verdict d, on a bench u in the state x
use Rattle.std.specs.Prelude.{ℕ, Some, Ok}
use Rattle.record.specs.Statements.{prepare_by, commit_by}
use Rattle.replica.specs.Replicas.{committed}
use Rattle.replica.specs.Verdicts.{verdict_number}
use Rattle.replica.specs.declared.Verdict.{Verdict}
use Rattle.protocol.specs.Setup.{Setup}
use Rattle.protocol.specs.State.{State, replica_at, with_replica, Action, idle}
use Rattle.protocol.specs.Grounds.{if_honest, if_stamped, if_working, if_open, if_quorum}

abbrev pub commit : Setup → State → ℕ → ℕ → Verdict → Action
commit u x i s d =
    let r = replica_at x i in
    record (idle x) {
      grounds =
          if_honest u i
          (if_stamped x s
          (if_working r
          (if_open r s
          (if_quorum u x (prepare_by 0 r.view s (verdict_number d)) (Ok tt)))));
      says = Some (commit_by i r.view s (verdict_number d));
      replicas = with_replica x i (committed r s d);
    }
