-- The call find: the leader, at work, looks for the operation of the slot at the end of its line, and says FIND.
--   find u x i  — the call for replica i, on a bench u in the state x
use Rattle.std.specs.Prelude.{ℕ, Some, Ok}
use Rattle.record.specs.Statements.{find_by}
use Rattle.protocol.specs.Setup.{Setup}
use Rattle.protocol.specs.State.{State, replica_at, Action, idle}
use Rattle.protocol.specs.Grounds.{if_honest, if_stamped, if_working, if_leader}

abbrev pub find : Setup → State → ℕ → Action
find u x i =
    let r = replica_at x i in
    record (idle x) {
      grounds = if_honest u i (if_stamped x r.length (if_working r (if_leader u i r.view (Ok tt))));
      says = Some (find_by i r.view r.length);
    }
