-- The call drop: a replica at work that has not got the operation after its line, for which its leader said FIND, says DROP.
--   drop u x i  — the call for replica i, on a bench u in the state x
use Rattle.std.specs.Prelude.{ℕ, Some, Ok}
use Rattle.record.specs.Statements.{find_by, drop_by}
use Rattle.protocol.specs.Setup.{Setup, leader}
use Rattle.protocol.specs.State.{State, replica_at, Action, idle}
use Rattle.protocol.specs.Grounds.{if_honest, if_stamped, if_working, if_said}

abbrev pub drop : Setup → State → ℕ → Action
drop u x i =
    let r = replica_at x i in
    record (idle x) {
      grounds =
          if_honest u i
          (if_stamped x r.length
          (if_working r
          (if_said x (find_by (leader u r.view) r.view r.length) (Ok tt))));
      says = Some (drop_by i r.view r.length);
    }
