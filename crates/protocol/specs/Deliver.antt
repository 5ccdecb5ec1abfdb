-- The call deliver: a replica at work takes up the operation of the slot at the end of its line, for which it did not say DROP. It says its answer and appends an operation.
--   deliver u V x i s  — the call for replica i and slot s, on a bench u with the service V in the state x
use Rattle.std.specs.Prelude.{ℕ, Some, Ok, ◌==◌}
use Rattle.refusal.specs.Grounds.{unless}
use Rattle.refusal.specs.declared.Ground.TheVariants.{SlotOrView}
use Rattle.record.specs.Statements.{reply_by, drop_by}
use Rattle.replica.specs.Replicas.{delivered}
use Rattle.protocol.specs.Setup.{Setup}
use Rattle.protocol.specs.Service.{Service, book, answer_at}
use Rattle.protocol.specs.State.{State, replica_at, with_replica, Action, idle}
use Rattle.protocol.specs.Grounds.{if_honest, if_stamped, if_working, if_none}

abbrev pub deliver : Setup → Service → State → ℕ → ℕ → Action
deliver u V x i s =
    let r = replica_at x i in
    record (idle x) {
      grounds =
          if_honest u i
          (if_stamped x s
          (if_working r
          (unless (s == r.length) SlotOrView 0
          (if_none x (drop_by i r.view s) (Ok tt)))));
      says = Some (reply_by i r.view s r.word (answer_at V (book x.stamped) r.word s));
      replicas = with_replica x i (delivered r);
    }
