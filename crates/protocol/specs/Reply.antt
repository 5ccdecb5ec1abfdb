-- The call reply: a replica at work says its answer for a slot of its line that has an operation.
--   reply u V x i s  — the call for replica i and slot s, on a bench u with the service V in the state x
use Rattle.std.specs.Prelude.{ℕ, ◌%◌, ◌^◌, not, ◌&&◌, Some, Ok, nat_lt}
use Rattle.refusal.specs.Grounds.{unless}
use Rattle.refusal.specs.declared.Ground.TheVariants.{SlotOrView}
use Rattle.record.specs.Statements.{reply_by}
use Rattle.replica.specs.Words.{bit}
use Rattle.protocol.specs.Setup.{Setup}
use Rattle.protocol.specs.Service.{Service, book, answer_at}
use Rattle.protocol.specs.State.{State, replica_at, Action, idle}
use Rattle.protocol.specs.Grounds.{if_honest, if_stamped, if_working}

abbrev pub reply : Setup → Service → State → ℕ → ℕ → Action
reply u V x i s =
    let r = replica_at x i in
    record (idle x) {
      grounds =
          if_honest u i
          (if_stamped x s
          (if_working r
          (unless (nat_lt s r.length && not (bit r.word s)) SlotOrView 0 (Ok tt))));
      says = Some (reply_by i r.view s (r.word % 2 ^ s) (answer_at V (book x.stamped) r.word s));
    }
