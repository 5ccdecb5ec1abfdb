-- What comes of a life that C asks for.
--   Lent                      — the memory that C lends to be written: a tape, outcomes and a status
--   lent t os z               — such memory, which holds t, os and z
--   unless_refused a ks       — the calls ks, unless a is the refusal of an open
--   opening u a               — the calls a, unless the open of a bench u over an empty register is refused
--   calls_asked u cs rs os    — the calls of the life of a bench u that the calls cs and the records rs ask for, with the outcomes os to write to, or what is wrong with it
--   Told u V b t m'           — the life of a bench u with the service V, over an empty register on the tape t and with the turns b, was run, and m' is what C was told of it
--   RanAsked a u V t m'       — the same, with the calls a
--   Turns u V b m r m'        — running the turns b on a bench u with the service V answered r, and the memory m is m' now: the life ran, or its open was refused and nothing was written
--   Fails u cs rs e m m'      — no life ran, since what cs and rs ask for is the fault e, or since e is a lack of memory, and nothing was written
--   Comes u V cs rs m r m'    — running the life that cs and rs ask for answered r: it ran, or it failed with a fault
--   Answers u V cs rs m n m'  — the same, where n is 0 if it ran, else the number of the fault, which is never 0
--   rating, allotment         — the services
use Rattle.std.specs.Prelude.{◌≡◌, ◌≢◌, ℕ, true, cond, ◌==◌, ◌⊎◌, List, [], length, map, Ok, Err, Result}
use Rattle.refusal.specs.Grounds.{Answer}
use Rattle.record.specs.declared.Record.{Record}
use Rattle.record.specs.Tapes.{places}
use Rattle.register.specs.Sets.{Set, nothing}
use Rattle.tape.specs.Tapes.{with_packed}
use Rattle.service.specs.Operations.{after}
use Rattle.rating.specs.Rating.{rating_next, rating_answer}
use Rattle.allotment.specs.Balances.{no_balances, allotment_next, allotment_answer}
use Rattle.protocol.specs.Setup.{Setup}
use Rattle.protocol.specs.Service.{Service}
use Rattle.protocol.specs.State.{opened}
use Rattle.protocol.specs.Open.{open_grounds}
use Rattle.protocol.specs.Call as rules
use Rattle.protocol.specs.Life.{additions}
use Rattle.bench.specs.declared.status.Status as bench
use Rattle.life.specs.Calls.{calls_of}
use Rattle.life.specs.Lives.{Runs}
use Rattle.life.specs.declared.call.Turn.{Turn}
use Rattle.fotsgari_c.specs.Faults.{fault_number}
use Rattle.fotsgari_c.specs.Calls.{read_all, IsFault}
use Rattle.fotsgari_c.specs.Told.{outcome_for_c, status_for_c}
use Rattle.fotsgari_c.specs.declared.call.Call.{Call}
use Rattle.fotsgari_c.specs.declared.outcome.Outcome.{Outcome}
use Rattle.fotsgari_c.specs.declared.status.Status.{Status}
use Rattle.fotsgari_c.specs.declared.fault.Fault.{Fault}
use Rattle.fotsgari_c.specs.declared.fault.Fault.TheVariants as fault

pub record Lent : Type 0 where
  pub tape : List ℕ
  pub outcomes : List Outcome
  pub status : Status

abbrev pub lent : List ℕ → List Outcome → Status → Lent
lent t os z = record { tape = t; outcomes = os; status = z }

abbrev pub unless_refused : Answer → List rules.Call → Result (List rules.Call) Fault
unless_refused (Ok _) ks = Ok ks
unless_refused (Err e) ks = Err (fault.Open e)

abbrev pub opening : Setup → Result (List rules.Call) Fault → Result (List rules.Call) Fault
opening u (Ok ks) = unless_refused (open_grounds u true) ks
opening u (Err e) = Err e

abbrev pub calls_asked : Setup → List Call → List Record → List Outcome → Result (List rules.Call) Fault
calls_asked u cs rs os = cond (length os == length cs) (opening u (read_all rs cs)) (Err fault.Outcomes)

pub record Told (u : Setup) (V : Service) (b : List Turn) (t : List ℕ) (m' : Lent) : Type 0 where
  -- the turns afterwards, what the bench kept, and the set and the free places of the register at the end
  pub after : List Turn
  pub kept : bench.Status
  pub held : Set
  pub free : ℕ
  pub runs : Runs u V nothing (places t) b (Ok kept) after held free
  -- the statements that its calls added stand packed at the start of the tape, in order; the bytes behind them are as they were
  pub tape : m'.tape ≡ with_packed (additions u V (opened (places t)) (calls_of b)) t
  pub outcomes : m'.outcomes ≡ map (λ t. outcome_for_c t.outcome) after
  pub status : m'.status ≡ status_for_c kept

pub record RanAsked (a : Result (List rules.Call) Fault) (u : Setup) (V : Service) (t : List ℕ) (m' : Lent) : Type 0 where
  pub turns : List Turn
  pub calls : a ≡ Ok (calls_of turns)
  pub told : Told u V turns t m'

abbrev pub Turns : Setup → Service → List Turn → Lent → Answer → Lent → Type 0
Turns u V b m (Ok _) m' = Told u V b m.tape m'
Turns u V b m (Err e) m' = (open_grounds u true ≡ Err e) × (m' ≡ m)

pub record Fails (u : Setup) (cs : List Call) (rs : List Record) (e : Fault) (m m' : Lent) : Type 0 where
  pub is : IsFault (calls_asked u cs rs m.outcomes) e
  -- memory is asked for only where there are as many outcomes as calls
  pub counted : length m.outcomes ≢ length cs → e ≡ fault.Outcomes
  pub nothing_written : m' ≡ m

abbrev pub Comes : Setup → Service → List Call → List Record → Lent → Result (Unit {0}) Fault → Lent → Type 0
Comes u V cs rs m (Ok _) m' = RanAsked (calls_asked u cs rs m.outcomes) u V m.tape m'
Comes u V cs rs m (Err e) m' = Fails u cs rs e m m'

abbrev pub Answers : Setup → Service → List Call → List Record → Lent → ℕ → Lent → Type 0
Answers u V cs rs m n m' =
    ((n ≡ 0) × RanAsked (calls_asked u cs rs m.outcomes) u V m.tape m')
    ⊎ ((e : Fault) × ((n ≡ fault_number e) × Fails u cs rs e m m'))

abbrev pub rating : Service
rating ops op = rating_answer (after rating_next [] ops) op

abbrev pub allotment : Service
allotment ops op = allotment_answer (after allotment_next no_balances ops) op
