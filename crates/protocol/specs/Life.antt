-- Lives of a bench: a granted open, and then any list of the other calls with any arguments, granted or refused.
--   run u V x cs          — the state after the calls cs, from the state x
--   outcomes u V x cs     — what came of each of the calls cs, from the state x
--   EnteredBy u V x cs r  — one of the calls cs, made in turn from the state x, was granted and entered the statement r
--   additions u V x cs    — the statements that the calls cs, made in turn from the state x, added to the register, in order
--   Life                  — a life: the bench, whose open was granted, its service, the free places of its register at the opening, and the calls
--   state_at y k          — the state of the life y after its open and k calls
--   outcomes_of y         — what came of the calls of the life y, one after the other
use Rattle.std.specs.Prelude.{◌≡◌, ℕ, true, ◌⊎◌, List, [], ◌∷◌, ◌++◌, take, Some, Ok}
use Rattle.record.specs.declared.Record.{Record}
use Rattle.protocol.specs.Setup.{Setup}
use Rattle.protocol.specs.Service.{Service}
use Rattle.protocol.specs.State.{State, addition_to, opened}
use Rattle.protocol.specs.Open.{open_grounds}
use Rattle.protocol.specs.Call.{Call, Outcome, meaning}

module _ (u : Setup) (V : Service) where
  abbrev pub run : State → List Call → State
  run x [] = x
  run x (c ∷ cs) = run (meaning u V x c).after cs

  abbrev pub outcomes : State → List Call → List Outcome
  outcomes x [] = []
  outcomes x (c ∷ cs) = (meaning u V x c).outcome ∷ outcomes (meaning u V x c).after cs

  abbrev pub additions : State → List Call → List Record
  additions x [] = []
  additions x (c ∷ cs) = addition_to x (meaning u V x c).enters ++ additions (meaning u V x c).after cs

  abbrev pub EnteredBy : State → List Call → Record → Type 0
  EnteredBy x [] r = ⊥
  EnteredBy x (c ∷ cs) r = ((meaning u V x c).enters ≡ Some r) ⊎ EnteredBy (meaning u V x c).after cs r

pub record Life : Type 0 where
  pub bench : Setup
  pub service : Service
  pub places : ℕ
  pub calls : List Call
  -- the open was granted, over an empty register
  pub opens : open_grounds bench true ≡ Ok tt

abbrev pub state_at : Life → ℕ → State
state_at y k = run y.bench y.service (opened y.places) (take k y.calls)

abbrev pub outcomes_of : Life → List Outcome
outcomes_of y = outcomes y.bench y.service (opened y.places) y.calls
