-- What running a life of a bench comes to.
--   WitnessesOf y k r w       — the bytes w are q different replicas, under each of which one of the first k calls of the life y entered the statement r, and then zeros
--   CameOf y k t              — the turn t, in the place k of the life y, has what came of its call
--   Lived y b a z             — the life y was run: the turns b became the turns a, and z is the state at its end
--   life_of u V n ts o        — the life of a bench u with the service V, over an empty register with n free places, with the calls of the turns ts; o says that its open is granted
--   Ran u V s n b a z         — a bench u with the service V was opened over a register with the set s and n free places, and lived: the turns b became the turns a, and z is the state at the end
--   Runs u V s n b r a s' n'  — the life of a bench u with the service V, over a register with the set s and n free places, was run: the answer is r, the turns b became a, and the register has the set s' and n' free places
-- The law of the life is OneLedger, in specs/Law.antt of protocol; the rules as a relation are in its specs/Steps.antt and specs/Rules.antt.
use Rattle.std.specs.Prelude.{◌≡◌, ℕ, ◌≤◌, true, List, length, take, Some, Ok, Err, Result, slice_get, slice_index}
use Rattle.refusal.specs.declared.Refusal.{Refusal}
use Rattle.record.specs.declared.Record.{Record}
use Rattle.register.specs.Sets.{Set}
use Rattle.protocol.specs.Setup.{Setup, quorum_size}
use Rattle.protocol.specs.Service.{Service}
use Rattle.protocol.specs.State.{State}
use Rattle.protocol.specs.Open.{open_grounds}
use Rattle.protocol.specs.Call as rules
use Rattle.protocol.specs.Life.{Life, state_at, outcomes_of}
use Rattle.protocol.specs.Law.{Signers, OneLedger}
use Rattle.protocol.specs.Steps.{KeepsRules, RefusesOwnOrFull}
use Rattle.bench.specs.States.{status_state}
use Rattle.bench.specs.Setups.{OpenGranted, OpenRefused}
use Rattle.bench.specs.declared.status.Status.{Status}
use Rattle.life.specs.Calls.{call_of, calls_of, outcome_in}
use Rattle.life.specs.declared.call.Outcome.TheVariants.{Yes}
use Rattle.life.specs.declared.call.Turn.{Turn}

pub record WitnessesOf (y : Life) (k : ℕ) (r : Record) (w : List ℕ) : Type 0 where
  pub signers : Signers y k r
  pub first : signers.who ≡ take (quorum_size y.bench) w
  pub others : (j : ℕ) → quorum_size y.bench ≤ j → slice_index w j ≡ 0

pub record CameOf (y : Life) (k : ℕ) (t : Turn) : Type 0 where
  -- the outcome that the rules give
  pub outcome : outcome_in t ≡ slice_get (outcomes_of y) k
  -- and, where it is yes, witnesses of what the call asks for
  pub witnesses :
      (w : List ℕ) (r : Record) → t.outcome ≡ Some (Yes w) → rules.asks_for (call_of t.call) ≡ Some r
      → WitnessesOf y k r w

pub record Lived (y : Life) (before after : List Turn) (z : State) : Type 0 where
  -- the calls are as they were
  pub calls : calls_of after ≡ calls_of before
  -- each turn has what came of its call
  pub came : (k : ℕ) (t : Turn) → slice_get after k ≡ Some t → CameOf y k t
  -- the bench ends in the state to which the rules bring it
  pub state : z ≡ state_at y (length y.calls)
  -- at every step each call that could be put next keeps the rules of the replicas, and is refused, if at all, on its own grounds or since the register is full
  pub rules : KeepsRules y
  pub refusals : RefusesOwnOrFull y
  -- and the life keeps one ledger
  pub ledger : OneLedger y

abbrev pub life_of : (u : Setup) → Service → ℕ → List Turn → open_grounds u true ≡ Ok tt → Life
life_of u V n ts o = record { bench = u; service = V; places = n; calls = calls_of ts; opens = o }

pub record Ran
    (u : Setup) (V : Service) (s : Set) (n : ℕ) (before after : List Turn) (z : State) : Type 0 where
  -- the register was empty, and the open was granted
  pub granted : OpenGranted u s
  pub lived : Lived (life_of u V n before granted.grounds) before after z

abbrev pub Runs : Setup → Service → Set → ℕ → List Turn → Result Status Refusal → List Turn → Set → ℕ → Type 0
Runs u V s n before (Ok z) after s' n' = Ran u V s n before after (status_state z s' n')
Runs u V s n before (Err e) after s' n' = OpenRefused u s e × (after ≡ before)
