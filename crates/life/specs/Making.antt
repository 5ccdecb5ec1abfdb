-- Calls while a life runs: what making one comes to, and what is known once the first of them are made.
-- Throughout, g tells what a register of the bench's type holds, how many places are free, and what its memory is; h tells what a service of its type answers.
--   Backed m p w                  — w has at least a quorum of the membership m; the first numbers, as many as a quorum, are different, are below m.replicas and pass the test p, and the others are 0
--   Keeps h old new               — the bench new has the setup of the bench old, the register and the service that were lent to it, and a service of the same kind
--   Makes g h old c o new         — the call c was made on the bench old; o came of it, and the bench is new then
--   Made u V x cs j t             — the turn t has what came of the call in the place j of the calls cs, which were made in turn from the state x of a bench u with the service V
--   Underway g h old cs k ts new  — of the turns ts, with the calls cs, the first k were made on the bench old, which is new then
use Rattle.std.specs.Prelude.{◌≡◌, ℕ, ◌<◌, ◌≤◌, Bool, List, length, take, Some, slice_get}
use Rattle.std.specs.List.{fold}
use Rattle.record.specs.declared.Record.{Record}
use Rattle.service.specs.declared.Service as service
use Rattle.register.specs.declared.Register as register
use Rattle.quorum.specs.Quorums.{said, Witnesses}
use Rattle.quorum.specs.declared.Membership.{Membership}
use Rattle.protocol.specs.Setup.{Setup, members}
use Rattle.protocol.specs.Service.{Service}
use Rattle.protocol.specs.State.{State, addition_to}
use Rattle.protocol.specs.Call as rules
use Rattle.protocol.specs.Life.{run, outcomes, additions}
use Rattle.bench.specs.Setups.{setup_of}
use Rattle.bench.specs.States.{service_of, kind_of, state_of, meaning_of}
use Rattle.bench.specs.declared.open.Bench.{Bench}
use Rattle.life.specs.Calls.{call_of, calls_of, without_witnesses, outcome_in}
use Rattle.life.specs.declared.call.Outcome.{Outcome}
use Rattle.life.specs.declared.call.Outcome.TheVariants.{Yes}
use Rattle.life.specs.declared.call.Turn.{Turn}

abbrev pub Backed : Membership → (ℕ → Bool) → List ℕ → Type 0
Backed m p w = (m.quorum ≤ length w) × Witnesses m.replicas m.quorum p w

pub record Keeps {R S : Type 0} (h : service.Ghosts S) (old new : Bench R S) : Type 0 where
  pub setup : new.setup ≡ old.setup
  pub register : new.register.ghost_name ≡ old.register.ghost_name
  pub service : new.service.ghost_name ≡ old.service.ghost_name
  pub kind : kind_of h new.service.now ≡ kind_of h old.service.now

pub record Made (u : Setup) (V : Service) (x : State) (cs : List rules.Call) (j : ℕ) (t : Turn) : Type 0 where
  pub outcome : outcome_in t ≡ slice_get (outcomes u V x cs) j
  pub witnesses :
      (w : List ℕ) (r : Record) → t.outcome ≡ Some (Yes w) → rules.asks_for (call_of t.call) ≡ Some r
      → Backed (members u) (said (run u V x (take j cs)).held r) w

module _ {R S : Type 0} (g : register.Ghosts R) (h : service.Ghosts S) (old : Bench R S) where
  pub record Makes (c : rules.Call) (o : Outcome) (new : Bench R S) : Type 0 where
    pub outcome : without_witnesses o ≡ (meaning_of g h old c).outcome
    pub after : state_of g new ≡ (meaning_of g h old c).after
    pub memory :
        g.memory new.register.now
        ≡ fold g.stores (g.memory old.register.now) (addition_to (state_of g old) (meaning_of g h old c).enters)
    pub witnesses :
        (w : List ℕ) (r : Record) → o ≡ Yes w → rules.asks_for c ≡ Some r
        → Backed (members (setup_of old.setup)) (said (state_of g old).held r) w
    pub keeps : Keeps h old new

  pub record Underway (cs : List rules.Call) (k : ℕ) (ts : List Turn) (new : Bench R S) : Type 0 where
    pub calls : calls_of ts ≡ cs
    pub made :
        (j : ℕ) (t : Turn) → j < k → slice_get ts j ≡ Some t
        → Made (setup_of old.setup) (service_of h old.service.now) (state_of g old) cs j t
    pub state :
        state_of g new ≡ run (setup_of old.setup) (service_of h old.service.now) (state_of g old) (take k cs)
    pub memory :
        g.memory new.register.now
        ≡ fold g.stores (g.memory old.register.now)
        (additions (setup_of old.setup) (service_of h old.service.now) (state_of g old) (take k cs))
    pub keeps : Keeps h old new
