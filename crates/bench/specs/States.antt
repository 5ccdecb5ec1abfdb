-- A bench as its rules see it, and what a call makes of it.
-- Throughout, g tells what a register of the bench's type holds, how many places are free, and what its memory is; h tells what a service of its type answers.
--   service_of h s        — the service s, by what it answers to an operation after those that it was fed since it was cleared
--   kind_of h s           — the kind of the service s: the state that clearing brings
--   status_state z s n    — the state of a bench with the status z, over a register with the set s and n free places
--   state_of g b          — the state of the bench b
--   meaning_of g h b c    — the meaning of the call c on the bench b
--   Tries g h b c v r     — r is what trying the own grounds of the call c on the bench b answers: v where they grant it, else their refusal
--   feeds c a             — whether the call c feeds the service, where its own grounds answer a
--   Does g h old c a new  — the call c, which is none for a certificate, answered a on the bench old and left the bench new
use Rattle.std.specs.Prelude.{◌≡◌, ℕ, Bool, false, is_ok, Ok, Err, Result}
use Rattle.std.specs.List.{fold}
use Rattle.refusal.specs.Grounds.{Answer}
use Rattle.refusal.specs.declared.Refusal.{Refusal}
use Rattle.service.specs.Operations.{after}
use Rattle.service.specs.declared.Service as service
use Rattle.register.specs.Sets.{Set}
use Rattle.register.specs.declared.Register as register
use Rattle.protocol.specs.Service.{Service}
use Rattle.protocol.specs.State.{State, addition_to}
use Rattle.protocol.specs.Call.{Call, Deliver, Reply, Meaning, Granted, if_granted, meaning}
use Rattle.bench.specs.Setups.{setup_of}
use Rattle.bench.specs.declared.open.Bench.{Bench}
use Rattle.bench.specs.declared.status.Status.{Status}

module _ {S : Type 0} (h : service.Ghosts S) where
  abbrev pub service_of : S → Service
  service_of s ops op = h.answer (after h.next (h.fresh (h.state s)) ops) op

  abbrev pub kind_of : S → h.State
  kind_of s = h.fresh (h.state s)

abbrev pub status_state : Status → Set → ℕ → State
status_state z s n = record { stamped = z.operations.items; held = s; free = n; replicas = z.replicas }

abbrev pub state_of : {R S : Type 0} → register.Ghosts R → Bench R S → State
state_of g b = status_state b.status (g.held b.register.now) (g.free b.register.now)

abbrev pub feeds : Call → Answer → Bool
feeds (Deliver i s) a = is_ok a
feeds (Reply i s) a = is_ok a
feeds c a = false

module _ {R S : Type 0} (g : register.Ghosts R) (h : service.Ghosts S) (old : Bench R S) (c : Call) where
  abbrev pub meaning_of : Meaning
  meaning_of = meaning (setup_of old.setup) (service_of h old.service.now) (state_of g old) c

  abbrev pub Tries : {V : Type 0} → V → Result V Refusal → Type 0
  Tries v (Ok w) = (meaning_of.own ≡ Ok tt) × (w ≡ v)
  Tries v (Err e) = meaning_of.own ≡ Err e

  pub record Does (a : Answer) (new : Bench R S) : Type 0 where
    -- the answer, and the state afterwards, are those of the call's definition
    pub answer : if_granted a Granted ≡ meaning_of.outcome
    pub after : state_of g new ≡ meaning_of.after
    -- the register's memory is what storing the statement makes of it that the call adds, if it adds one
    pub memory :
        g.memory new.register.now
        ≡ fold g.stores (g.memory old.register.now) (addition_to (state_of g old) meaning_of.enters)
    -- the service keeps its kind, and stays as it is where it is not fed
    pub kind : kind_of h new.service.now ≡ kind_of h old.service.now
    pub service : feeds c meaning_of.own ≡ false → new.service.now ≡ old.service.now
    -- who the replicas are stays, and the bench keeps the register and the service that are lent to it
    pub setup : new.setup ≡ old.setup
    pub register_lent : new.register.ghost_name ≡ old.register.ghost_name
    pub service_lent : new.service.ghost_name ≡ old.service.ghost_name
