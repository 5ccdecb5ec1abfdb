-- Opening a bench over a register and a service that are lent to it.
-- Throughout, g tells what a register of the type R holds and how many places are free; r and s are the register and the service that are lent.
--   Opened g u r s b  — the bench b is u, newly opened: nothing is stamped, and every replica is as at opening. It holds the register and the service, which are as they were
--   HandedBack r s e  — e holds the register and the service, which are as they were
--   Opens g u r s a   — a is what opening a bench u answers: the bench where it is granted, else the refusal, with the register and the service
use Rattle.std.specs.Prelude.{◌≡◌, Ok, Err, Result}
use Rattle.std.specs.Borrow.{MutBor}
use Rattle.register.specs.declared.Register.{Ghosts}
use Rattle.protocol.specs.Setup.{Setup}
use Rattle.protocol.specs.State.{opened_over}
use Rattle.bench.specs.Setups.{setup_of, OpenGranted, OpenRefused}
use Rattle.bench.specs.States.{state_of}
use Rattle.bench.specs.declared.open.Bench.{Bench}
use Rattle.bench.specs.declared.open.Unopened.{Unopened}

module _ {R S : Type 0} where
  pub record Opened (g : Ghosts R) (u : Setup) (r : MutBor R) (s : MutBor S) (b : Bench R S) : Type 0 where
    pub setup : setup_of b.setup ≡ u
    pub state : state_of g b ≡ opened_over (g.held r.now) (g.free r.now)
    pub register : b.register.now ≡ r.now
    pub service : b.service.now ≡ s.now
    pub register_lent : b.register.ghost_name ≡ r.ghost_name
    pub service_lent : b.service.ghost_name ≡ s.ghost_name

  pub record HandedBack (r : MutBor R) (s : MutBor S) (e : Unopened R S) : Type 0 where
    pub register : e.register.now ≡ r.now
    pub service : e.service.now ≡ s.now
    pub register_lent : e.register.ghost_name ≡ r.ghost_name
    pub service_lent : e.service.ghost_name ≡ s.ghost_name

  abbrev pub Opens : Ghosts R → Setup → MutBor R → MutBor S → Result (Bench R S) (Unopened R S) → Type 0
  Opens g u r s (Ok b) = OpenGranted u (g.held r.now) × Opened g u r s b
  Opens g u r s (Err e) = OpenRefused u (g.held r.now) e.refusal × HandedBack r s e
