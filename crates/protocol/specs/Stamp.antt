-- The call stamp: the operation goes to the lowest unstamped slot.
--   stamp x op  — the call on a bench in the state x
use Rattle.std.specs.Prelude.{ℕ, [], ◌∷◌, ◌++◌, length, Ok, nat_lt}
use Rattle.refusal.specs.Grounds.{unless}
use Rattle.refusal.specs.declared.Ground.TheVariants.{SlotsExhausted}
use Rattle.protocol.specs.State.{State, Action, idle}

abbrev pub stamp : State → ℕ → Action
stamp x op =
    record (idle x) {
      grounds = unless (nat_lt (length x.stamped) 64) SlotsExhausted 0 (Ok tt);
      stamped = x.stamped ++ op ∷ [];
    }
