-- Every call of every life keeps the rules and is refused on its own grounds or since the register is full, and every life keeps one ledger.
use Rattle.std.proofs.Common.{◌≡◌, ℕ, zero, suc, length, get_or, replicate, take, sym, refl, subst}
use Rattle.replica.specs.Replicas.{initial}
use Rattle.protocol.specs.Setup.{Setup}
use Rattle.protocol.specs.Service.{Service}
use Rattle.protocol.specs.State.{State, opened}
use Rattle.protocol.specs.Call.{Call, meaning}
use Rattle.protocol.specs.Life.{Life, state_at}
use Rattle.protocol.specs.Law.{OneLedger}
use Rattle.protocol.specs.Steps.{model, KeepsRules, RefusesOwnOrFull}
use Rattle.protocol.proofs.Invariant.{Inv}
use Rattle.protocol.proofs.Opening.{bound_of_open, few_of_open}
use Rattle.protocol.proofs.Layouts.{Short}
use Rattle.protocol.proofs.Stepping.{Sound}
use Rattle.protocol.proofs.Calls.{call_step}
use Rattle.protocol.proofs.Keeping.{opening, opening_inv, allowed_inv}
use Rattle.protocol.proofs.Entries.{kept_after}
use Rattle.protocol.proofs.OneLine.{one_line}
use Rattle.protocol.proofs.Lives.{ledger}

sound_next : (u : Setup) (V : Service) (x : State) (c : Call) → Sound u V x → Sound u V (meaning u V x c).after
sound_next u V x c S =
    let K = call_step u V x S c in
    record {
      inv = subst (Inv u V) (sym K.step.moves) (allowed_inv u V (model x) S.inv K.step.move K.step.allowed K.step.in_layout);
      faults = S.faults;
      room = K.room;
    }

all_initial : (n j : ℕ) → get_or (replicate n initial) j initial ≡ initial
all_initial zero j = refl
all_initial (suc n) zero = refl
all_initial (suc n) (suc j) = all_initial n j

opens_as_model : (n : ℕ) → opening ≡ model (opened n)
opens_as_model n k =
    record { stamped = opening.stamped; held = opening.held; replica = λ j. sym (all_initial 16 j) k }

state_sound : (y : Life) (k : ℕ) → Sound y.bench y.service (state_at y k)
state_sound y k =
    kept_after y.bench y.service (Sound y.bench y.service) (sound_next y.bench y.service) (take k y.calls) (opened y.places)
    (record {
      inv = subst (Inv y.bench y.service) (opens_as_model y.places) (opening_inv y.bench y.service (few_of_open y.bench y.opens));
      faults = bound_of_open y.bench y.opens;
      room = refl;
    })

pub keeps_rules : (y : Life) → KeepsRules y
keeps_rules y k c = (call_step y.bench y.service (state_at y k) (state_sound y k) c).step

pub refuses_own_or_full : (y : Life) → Short y.service → RefusesOwnOrFull y
refuses_own_or_full y short k c = (call_step y.bench y.service (state_at y k) (state_sound y k) c).refusals short

pub one_ledger : (y : Life) → OneLedger y
one_ledger y =
    let good = λ (k : ℕ). (state_sound y k).inv in
    ledger y good (one_line y.bench y.service (model (state_at y (length y.calls))) (good (length y.calls)))
