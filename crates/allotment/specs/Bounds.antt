-- A balance stays below 2^32, so every answer has 64 bits. The trait's law takes its proof from here.
--   allotment_short  — whatever operations the service was fed since it was cleared, it answers 64 bits; proved
use Rattle.std.proofs.Common.{◌≡◌, ℕ, zero, suc, ◌+◌, ◌-◌, ◌^◌, ◌<◌, Bool, true, false, cond, List, [], ◌∷◌, Option, Some, None, nat_le, nat_lt, slice_index, slice_set, replicate, ltb-true, refl, arith}
use Rattle.std.specs.List.{AllByRecursion}
use Rattle.service.specs.Operations.{after}
use Rattle.allotment.specs.Balances.{no_balances, after_grant, after_draw, with_balance, in_range_answer, balances_after, balances_answer, allotment_next, allotment_answer}
use Rattle.allotment.specs.Operations.{allotment_operation}
use Rattle.allotment.specs.declared.operation.Operation.{Operation}
use Rattle.allotment.specs.declared.operation.Operation.TheVariants.{Grant, Draw}

abbrev InRange : ℕ → Type 0
InRange b = b < 2 ^ 32

abbrev AllInRange : List ℕ → Type 0
AllInRange bs = AllByRecursion InRange bs

-- a new balance, if there is one
abbrev NewInRange : Option ℕ → Type 0
NewInRange (Some b) = InRange b
NewInRange None = Unit {0}

new_if : (b : Bool) (n : ℕ) → (b ≡ true → InRange n) → NewInRange (cond b (Some n) None)
new_if true n h = h refl
new_if false n h = tt

after_grant_in_range : (b m : ℕ) → NewInRange (after_grant b m)
after_grant_in_range b m = new_if (nat_lt (b + m) (2 ^ 32)) (b + m) (λ e. ltb-true _ _ e)

after_draw_in_range : (b m : ℕ) → InRange b → NewInRange (after_draw b m)
after_draw_in_range b m h = new_if (nat_le m b) (b - m) (λ _. omega arith)

balance_in_range : (bs : List ℕ) (a : ℕ) → AllInRange bs → InRange (slice_index bs a)
balance_in_range [] a h = omega arith
balance_in_range (b ∷ bs) zero h = h.0
balance_in_range (b ∷ bs) (suc a) h = balance_in_range bs a h.1

set_in_range : (bs : List ℕ) (a n : ℕ) → AllInRange bs → InRange n → AllInRange (slice_set bs a n)
set_in_range [] a n h i = tt
set_in_range (b ∷ bs) zero n h i = (i, h.1)
set_in_range (b ∷ bs) (suc a) n h i = (h.0, set_in_range bs a n h.1 i)

with_balance_in_range : (bs : List ℕ) (a : ℕ) (o : Option ℕ) → AllInRange bs → NewInRange o → AllInRange (with_balance bs a o)
with_balance_in_range bs a (Some n) h i = set_in_range bs a n h i
with_balance_in_range bs a None h i = h

after_in_range : (bs : List ℕ) (o : Option Operation) → AllInRange bs → AllInRange (balances_after bs o)
after_in_range bs (Some (Grant a m)) h = with_balance_in_range bs a _ h (after_grant_in_range (slice_index bs a) m)
after_in_range bs (Some (Draw a m)) h = with_balance_in_range bs a _ h (after_draw_in_range (slice_index bs a) m (balance_in_range bs a h))
after_in_range bs None h = h

all_in_range : (bs : List ℕ) (ops : List ℕ) → AllInRange bs → AllInRange (after allotment_next bs ops)
all_in_range bs [] h = h
all_in_range bs (op ∷ ops) h = all_in_range (allotment_next bs op) ops (after_in_range bs (allotment_operation op) h)

in_range_short : (o : Option ℕ) → NewInRange o → in_range_answer o < 2 ^ 64
in_range_short (Some b) h = omega arith
in_range_short None h = omega arith

balances_answer_short : (bs : List ℕ) (o : Option Operation) → AllInRange bs → balances_answer bs o < 2 ^ 64
balances_answer_short bs (Some (Grant a m)) h = in_range_short _ (after_grant_in_range (slice_index bs a) m)
balances_answer_short bs (Some (Draw a m)) h = in_range_short _ (after_draw_in_range (slice_index bs a) m (balance_in_range bs a h))
balances_answer_short bs None h = omega arith

zeros_in_range : (n : ℕ) → AllInRange (replicate n 0)
zeros_in_range zero = tt
zeros_in_range (suc n) = (omega arith, zeros_in_range n)

pub allotment_short : (ops : List ℕ) (op : ℕ) → allotment_answer (after allotment_next no_balances ops) op < 2 ^ 64
allotment_short ops op = balances_answer_short (after allotment_next no_balances ops) (allotment_operation op) (all_in_range no_balances ops (zeros_in_range 16))
