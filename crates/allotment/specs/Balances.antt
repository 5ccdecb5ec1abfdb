-- What the allotment service means. Its state is the list of its 16 balances.
--   no_balances           — sixteen balances of 0
--   after_grant b m       — the balance b after a GRANT of m, if it stays in its range
--   after_draw b m        — the balance b after a DRAW of m, if it stays in its range
--   with_balance bs a o   — the balances bs with o, if there is one, as the balance of the account a
--   in_range_answer o     — the answer where o is the new balance, if there is one
--   balances_after bs o   — the balances after the operation o
--   balances_answer bs o  — the answer to the operation o
--   allotment_next        — the balances after 64 bits
--   allotment_answer      — the answer to 64 bits
use Rattle.std.specs.Prelude.{ℕ, ◌+◌, ◌-◌, ◌^◌, cond, List, replicate, Some, None, Option, nat_le, nat_lt, slice_index, slice_set}
use Rattle.service.specs.Operations.{out_of_range, malformed}
use Rattle.allotment.specs.Operations.{allotment_operation}
use Rattle.allotment.specs.declared.operation.Operation.{Operation}
use Rattle.allotment.specs.declared.operation.Operation.TheVariants.{Grant, Draw}

abbrev pub no_balances : List ℕ
no_balances = replicate 16 0

abbrev pub after_grant : ℕ → ℕ → Option ℕ
after_grant b m = cond (nat_lt (b + m) (2 ^ 32)) (Some (b + m)) None

abbrev pub after_draw : ℕ → ℕ → Option ℕ
after_draw b m = cond (nat_le m b) (Some (b - m)) None

abbrev pub with_balance : List ℕ → ℕ → Option ℕ → List ℕ
with_balance bs a (Some b) = slice_set bs a b
with_balance bs a None = bs

abbrev pub in_range_answer : Option ℕ → ℕ
in_range_answer (Some b) = b
in_range_answer None = out_of_range

abbrev pub balances_after : List ℕ → Option Operation → List ℕ
balances_after bs (Some (Grant a m)) = with_balance bs a (after_grant (slice_index bs a) m)
balances_after bs (Some (Draw a m)) = with_balance bs a (after_draw (slice_index bs a) m)
balances_after bs None = bs

abbrev pub balances_answer : List ℕ → Option Operation → ℕ
balances_answer bs (Some (Grant a m)) = in_range_answer (after_grant (slice_index bs a) m)
balances_answer bs (Some (Draw a m)) = in_range_answer (after_draw (slice_index bs a) m)
balances_answer bs None = malformed

abbrev pub allotment_next : List ℕ → ℕ → List ℕ
allotment_next bs op = balances_after bs (allotment_operation op)

abbrev pub allotment_answer : List ℕ → ℕ → ℕ
allotment_answer bs op = balances_answer bs (allotment_operation op)
