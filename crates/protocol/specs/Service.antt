-- Which operations the slots are stamped with, and what a service answers along a word.
--   Book               — for each slot the operation that is stamped there, if one is
--   book ops           — the book where the operations ops are stamped, that of slot 0 first
--   is_stamped ops l   — whether slot l is stamped
--   Known b l          — slot l has an operation in the book b
--   Service            — a service, by what it answers to an operation after those that it was fed since it was cleared
--   fed b w s          — the operations that a service is fed from slot 0 up to slot s, itself not among them: those of stamped slots that the word w has as operations
--   operation_at b s   — the operation stamped at slot s, or 0 where there is none
--   answer_at V b w s  — what a freshly cleared service answers to the operation of slot s, after it was fed those of fed b w s
--   single V b w s     — the single service's answer for slot s along the word w, if it has one: at a no-op and at an unstamped slot it has none
-- book, fed, answer_at and single are shut: a proof that looks inside them says so.
use Rattle.std.specs.Prelude.{◌≡◌, ℕ, zero, suc, Bool, cond, List, [], ◌++◌, length, Some, None, Option, option_map, option_to_list, unwrap_or, nat_lt, slice_index}
use Rattle.replica.specs.Words.{bit}

abbrev pub Book : Type 0
Book = ℕ → Option ℕ

abbrev pub is_stamped : List ℕ → ℕ → Bool
is_stamped ops l = nat_lt l (length ops)

unfoldable pub book : List ℕ → Book
book ops l = cond (is_stamped ops l) (Some (slice_index ops l)) None

abbrev pub Known : Book → ℕ → Type 0
Known b l = (o : ℕ) × (b l ≡ Some o)

abbrev pub Service : Type 0
Service = List ℕ → ℕ → ℕ

unfoldable pub fed : Book → ℕ → ℕ → List ℕ
fed b w zero = []
fed b w (suc l) = cond (bit w l) (fed b w l) (fed b w l ++ option_to_list (b l))

abbrev pub operation_at : Book → ℕ → ℕ
operation_at b s = unwrap_or (b s) 0

unfoldable pub answer_at : Service → Book → ℕ → ℕ → ℕ
answer_at V b w s = V (fed b w s) (operation_at b s)

unfoldable pub single : Service → Book → ℕ → ℕ → Option ℕ
single V b w s = cond (bit w s) None (option_map (λ _. answer_at V b w s) (b s))
