-- Words: numbers of 64 bits that tell of every slot whether it is a no-op, slot l by the bit worth 2^l.
--   bit w l          — whether bit l of the word w is set
--   with_bit w l     — w with bit l set; there are 64 bits, so for another l w as it is
--   without_bit w l  — w with bit l cleared
--   one_past w       — one past the highest bit of the 64-bit word w that is set, from its leading zeros; 0 where none is
-- All are shut: the laws are in proofs/Words.antt.
use Rattle.std.specs.Prelude.{ℕ, ◌-◌, ◌/◌, ◌%◌, ◌^◌, Bool, cond, ◌==◌, bit_and, bit_or, nat_lt}
use Rattle.std.specs.Int.Count.{count_leading_zeros}

unfoldable pub bit : ℕ → ℕ → Bool
bit w l = w / 2 ^ l % 2 == 1

unfoldable pub with_bit : ℕ → ℕ → ℕ
with_bit w l = cond (nat_lt l 64) (bit_or w (2 ^ l)) w

unfoldable pub without_bit : ℕ → ℕ → ℕ
without_bit w l = w - bit_and w (2 ^ l)

unfoldable pub one_past : ℕ → ℕ
one_past w = 64 - count_leading_zeros 64 w
