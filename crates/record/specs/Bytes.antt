-- Numbers as bytes, and fields of bits.
--   be k n        — the k lowest bytes of n, the most significant first
--   Field         — a field: its width in bits, and its value
--   of_width w v  — the field of w bits that holds v
--   joined n fs   — the bits of n, then those of the fields fs, end to end, as one number
use Rattle.std.specs.Prelude.{ℕ, zero, suc, ◌+◌, ◌*◌, ◌/◌, ◌%◌, ◌^◌, List, [], ◌∷◌}

unfoldable pub be : ℕ → ℕ → List ℕ
be zero n = []
be (suc k) n = n / 256 ^ k % 256 ∷ be k n

pub record Field : Type 0 where
  pub width : ℕ
  pub value : ℕ

abbrev pub of_width : ℕ → ℕ → Field
of_width w v = record { width = w; value = v }

abbrev pub joined : ℕ → List Field → ℕ
joined n [] = n
joined n (f ∷ fs) = joined (n * 2 ^ f.width + f.value) fs
