-- The merge of the picks for a view change: the VIEW-CHANGE statements of a quorum.
--   top ps                — the greatest last of the picks ps
--   merged_length t n ps  — n, or the furthest reach of a pick whose last is t, if that is more
--   merged_word t w ps    — w with every bit that the word of a pick has whose last is t
--   merge b ps            — the line that the picks merge to over the base b: a pair, length and word
--   MergesAlike           — in which order picks are given makes no difference to their merge
use Rattle.std.specs.Prelude.{◌≡◌, ℕ, max, cond, List, [], ◌∷◌, ◌==◌, bit_or}
use mathlib.Core.List.{Perm}
use Rattle.record.specs.declared.Record.{Record}

abbrev pub top : List Record → ℕ
top [] = 0
top (p ∷ ps) = max p.last (top ps)

abbrev pub merged_length : ℕ → ℕ → List Record → ℕ
merged_length t n [] = n
merged_length t n (p ∷ ps) = cond (p.last == t) (max p.slot (merged_length t n ps)) (merged_length t n ps)

abbrev pub merged_word : ℕ → ℕ → List Record → ℕ
merged_word t w [] = w
merged_word t w (p ∷ ps) = cond (p.last == t) (bit_or p.word (merged_word t w ps)) (merged_word t w ps)

abbrev pub merge : ℕ × ℕ → List Record → ℕ × ℕ
merge b ps = (merged_length (top ps) b.0 ps, merged_word (top ps) b.1 ps)

abbrev pub MergesAlike : Type 0
MergesAlike = (b : ℕ × ℕ) (ps qs : List Record) → Perm ps qs → merge b ps ≡ merge b qs
