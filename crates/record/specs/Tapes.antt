-- Tapes: packed records with nothing between them, at least one.
--   whole b    — b can be a tape: not empty, and a whole number of records
--   places b   — how many records b has room for
--   place i b  — the 20 bytes of the record at position i of b
use Rattle.std.specs.Prelude.{ℕ, ◌*◌, ◌/◌, ◌%◌, Bool, not, ◌&&◌, List, length, take, drop, ◌==◌}

abbrev pub whole : List ℕ → Bool
whole b = not (length b == 0) && length b % 20 == 0

abbrev pub places : List ℕ → ℕ
places b = length b / 20

abbrev pub place : ℕ → List ℕ → List ℕ
place i b = take 20 (drop (20 * i) b)
