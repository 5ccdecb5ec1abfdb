-- The line from which a view starts.
--   Started u h v b  — view v starts from the base b, a line's length and word: 0 and 0 for view 0, else a quorum said ENTRY for it
use Rattle.std.proofs.Common.{ℕ}
use Rattle.register.specs.Sets.{Set}
use Rattle.merge.specs.Checks.{Certified}
use Rattle.protocol.specs.Setup.{Setup, members}

abbrev pub Started : Setup → Set → ℕ → ℕ × ℕ → Type 0
Started u h v b = Certified h (members u) v b
