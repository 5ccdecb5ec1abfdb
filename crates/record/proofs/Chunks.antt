-- The chunks of 20 bytes that a list of bytes is cut into are its places.
use Rattle.std.proofs.Common.{◌≡◌, ℕ, zero, suc, ◌+◌, ◌*◌, List, ◌∷◌, map, drop, refl, ap, ◌∙◌, arith}
use Rattle.std.proofs.lemmas.List.{drop-drop}
use Rattle.std.specs.List.{range_with_len}
use Rattle.std.specs.Simd.{first_chunks}
use Rattle.record.specs.Tapes.{place}

module _ (b : List ℕ) where
  chunks_from : (n i : ℕ) → first_chunks 20 n (drop (20 * i) b) ≡ map (λ k. place k b) (range_with_len i n)
  chunks_from zero i = refl
  chunks_from (suc n) i =
      let next : 20 * i + 20 ≡ 20 * (i + 1) = omega arith in
      ap (λ (ps : List (List ℕ)). place i b ∷ ps)
      (ap (first_chunks 20 n) (drop-drop 20 (20 * i) b ∙ ap (λ (k : ℕ). drop k b) next) ∙ chunks_from n (i + 1))

  pub chunks_are : (n : ℕ) → first_chunks 20 n b ≡ map (λ k. place k b) (range_with_len 0 n)
  chunks_are n = chunks_from n 0
