use Rattle.std.proofs.Common.{◌≡◌, ℕ, ◌<◌, List, length, map, Some, None, Option, get_or, ap, ◌∙◌, arith, zero-add, Bor}
use Rattle.std.specs.List.{range_with_len}
use Rattle.std.proofs.lemmas.List.FromFn.{get_or-map-range_with_len, length-map-range_with_len}
use Rattle.std.specs.Slice.{IsItemAt}
use Rattle.record.specs.Tapes.{places, place}
use Rattle.record.specs.Reads.{IsPart}
use Rattle.record.proofs.Chunks.{chunks_are}
use Rattle.record.proofs.tape.part_at.Goals as goal

-- what `get` finds among the places
at_place : (b : List ℕ) (i : ℕ) (xs : List (List ℕ)) (o : Option (Bor (List ℕ))) → xs ≡ map (λ k. place k b) (range_with_len 0 (places b)) → IsItemAt xs i o → IsPart b i o
at_place b i xs None e p =
    let n : length xs ≡ places b = ap length e ∙ length-map-range_with_len (λ k. place k b) 0 (places b) in
    omega (arith, p.3)
at_place b i xs (Some y) e p =
    let n : length xs ≡ places b = ap length e ∙ length-map-range_with_len (λ k. place k b) 0 (places b) in
    let below : i < places b = omega (arith, p.3.0) in
    (below, p.1 ∙ ap (λ (l : List (List ℕ)). get_or l i y.now) e ∙ get_or-map-range_with_len (λ k. place k b) 0 (places b) i i y.now below (zero-add i))

pub returns : goal.returns
returns c =
    let b = c.args.tape.now in
    at_place b c.args.position _ _ (c.parts.ensures ∙ chunks_are b (places b)) c.get.ensures.lookup
