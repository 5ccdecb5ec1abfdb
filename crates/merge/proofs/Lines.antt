-- Laws of the merge.
use Rattle.std.proofs.Common.{◌≡◌, ℕ, ◌^◌, ◌<◌, ◌≤◌, max, Bool, true, false, cond, eqb, ◌⊎◌, List, [], ◌∷◌, sym, refl, ap, ◌∙◌, subst, ap₂, inl, inr, arith}
use mathlib.Core.List.{Perm}
use lib.Bits.{bit_or, or_lt}
use Rattle.std.specs.List.{AllByRecursion}
use Rattle.std.proofs.ByRecursion.{All-weaker}
use Rattle.std.proofs.lemmas.Bool.{eqb-true, eq-eqb, or_left, or_right, or_cases, cond_both}
use Rattle.record.specs.declared.Record.{Record}
use Rattle.replica.specs.Words.{bit}
use Rattle.replica.proofs.Words.{bit_of_or}
use Rattle.merge.proofs.Joins.{alike, max_swap, joins_reaches, joins_words, joins_alike}
use Rattle.merge.specs.Merges.{top, merged_length, merged_word, MergesAlike}

top_alike : (ps qs : List Record) → Perm ps qs → top ps ≡ top qs
top_alike = alike top (λ p n. max p.last n) (λ _ _. refl) (λ p q n. max_swap p.last q.last n)

pub merges_alike : MergesAlike
merges_alike b ps qs h =
    let e = top_alike ps qs h in
    let t = top qs in
    ap₂ (λ (n w : ℕ). (n, w))
    (ap (λ (v : ℕ). merged_length v b.0 ps) e
    ∙ joins_alike (joins_reaches t) b.0 ps qs h)
    (ap (λ (v : ℕ). merged_word v b.1 ps) e
    ∙ joins_alike (joins_words t) b.1 ps qs h)

pub top_over : (ps : List Record) → AllByRecursion (λ p. p.last ≤ top ps) ps
top_over [] = tt
top_over (p ∷ ps) = (omega arith, All-weaker _ _ (λ q h. omega arith) ps (top_over ps))

pub top_below : (v : ℕ) (ps : List Record) → 0 < v → AllByRecursion (λ p. p.last < v) ps → top ps < v
top_below v [] h f = h
top_below v (p ∷ ps) h f = omega (arith, f.0, top_below v ps h f.1)

length_step : (b : Bool) (s n : ℕ) → n ≤ cond b (max s n) n
length_step b s n = cond_both b (max s n) n (λ m. n ≤ m) (λ _. omega arith) (λ _. omega arith)

pub length_base : (t n : ℕ) (ps : List Record) → n ≤ merged_length t n ps
length_base t n [] = omega arith
length_base t n (p ∷ ps) =
    omega (arith, length_base t n ps, length_step (eqb p.last t) p.slot (merged_length t n ps))

pub length_picks : (t n : ℕ) (ps : List Record) → AllByRecursion (λ p. p.last ≡ t → p.slot ≤ merged_length t n ps) ps
length_picks t n [] = tt
length_picks t n (p ∷ ps) =
    let m = merged_length t n ps in (
      λ e. subst (λ (b : Bool). p.slot ≤ cond b (max p.slot m) m) (sym (eq-eqb p.last t e)) (omega arith),
      All-weaker _ _ (λ q f e. omega (arith, f e, length_step (eqb p.last t) p.slot m)) ps (length_picks t n ps),
    )

pub length_least : (t n k : ℕ) (ps : List Record) → n ≤ k → AllByRecursion (λ p. p.last ≡ t → p.slot ≤ k) ps → merged_length t n ps ≤ k
length_least t n k [] h f = h
length_least t n k (p ∷ ps) h f =
    let rest = length_least t n k ps h f.1 in
    cond_both (eqb p.last t) _ _ (λ m. m ≤ k) (λ e. omega (arith, rest, f.0 (eqb-true p.last t e))) (λ _. rest)

pub word_below : (t w k : ℕ) (ps : List Record) → w < 2 ^ k → AllByRecursion (λ p. p.last ≡ t → p.word < 2 ^ k) ps → merged_word t w ps < 2 ^ k
word_below t w k [] h f = h
word_below t w k (p ∷ ps) h f =
    let rest = word_below t w k ps h f.1 in
    cond_both (eqb p.last t) _ _ (λ m. m < 2 ^ k) (λ e. or_lt k p.word (merged_word t w ps) (f.0 (eqb-true p.last t e)) rest) (λ _. rest)

word_step : (b : Bool) (l v w : ℕ) → bit w l ≡ true → bit (cond b (bit_or v w) w) l ≡ true
word_step b l v w h =
    cond_both b (bit_or v w) w (λ m. bit m l ≡ true) (λ _. bit_of_or l v w ∙ or_right (bit v l) (bit w l) h) (λ _. h)

pub word_base : (t w l : ℕ) (ps : List Record) → bit w l ≡ true → bit (merged_word t w ps) l ≡ true
word_base t w l [] h = h
word_base t w l (p ∷ ps) h = word_step (eqb p.last t) l p.word (merged_word t w ps) (word_base t w l ps h)

pub word_picks : (t w : ℕ) (ps : List Record) → AllByRecursion (λ p. p.last ≡ t → (l : ℕ) → bit p.word l ≡ true → bit (merged_word t w ps) l ≡ true) ps
word_picks t w [] = tt
word_picks t w (p ∷ ps) =
    let m = merged_word t w ps in (
      λ e l h. subst (λ (b : Bool). bit (cond b (bit_or p.word m) m) l ≡ true) (sym (eq-eqb p.last t e)) (bit_of_or l p.word m ∙ or_left (bit p.word l) (bit m l) h),
      All-weaker _ _ (λ q f e l h. word_step (eqb p.last t) l p.word m (f e l h)) ps (word_picks t w ps),
    )

-- a bit of the merge comes from the base or from a pick
pub word_from : (t w l : ℕ) (A : Type 0) (ps : List Record) → AllByRecursion (λ p. p.last ≡ t → bit p.word l ≡ true → A) ps → bit (merged_word t w ps) l ≡ true → (bit w l ≡ true) ⊎ A
word_from t w l A [] f h = inl h
word_from t w l A (p ∷ ps) f h = go (eqb p.last t) refl h (word_from t w l A ps f.1)
  where
    go : (b : Bool) → eqb p.last t ≡ b → bit (cond b (bit_or p.word (merged_word t w ps)) (merged_word t w ps)) l ≡ true → (bit (merged_word t w ps) l ≡ true → (bit w l ≡ true) ⊎ A) → (bit w l ≡ true) ⊎ A
    go true e k rest = elim (or_cases (bit p.word l) (bit (merged_word t w ps) l) (sym (bit_of_or l p.word (merged_word t w ps)) ∙ k)) [
      | inl b ↦ inr (f.0 (eqb-true p.last t e) b)
      | inr b ↦ rest b
    ]
    go false e k rest = rest k
