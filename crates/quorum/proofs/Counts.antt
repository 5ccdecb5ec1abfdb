-- A count, one number more.
use Rattle.std.proofs.Common.{List, [], ◌∷◌, ◌++◌, length, length-append, ◌≡◌, ℕ, zero, suc, ◌+◌, ◌≤◌, Bool, true, false, cond, refl, ap, ◌∙◌, inl, inr, add-one, sym, ap₂, map-id, arith}
use Rattle.std.proofs.lemmas.Bool.{cases_Bool, cases_eq}
use Rattle.std.specs.List.{filter, range_with_len}
use Rattle.std.proofs.lemmas.List.FromFn.{filter_of_map_range_with_len_more}
use Rattle.quorum.specs.Quorums.{count}

module _ (p : ℕ → Bool) where
  pub count_none : count 0 p ≡ 0
  unfolding count
  count_none = refl

  count_more : (i : ℕ) → count (i + 1) p ≡ count i p + cond (p i) 1 0
  unfolding count
  count_more i = ap (λ (k : ℕ). count k p) (add-one i)

  pub count_yes : (i : ℕ) → p i ≡ true → count (i + 1) p ≡ count i p + 1
  count_yes i h = count_more i ∙ ap (λ (b : Bool). count i p + cond b 1 0) h

  pub count_no : (i : ℕ) → p i ≡ false → count (i + 1) p ≡ count i p
  count_no i h = let e = count_more i ∙ ap (λ (b : Bool). count i p + cond b 1 0) h in omega (arith, e)

  pub count_below : (n : ℕ) → count n p ≤ n
  unfolding count
  count_below zero = omega arith
  count_below (suc n) =
      let rest = count_below n in
      elim (cases_Bool (p n)) [
        | inl h ↦ let e = ap (λ (b : Bool). count n p + cond b 1 0) h in omega (arith, e, rest)
        | inr h ↦ let e = ap (λ (b : Bool). count n p + cond b 1 0) h in omega (arith, e, rest)
      ]

  -- a longer row has no fewer that pass
  pub count_rises : (i n : ℕ) → i ≤ n → count i p ≤ count n p
  unfolding count
  count_rises i zero l = let e : i ≡ 0 = omega arith in let f = ap (λ (k : ℕ). count k p) e in omega (arith, f)
  count_rises i (suc n) l =
      let rest = count_rises i n in
      elim (cases_eq i (suc n)) [
        | inl e ↦ let f = ap (λ (k : ℕ). count k p) e in omega (arith, f)
        | inr e ↦ let r = rest (omega arith) in omega (arith, r)
      ]

-- ---- the numbers that pass, in a list

-- the numbers below n that pass the test p, rising
abbrev passing : ℕ → (ℕ → Bool) → List ℕ
passing n p = filter p (range_with_len 0 n)

length_one : (n : ℕ) (b : Bool) → length (cond b (n ∷ []) []) ≡ cond b 1 0
length_one n true = refl
length_one n false = refl

module _ (p : ℕ → Bool) where
  passing_more : (n : ℕ) → passing (n + 1) p ≡ passing n p ++ cond (p n) (n ∷ []) []
  passing_more n = simp map-id at (filter_of_map_range_with_len_more p (λ k. k) 0 n n (omega arith))

  pub length-passing : (n : ℕ) → length (passing n p) ≡ count n p
  unfolding count
  length-passing zero = refl
  length-passing (suc n) =
      ap (λ (k : ℕ). length (passing k p)) (sym (add-one n))
      ∙ ap length (passing_more n)
      ∙ length-append (passing n p) (cond (p n) (n ∷ []) [])
      ∙ ap₂ ◌+◌ (length-passing n) (length_one n (p n))
