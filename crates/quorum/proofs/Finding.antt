-- The witnesses found so far, while a range of numbers is looked through.
use Rattle.std.proofs.Common.{◌≡◌, ℕ, zero, suc, ◌+◌, ◌<◌, ◌≤◌, Bool, true, false, List, [], ◌∷◌, Option, Some, None, length, get_or, set, replicate, sym, ap, ◌∙◌, subst, inl, inr, add-one, arith}
use Rattle.std.proofs.lemmas.Iterator.{first_from_Range}
use Rattle.std.proofs.lemmas.List.{get_or_past, get_or-replicate, get_or-set_same, get_or-set_other, length-replicate, length-set}
use Rattle.std.proofs.lemmas.Bool.{cases_eq, cases_lt}
use Rattle.std.proofs.iter.Yields.{nat_range_steps}
use Rattle.std.specs.Fn.{CalledAt}
use Rattle.std.specs.Iterator.{Yields, YieldsThen}
use Rattle.std.specs.List.{FoldsTo}
use Rattle.std.specs.Option.{MatchOption}
use Rattle.std.specs.declared.ops.Range.{Range}
use denote.Param.Members.{Mut}
use denote.Ref.{Bor}
use Rattle.quorum.specs.Quorums.{count, Witnesses, Finds, FindsNext}
use Rattle.quorum.proofs.Counts.{count_none, count_yes, count_no, count_below, count_rises}

-- ---- a range that is looked through

kept_end : (xs : List ℕ) (s t : Range ℕ) → Yields nat_range_steps s xs t → t.end ≡ s.end
kept_end [] s t h = ap (λ (r : Range ℕ). r.end) (sym h)
kept_end (x ∷ xs) s t (j, step, rest) = kept_end xs j t rest ∙ step.0

-- what `find` answers, by what the closure f answers of each number
module _ {F : Type 0} {g : Mut F (Bor ℕ × Unit {0}) Bool} (s u : Range ℕ) (f : F) (p : ℕ → Bool) (yes : (x : ℕ) (q : F) → CalledAt g f x true q → (p x ≡ true) × (x < 16)) (no : (x : ℕ) (q : F) → CalledAt g f x false q → (q ≡ f) × (p x ≡ false)) where
  pub finds_next : (r : Option ℕ) → (xs : List ℕ) × (j : F) × YieldsThen nat_range_steps s xs r u × FoldsTo (λ a x b. CalledAt g a x false b) f xs j × MatchOption r (Unit {0}) (λ x. (h : F) × CalledAt g j x true h) → FindsNext p s u r
  finds_next (Some x) ran =
      let first = first_from_Range s u f (Some x) (λ i. (p i ≡ true) × (i < 16)) (λ i. p i ≡ false) ran yes no in
      let step = ran.2.2 in
      record {
        from = first.0;
        below = first.1;
        signer = first.2.1;
        pass = first.2.0;
        before = first.3;
        rest_start = step.1.2 ∙ ap (λ (k : ℕ). k + 1) (sym step.1.1);
        rest_end = step.0 ∙ kept_end ran.0 s ran.2.0 ran.2.1;
      }
  finds_next None ran = first_from_Range s u f None (λ i. (p i ≡ true) × (i < 16)) (λ i. p i ≡ false) ran yes no

-- ---- the witnesses

-- w has the m numbers before the range s that pass the test p, and zeros after them
pub record Found (s : Range ℕ) (n m : ℕ) (p : ℕ → Bool) (w : List ℕ) : Type 0 where
  pub end : s.end ≡ n
  pub start : s.start ≤ n
  pub number : m ≡ count s.start p
  length_is : length w ≡ 16
  pub before : (k : ℕ) → k < m → get_or w k 0 < s.start
  pub witnesses : Witnesses n m p w

zeros : (n k : ℕ) → ◌≡◌ {A = ℕ} (get_or (replicate n 0) k 0) 0
zeros n k =
    elim (cases_lt k n) [
      | inl l ↦ get_or-replicate n k 0 0 l
      | inr l ↦ get_or_past (replicate n 0) k 0 (omega (arith, length-replicate {A = ℕ} n 0))
    ]

module _ (p : ℕ → Bool) where
  pub found_none : (s : Range ℕ) (n : ℕ) → s ≡ record { start = 0; end = n } → Found s n 0 p (replicate 16 0)
  found_none s n e =
      record {
        end = ap (λ (r : Range ℕ). r.end) e;
        start = let z = ap (λ (r : Range ℕ). r.start) e in omega (arith, z);
        number = sym (ap (λ (r : Range ℕ). count r.start p) e ∙ count_none p);
        length_is = length-replicate {A = ℕ} 16 0;
        before = λ k l. absurd (omega arith);
        witnesses = record {
          below = λ k l. absurd (omega arith);
          pass = λ k l. absurd (omega arith);
          different = λ j k l h. absurd (omega arith);
          others = λ k l. zeros 16 k;
        };
      }

  -- the count stays where none passes
  count_same : (i n : ℕ) → i ≤ n → ((k : ℕ) → i ≤ k → k < n → p k ≡ false) → count n p ≡ count i p
  count_same i zero l h = ap (λ (k : ℕ). count k p) (omega arith)
  count_same i (suc n) l h = elim (cases_eq i (suc n)) [
    | inl e ↦ ap (λ (k : ℕ). count k p) (sym e)
    | inr ne ↦
        ap (λ (k : ℕ). count k p) (sym (add-one n))
        ∙ count_no p n (h n (omega arith) (omega arith))
        ∙ count_same i n (omega arith) (λ k a b. h k a (omega arith))
  ]

  module _ (s t : Range ℕ) (n m : ℕ) (w : List ℕ) (f : Found s n m p w) (x : ℕ) (h : FindsNext p s t (Some x)) where
    pub found_room : m < 16
    found_room = let few = count_below p s.start in omega (arith, few, f.number, h.from, h.signer)

    pub found_next : Found t n (m + 1) p (set w m x)
    found_next =
        let here = get_or-set_same w m x 0 (omega (arith, f.length_is, found_room)) in
        let there : (k : ℕ) → (k ≡ m → ⊥) → get_or (set w m x) k 0 ≡ get_or w k 0 = λ k ne. get_or-set_other w m k x 0 ne in
        let at : (k : ℕ) (P : ℕ → Type 0) → k < m + 1 → P x → (k < m → P (get_or w k 0)) → P (get_or (set w m x) k 0) = λ k P l a b.
        elim (cases_eq k m) [
          | inl e ↦ subst P (sym (ap (λ (i : ℕ). get_or (set w m x) i 0) e ∙ here)) a
          | inr ne ↦ subst P (sym (there k ne)) (b (omega arith))
        ] in
        record {
          end = h.rest_end ∙ f.end;
          start = omega (arith, h.below, h.rest_start, f.end);
          number =
              let same = count_same s.start x h.from h.before in
              let one = count_yes p x h.pass in
              let e = ap (λ (k : ℕ). count k p) h.rest_start in
              omega (arith, same, one, e, f.number);
          length_is = length-set w m x ∙ f.length_is;
          before = λ k l. at k (λ i. i < t.start) l (omega (arith, h.rest_start)) (λ b. let u = f.before k b in omega (arith, u, h.from, h.rest_start));
          witnesses = record {
            below = λ k l. at k (λ i. i < n) l (omega (arith, h.below, f.end)) (λ b. f.witnesses.below k b);
            pass = λ k l. at k (λ i. p i ≡ true) l h.pass (λ b. f.witnesses.pass k b);
            different = λ j k jk l.
                let o = there j (λ z. omega arith) in
                at k (λ i. get_or (set w m x) j 0 ≡ i → ⊥) l (λ e. let b = f.before j (omega arith) in omega (arith, o, e, b, h.from)) (λ b e. f.witnesses.different j k jk b (sym o ∙ e));
            others = λ k l. there k (λ z. omega arith) ∙ f.witnesses.others k (omega arith);
          };
        }

  module _ (s t : Range ℕ) (n m q : ℕ) (w : List ℕ) (f : Found s n m p w) where
    -- none passes any more
    pub found_few : (r : Option (List ℕ)) → r ≡ None → FindsNext p s t None → m < q → Finds n q p r
    found_few r e none less =
        let same = count_same s.start n f.start (λ k a b. none k a (omega (arith, f.end))) in
        let few : count n p < q = omega (arith, same, f.number) in
        subst (Finds n q p) (sym e) few

    -- enough are found
    pub found_enough : m ≡ q → Finds n q p (Some w)
    found_enough e =
        let rises = count_rises p s.start n f.start in
        (omega (arith, rises, f.number), subst (λ (k : ℕ). Witnesses n k p w) e f.witnesses)
