-- Words of which each bit is prepared.
use Rattle.std.proofs.Common.{◌≡◌, ℕ, zero, suc, ◌+◌, ◌<◌, Bool, true, not, ◌&&◌, ◌||◌, [], ◌∷◌, ◌++◌, Decides, sym, refl, ap, ◌∙◌, map-id, add-one, arith}
use Rattle.std.proofs.Math.Bool.{and-true, and_comm}
use Rattle.std.proofs.lemmas.List.FromFn.{map-range_with_len_more}
use Rattle.std.proofs.lemmas.List.Folds.{list_all-append}
use Rattle.std.proofs.lemmas.Bool.Decides.{nat_tests, Decides-below_and}
use Rattle.std.specs.List.{list_all, range_with_len}
use Rattle.record.specs.Statements.{prepare_by}
use Rattle.register.specs.Sets.{Set}
use Rattle.quorum.specs.Quorums.{quorum, Quorum}
use Rattle.quorum.specs.declared.Membership.{Membership}
use Rattle.replica.specs.Words.{bit}
use Rattle.merge.specs.Checks.{prepared_below}

module _ (s : Set) (m : Membership) (t w : ℕ) where
  pub prepared_decides : (k : ℕ) → Decides (prepared_below s m t w k) ((l : ℕ) → l < k → bit w l ≡ true → Quorum s m (prepare_by 0 t l 1))
  unfolding prepared_below
  prepared_decides k =
      Decides-below_and (λ l. not (bit w l) || quorum s m (prepare_by 0 t l 1))
      (λ l. bit w l ≡ true → Quorum s m (prepare_by 0 t l 1)) (prepared_below s m t w)
      (λ l. (λ e f. grind (arith, nat_tests), λ e. grind (arith, nat_tests))) refl (λ _. refl) k

  -- the same, of the slots in a list
  pub prepared_all : (k : ℕ) → list_all (λ l. not (bit w l) || quorum s m (prepare_by 0 t l 1)) (range_with_len 0 k) ≡ prepared_below s m t w k
  unfolding prepared_below
  prepared_all zero = refl
  prepared_all (suc k) =
      let p : ℕ → Bool = λ l. not (bit w l) || quorum s m (prepare_by 0 t l 1) in
      let more : range_with_len 0 (k + 1) ≡ range_with_len 0 k ++ k ∷ [] =
      simp map-id at (map-range_with_len_more (λ (l : ℕ). l) 0 k k (omega arith)) in
      ap (λ (j : ℕ). list_all p (range_with_len 0 j)) (sym (add-one k))
      ∙ ap (list_all p) more
      ∙ list_all-append p (range_with_len 0 k) (k ∷ [])
      ∙ ap (λ (b : Bool). list_all p (range_with_len 0 k) && b) (and-true (p k))
      ∙ and_comm (list_all p (range_with_len 0 k)) (p k)
      ∙ ap (λ (b : Bool). p k && b) (prepared_all k)
