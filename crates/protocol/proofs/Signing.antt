-- A quorum as a list of its signers, and as a count.
--   among is i    — whether the number i stands in the list is
--   Chosen n p q  — q different numbers below n that pass the test p
use Rattle.std.proofs.Common.{◌≡◌, ℕ, zero, suc, ◌<◌, ◌≤◌, Bool, true, false, ◌≢◌, eqb, AllPairs, Decides, List, [], ◌∷◌, length, sym, refl, ap, ◌∙◌, subst, inl, inr, arith}
use Rattle.std.proofs.lemmas.Bool.{both_ways, cases_Bool, or_cases, or_from, ne_eqb, eqb-true, eqb-false, eq-eqb}
use Rattle.std.specs.List.{AllByRecursion, IsDistinct, list_any}
use Rattle.std.proofs.lemmas.Map.Made.{AllPairs-from_IsDistinct, IsDistinct-from_AllPairs}
use Rattle.std.proofs.ByRecursion.{All-weaker}
use Rattle.quorum.specs.Quorums.{count}
use Rattle.protocol.proofs.Counting.{count_mono, count_none, indicator_ext, count_one_more}

-- ---- from a list to a count

abbrev pub among : List ℕ → ℕ → Bool
among is i = list_any (λ j. eqb j i) is

pub among_passes : (P : ℕ → Type 0) (js : List ℕ) → AllByRecursion P js → (i : ℕ) → among js i ≡ true → P i
among_passes P [] h i e = absurd (both_ways false refl e)
among_passes P (j ∷ js) h i e = elim (or_cases (eqb j i) (among js i) e) [
  | inl t ↦ subst P (eqb-true j i t) h.0
  | inr t ↦ among_passes P js h.1 i t
]

among_none : (i : ℕ) (js : List ℕ) → AllByRecursion (λ (j : ℕ). eqb i j ≡ false) js → among js i ≡ false
among_none i [] h = refl
among_none i (j ∷ js) h = or_from (eqb j i) (among js i) (ne_eqb j i (λ e. eqb-false i j h.0 (sym e))) (among_none i js h.1)

count_distinct : (n : ℕ) (is : List ℕ) → IsDistinct eqb is → AllByRecursion (λ i. i < n) is → count n (among is) ≡ length is
unfolding IsDistinct
count_distinct n [] d h = count_none n
count_distinct n (i ∷ is) d h =
    count_one_more n i (among is) h.0 (among_none i is d.0) ∙ ap suc (count_distinct n is d.1 h.1)

pub same_number : (i j : ℕ) → Decides (eqb i j) (i ≡ j)
same_number i j = (eqb-true i j, eq-eqb i j)

pub count_among :
    (n : ℕ) (is : List ℕ) → AllPairs (λ i j. i ≢ j) is → AllByRecursion (λ i. i < n) is → count n (among is) ≡ length is
count_among n is d h = count_distinct n is (IsDistinct-from_AllPairs same_number is d) h

-- different numbers that pass are no more than those that are counted
pub count_of_list :
    (n : ℕ) (p : ℕ → Bool) (is : List ℕ) → AllPairs (λ i j. i ≢ j) is → AllByRecursion (λ i. (i < n) × (p i ≡ true)) is
    → length is ≤ count n p
count_of_list n p is d h =
    let passes = among_passes (λ i. p i ≡ true) is (All-weaker _ _ (λ i t. t.1) is h) in
    let below = All-weaker _ (λ i. i < n) (λ i t. t.0) is h in
    omega (arith, count_among n is d below, count_mono n (among is) p passes)

-- ---- from a count to a list

pub record Chosen (n : ℕ) (p : ℕ → Bool) (q : ℕ) : Type 0 where
  pub who : List ℕ
  pub enough : length who ≡ q
  pub distinct : IsDistinct eqb who
  pub each : AllByRecursion (λ i. (i < n) × (p i ≡ true)) who

choose_none : (n : ℕ) (p : ℕ → Bool) → Chosen n p 0
unfolding IsDistinct
choose_none n p = record { who = []; enough = refl; distinct = tt; each = tt }

one_more :
    (n : ℕ) (p : ℕ → Bool) (is : List ℕ) → AllByRecursion (λ i. (i < n) × (p i ≡ true)) is
    → AllByRecursion (λ i. (i < suc n) × (p i ≡ true)) is
one_more n p is h = All-weaker _ _ (λ i t. (omega (arith, t.0), t.1)) is h

choose_under : (n : ℕ) (p : ℕ → Bool) (q : ℕ) → Chosen n p q → Chosen (suc n) p q
choose_under n p q l =
    record { who = l.who; enough = l.enough; distinct = l.distinct; each = one_more n p l.who l.each }

choose_last : (n : ℕ) (p : ℕ → Bool) (q : ℕ) → p n ≡ true → Chosen n p q → Chosen (suc n) p (suc q)
unfolding IsDistinct
choose_last n p q e l =
    record {
      who = n ∷ l.who;
      enough = ap suc l.enough;
      distinct = (All-weaker _ _ (λ i t. ne_eqb n i (λ k. omega (arith, t.0))) l.who l.each, l.distinct);
      each = ((omega arith, e), one_more n p l.who l.each);
    }

pub different : (n : ℕ) (p : ℕ → Bool) (q : ℕ) (c : Chosen n p q) → AllPairs (λ i j. i ≢ j) c.who
different n p q c = AllPairs-from_IsDistinct same_number c.who c.distinct

-- of the numbers that are counted, any number can be chosen
pub list_of_count : (n : ℕ) (p : ℕ → Bool) (q : ℕ) → q ≤ count n p → Chosen n p q
unfolding count
list_of_count n p zero h = choose_none n p
list_of_count zero p (suc q) h = absurd (omega arith)
list_of_count (suc n) p (suc q) h = elim (cases_Bool (p n)) [
  | inl e ↦ choose_last n p q e (list_of_count n p q (omega (arith, indicator_ext (p n) true e)))
  | inr e ↦ choose_under n p (suc q) (list_of_count n p (suc q) (omega (arith, indicator_ext (p n) false e)))
]
