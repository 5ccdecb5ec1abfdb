-- A LOAD keeps the numbers of the curves different, so there are never more curves than numbers.
use Rattle.std.proofs.Common.{◌≡◌, ◌≢◌, ℕ, suc, ◌<◌, ◌≤◌, Bool, true, false, cond, not, eqb, [], ◌∷◌, ◌++◌, Option, Some, length, map, filter, All, AllPairs, subst, sym, refl, ap, ◌∙◌, arith}
use Rattle.std.specs.List.{IsDistinct, list_any}
use Rattle.std.specs.Option.{option_to_list}
use Rattle.std.proofs.lemmas.Bool.{eqb-true, eqb-false, not-true, ne_eqb}
use Rattle.std.proofs.lemmas.List.{length-map, length_push}
use Rattle.std.proofs.lemmas.List.Elements.{All-cons, All-filter, All-map, All-weaker, filter_passes, recursion_from_All}
use Rattle.std.proofs.lemmas.List.Folds.{Any-from_list_any}
use Rattle.std.proofs.lemmas.List.Kept.{AllPairs-cons, AllPairs-filter}
use Rattle.std.proofs.lemmas.Map.Keys.{IsDistinct-cons}
use Rattle.std.proofs.lemmas.Map.Steps.{length-le_from_distinct_below}
use Rattle.arrayvec.specs.ArrayVec.{ArrayVec, with_items}
use Rattle.arrayvec.proofs.ArrayVecLemmas.{items-with_items}
use Rattle.rating.specs.Curves.{Curves, without, loaded, numbered}
use Rattle.rating.specs.declared.curve.Curve.{Curve}

-- the curves of other numbers than n
abbrev others : ℕ → Curves → Curves
others n cs = filter (λ c. not (eqb c.number n)) cs

abbrev Apart : Curve → Curve → Type 0
Apart c d = c.number ≢ d.number

head : (c : Curve) (cs : Curves) → AllPairs Apart (c ∷ cs) → All (Apart c) cs
head c cs h k d l = h 0 (suc k) d (omega arith) (omega arith)

tail : (c : Curve) (cs : Curves) → AllPairs Apart (c ∷ cs) → AllPairs Apart cs
tail c cs h i j d l m = h (suc i) (suc j) d (omega arith) (omega arith)

others-all : (c : Curve) (cs : Curves) → All (Apart c) cs → others c.number cs ≡ cs
others-all c [] h = refl
others-all c (d ∷ cs) h =
    rw (ne_eqb d.number c.number (λ e. h 0 d (omega arith) (sym e)))
    (ap (λ (l : Curves). d ∷ l) (others-all c cs (λ k e l. h (suc k) e (omega arith))))

others-without : (n : ℕ) (cs : Curves) → AllPairs Apart cs → others n cs ≡ without n cs
others-without n [] h = refl
others-without n (c ∷ cs) h =
    let P : Bool → Type 0 = λ b. eqb c.number n ≡ b → cond (not b) (c ∷ others n cs) (others n cs) ≡ cond b cs (c ∷ without n cs) in
    let cases : P (eqb c.number n) =
    elim (eqb c.number n) as P [
      | true ↦ λ e. subst (λ (m : ℕ). others m cs ≡ cs) (eqb-true _ _ e) (others-all c cs (head c cs h))
      | false ↦ λ e. ap (λ (l : Curves). c ∷ l) (others-without n cs (tail c cs h))
    ] in
    cases refl

numbered-others : (b : ℕ) (k : Curve) (cs : Curves) → k.number < b → numbered b cs → numbered b (k ∷ others k.number cs)
numbered-others b k cs l h =
    record {
      below = All-cons (λ c. c.number < b) k _ l (All-filter _ (λ c. c.number < b) cs h.below);
      apart =
          AllPairs-cons Apart k _
          (All-weaker (λ c. not (eqb c.number k.number) ≡ true) (Apart k) (λ c other e. eqb-false _ _ (not-true _ other) (sym e)) _ (filter_passes _ cs))
          (AllPairs-filter Apart _ cs h.apart);
    }

distinct : (cs : Curves) → AllPairs Apart cs → IsDistinct eqb (map (λ c. c.number) cs)
unfolding IsDistinct
distinct [] h = tt
distinct (c ∷ cs) h =
    IsDistinct-cons eqb c.number _
    (recursion_from_All _ _ (All-map (λ n. eqb c.number n ≡ false) (λ c. c.number) cs (All-weaker (Apart c) (λ d. eqb c.number d.number ≡ false) (λ d. ne_eqb _ _) cs (head c cs h))))
    (distinct cs (tail c cs h))

-- there are no more curves than numbers
pub length-numbered : (b : ℕ) (cs : Curves) → numbered b cs → length cs ≤ b
length-numbered b cs h =
    let below : (q : ℕ) → list_any (eqb q) (map (λ c. c.number) cs) ≡ true → q < b =
    λ q found.
    let a = Any-from_list_any (eqb q) _ found in
    subst (λ (n : ℕ). n < b) (a.3 ∙ sym (eqb-true _ _ a.4)) (All-map (λ n. n < b) (λ c. c.number) cs h.below a.0 a.1 a.2) in
    let few = length-le_from_distinct_below (map (λ c. c.number) cs) b (distinct cs h.apart) below in
    let same = length-map cs (λ c. c.number) in
    omega arith

pub numbered-loaded : (b : ℕ) (k : Curve) (cs : Curves) → k.number < b → numbered b cs → numbered b (loaded k cs)
numbered-loaded b k cs l h =
    subst (λ (zs : Curves). numbered b (k ∷ zs)) (others-without k.number cs h.apart) (numbered-others b k cs l h)

-- after a LOAD of k the curves cs are the curves zs and the one left over, if there is one
pub record Loads (k : Curve) (cs zs : Curves) (o : Option Curve) : Type 0 where
  pub curves : zs ++ option_to_list o ≡ loaded k cs
  pub numbers : numbered 8 (zs ++ option_to_list o)
  pub room : (c : Curve) → o ≡ Some c → length zs < 8

pub loads : (k : Curve) (v : ArrayVec Curve) (cs ws : Curves) (o : Option Curve) → k.number < 8 → numbered 8 v.items → cs ≡ v.items
    → length ws ≡ length cs → ws ++ option_to_list o ≡ loaded k cs → Loads k v.items (with_items v ws).items o
loads k v cs ws o l h held same e =
    let curves : (with_items v ws).items ++ option_to_list o ≡ loaded k v.items =
    ap (λ (zs : Curves). zs ++ option_to_list o) (items-with_items v ws (same ∙ ap length held)) ∙ e ∙ ap (loaded k) held in
    let numbers = subst (numbered 8) (sym curves) (numbered-loaded 8 k v.items l h) in
    record {
      curves = curves;
      numbers = numbers;
      room =
          λ c left.
          let few = length-numbered 8 _ (rw left at numbers) in
          let one_more = length_push (with_items v ws).items c in
          omega arith;
    }
