-- A curve is put first, and those before the one of its number move by a place.
use Rattle.std.proofs.Common.{◌≡◌, ℕ, zero, suc, ◌+◌, ◌<◌, ◌≤◌, false, eqb, [], ◌∷◌, ◌++◌, length, get_or, set, take, drop, take_all, drop_of_length-le, append-nil, add-one, refl, sym, ap, ◌∙◌, arith}
use Rattle.std.proofs.lemmas.Bool.{eq-eqb}
use Rattle.rating.specs.Curves.{Curves, without, loaded}
use Rattle.rating.specs.declared.curve.Curve.{Curve}

-- what there will be: the first i places of cs are done, and m, which was in the last of them, goes into the next
abbrev ahead : ℕ → Curves → Curve → ℕ → Curves
ahead n cs m i = take i cs ++ m ∷ without n (drop i cs)

-- k is being put first in os: its first i places are done, which left cs, and m goes into the next
pub record Moving (k : Curve) (os cs : Curves) (m : Curve) (i : ℕ) : Type 0 where
  pub same : ahead k.number cs m i ≡ loaded k os

moves : (n : ℕ) (cs : Curves) (m d : Curve) (i : ℕ) → i < length cs → eqb (get_or cs i d).number n ≡ false
    → ahead n (set cs i m) (get_or cs i d) (suc i) ≡ ahead n cs m i
moves n [] m d i l e = absurd (omega arith)
moves n (c ∷ cs) m d zero l e = rw e refl
moves n (c ∷ cs) m d (suc i) l e = ap (λ (xs : Curves). c ∷ xs) (moves n cs m d i (omega arith) e)

ends : (n : ℕ) (cs : Curves) (m d : Curve) (i : ℕ) → i < length cs → (get_or cs i d).number ≡ n
    → set cs i m ≡ ahead n cs m i
ends n [] m d i l e = absurd (omega arith)
ends n (c ∷ cs) m d zero l e = rw (eq-eqb _ _ e) refl
ends n (c ∷ cs) m d (suc i) l e = ap (λ (xs : Curves). c ∷ xs) (ends n cs m d i (omega arith) e)

pub moving_none : (k : Curve) (os : Curves) → Moving k os os k 0
moving_none k os = record { same = refl }

pub moving_one :
    (k : Curve) (os cs : Curves) (m d : Curve) (i : ℕ) → i < length cs → eqb (get_or cs i d).number k.number ≡ false → Moving k os cs m i
    → Moving k os (set cs i m) (get_or cs i d) (i + 1)
moving_one k os cs m d i l e h = record { same = rw add-one (moves k.number cs m d i l e ∙ h.same) }

pub moved_one :
    (k : Curve) (os cs : Curves) (m x d : Curve) (i : ℕ) → i < length cs → x ≡ get_or cs i d → x.number ≡ k.number → Moving k os cs m i
    → set cs i m ++ [] ≡ loaded k os
moved_one k os cs m x d i l e f h = append-nil _ ∙ ends k.number cs m d i l (ap (λ (c : Curve). c.number) (sym e) ∙ f) ∙ h.same

pub moved_all : (k : Curve) (os cs : Curves) (m : Curve) → Moving k os cs m (length cs) → cs ++ m ∷ [] ≡ loaded k os
moved_all k os cs m h =
    let all : length cs ≤ length cs = omega arith in
    let gone : drop (length cs) cs ≡ [] = drop_of_length-le cs all in
    let e : ahead k.number cs m (length cs) ≡ cs ++ m ∷ [] = rw (take_all (length cs) cs all, gone) refl in
    sym e ∙ h.same
