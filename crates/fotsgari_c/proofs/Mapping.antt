-- A list that a loop writes, one element after the other, from another list.
use Rattle.std.proofs.Common.{◌≡◌, ℕ, ◌+◌, ◌<◌, List, [], ◌∷◌, length, get_or, set, map, take, sym, ap, ◌∙◌, arith}
use Rattle.std.proofs.Math.Numerals.{suc-eq-add-one}
use Rattle.std.proofs.Math.Seq.{take-suc, take-suc-set}
use Rattle.std.proofs.lemmas.List.{map-append, take_all}

module _ {A B : Type 0} (f : A → B) where
  pub mapped_more :
      (xs : List A) (ys : List B) (i : ℕ) (d : A) (y : B) → i < length xs → i < length ys
      → take i ys ≡ map f (take i xs) → y ≡ f (get_or xs i d)
      → take (i + 1) (set ys i y) ≡ map f (take (i + 1) xs)
  mapped_more xs ys i d y h k e g =
      rw (sym (suc-eq-add-one i), take-suc-set ys i y k, take-suc xs i d h, map-append f (take i xs) (get_or xs i d ∷ []), e, g)

  pub mapped_all :
      (xs : List A) (ys : List B) (n : ℕ) → length xs ≡ n → length ys ≡ n → take n ys ≡ map f (take n xs) → ys ≡ map f xs
  mapped_all xs ys n h k e =
      sym (take_all n ys (omega arith)) ∙ e ∙ ap (λ (zs : List A). map f zs) (take_all n xs (omega arith))
