-- Three parts of a list end to end.
use Rattle.std.proofs.Common.{◌≡◌, ℕ, ◌+◌, List, ◌++◌, length, take, drop, sym, ap, ◌∙◌, arith, take-append-drop}
use Rattle.std.proofs.lemmas.List.{take_at, drop_at, drop-drop, take_all, length-drop}

-- a list of three parts, the first of j elements and the second of k
module _ (j k : ℕ) (xs a b c : List ℕ) (whole : xs ≡ a ++ (b ++ c)) (front : length a ≡ j) (middle : length b ≡ k) where
  pub first_part : take j xs ≡ a
  first_part = ap (take j) whole ∙ take_at a (b ++ c) j front

  rest : drop j xs ≡ b ++ c
  rest = ap (drop j) whole ∙ drop_at a (b ++ c) j front

  pub second_part : take k (drop j xs) ≡ b
  second_part = ap (take k) rest ∙ take_at b c k middle

  pub third_part : drop (j + k) xs ≡ c
  third_part = sym (drop-drop k j xs) ∙ ap (drop k) rest ∙ drop_at b c k middle

-- the three parts of a list make it up
pub three_parts : (j k l : ℕ) (xs : List ℕ) → length xs ≡ j + k + l → take j xs ++ (take k (drop j xs) ++ take l (drop (j + k) xs)) ≡ xs
three_parts j k l xs n =
    let last : take l (drop (j + k) xs) ≡ drop k (drop j xs) = take_all l (drop (j + k) xs) (omega (arith, length-drop (j + k) xs)) ∙ sym (drop-drop k j xs) in
    ap (λ (t : List ℕ). take j xs ++ (take k (drop j xs) ++ t)) last ∙ ap (λ (t : List ℕ). take j xs ++ t) (take-append-drop k (drop j xs)) ∙ take-append-drop j xs
