-- Laws of the bytes of a number, for every number of bytes.
use Rattle.std.proofs.Common.{◌≡◌, ℕ, zero, suc, ◌+◌, ◌*◌, ◌/◌, ◌%◌, ◌^◌, ◌<◌, ◌≤◌, List, [], ◌∷◌, ◌++◌, length, get_or, take, drop, sym, refl, ap, ◌∙◌, mul-le-mul_right, mul_assoc, mul_comm, suc-add, pow-suc, div-add-mod', zero-add, arith, pow-add, inl, inr, lit<}
use native.Mathlib.Nat.{one-le-pow, div-div-eq-div-mul, mul-add-div_right}
use Rattle.std.specs.List.{AllByRecursion}
use Rattle.std.proofs.lemmas.Bool.{cases_lt}
use Rattle.std.proofs.lemmas.List.{get_or-take, get_or-drop, length-take-le, length-drop}
use Rattle.std.proofs.Math.ListN.{get_or-eq_default}
use Rattle.std.proofs.lemmas.Nat.{div-mul-add, mod_below, div_below, be_bytes_4, be_bytes_8, from_be_bytes-to_be_bytes_4, from_be_bytes-to_be_bytes_8}
use Rattle.record.specs.Bytes.{be}
use Rattle.std.specs.Int.{Width, w32, w64, byte_at, bytes_high_first, to_be_bytes, from_be_bytes}

positive : (k : ℕ) → 0 < 256 ^ k
positive k = one-le-pow k 256 (omega arith)

pub length_be : (k n : ℕ) → length (be k n) ≡ k
unfolding be
length_be zero n = refl
length_be (suc k) n = ap suc (length_be k n)

-- what stands above the k lowest bytes does not matter to them
be_low : (k m n : ℕ) → be k (m * 256 ^ k + n) ≡ be k n
unfolding be
be_low zero m n = refl
be_low (suc k) m n =
    let up : m * 256 ^ suc k ≡ (m * 256) * 256 ^ k = ap (λ (p : ℕ). m * p) (pow-suc 256 k ∙ mul_comm (256 ^ k) 256) ∙ sym (mul_assoc m 256 (256 ^ k)) in
    let shift : (m * 256 ^ suc k + n) / 256 ^ k ≡ m * 256 + n / 256 ^ k = ap (λ (p : ℕ). (p + n) / 256 ^ k) up ∙ mul-add-div_right (positive k) (m * 256) n in
    let first : (m * 256 ^ suc k + n) / 256 ^ k % 256 ≡ n / 256 ^ k % 256 = omega arith in
    let rest : be k (m * 256 ^ suc k + n) ≡ be k n = ap (λ (p : ℕ). be k (p + n)) up ∙ be_low k (m * 256) n in
    cc

-- the bytes of two numbers end to end
pub be_append : (j k m n : ℕ) → n < 256 ^ k → be (j + k) (m * 256 ^ k + n) ≡ be j m ++ be k n
unfolding be
be_append zero k m n h = ap (λ (i : ℕ). be i (m * 256 ^ k + n)) (zero-add k) ∙ be_low k m n
be_append (suc j) k m n h =
    let x : ℕ = m * 256 ^ k + n in
    let shift : x / 256 ^ (j + k) ≡ m / 256 ^ j =
    ap (λ (p : ℕ). x / p) (pow-add 256 j k ∙ mul_comm (256 ^ j) (256 ^ k)) ∙ sym (div-div-eq-div-mul x (256 ^ k) (256 ^ j)) ∙ ap (λ (p : ℕ). p / 256 ^ j) (div-mul-add m (256 ^ k) n h) in
    let rest : be (j + k) x ≡ be j m ++ be k n = be_append j k m n h in
    ap (λ (i : ℕ). be i x) (suc-add j k) ∙ ap (λ (p : ℕ). p % 256 ∷ be (j + k) x) shift ∙ ap (λ (l : List ℕ). m / 256 ^ j % 256 ∷ l) rest

-- numbers of k bytes with the same bytes are the same
pub be_one : (k m n : ℕ) → m < 256 ^ k → n < 256 ^ k → be k m ≡ be k n → m ≡ n
unfolding be
be_one zero m n hm hn e = omega arith
be_one (suc k) m n hm hn e =
    let p = 256 ^ k in
    let s = pow-suc 256 k in
    let first : m / p % 256 ≡ n / p % 256 = cc in
    let rest : be k m ≡ be k n = cc in
    let qm : m / p < 256 = div_below m p 256 (positive k) (omega (arith, mul_comm p 256)) in
    let qn : n / p < 256 = div_below n p 256 (positive k) (omega (arith, mul_comm p 256)) in
    let q : m / p ≡ n / p = omega arith in
    let low : (x : ℕ) → be k (x % p) ≡ be k x = λ x. sym (be_low k (x / p) (x % p)) ∙ ap (be k) (div-add-mod' x p) in
    let t : m % p ≡ n % p = be_one k (m % p) (n % p) (mod_below m p (positive k)) (mod_below n p (positive k)) (low m ∙ rest ∙ sym (low n)) in
    sym (div-add-mod' m p) ∙ ap (λ (x : ℕ). x * p + m % p) q ∙ ap (λ (x : ℕ). n / p * p + x) t ∙ div-add-mod' n p

-- the number that bytes write
abbrev pub number : List ℕ → ℕ
number [] = 0
number (x ∷ xs) = x * 256 ^ length xs + number xs

abbrev pub Byte : ℕ → Type 0
Byte x = x < 256

pub number_below : (xs : List ℕ) → AllByRecursion Byte xs → number xs < 256 ^ length xs
number_below [] a = omega arith
number_below (x ∷ xs) a =
    let r = number_below xs a.1 in
    let s = pow-suc 256 (length xs) in
    let p = 256 ^ length xs in
    let small : x ≤ 255 = omega (arith, a.0) in
    let m : x * p ≤ 255 * p = mul-le-mul_right p small in
    omega (arith, mul_comm p 256)

pub be_number : (xs : List ℕ) → AllByRecursion Byte xs → be (length xs) (number xs) ≡ xs
unfolding be
be_number [] a = refl
be_number (x ∷ xs) a =
    let p = 256 ^ length xs in
    let r = number_below xs a.1 in
    let d = div-mul-add x p (number xs) r in
    let first : (x * p + number xs) / p % 256 ≡ x = omega (arith, a.0) in
    let rest : be (length xs) (x * p + number xs) ≡ xs = be_low (length xs) x (number xs) ∙ be_number xs a.1 in
    cc

-- the bytes of a number as the library writes them
byte_is : (k n : ℕ) → n / 256 ^ k % 256 ≡ byte_at k n
byte_is zero n = omega arith
byte_is (suc k) n = refl

be_is : (k n : ℕ) → be k n ≡ bytes_high_first k n
unfolding be
be_is zero n = refl
be_is (suc k) n = let first = byte_is k n in let rest = be_is k n in cc

-- what the library knows of the bytes of numbers of the width w, which are k bytes, below the limit
pub record BytesOf (w : Width) (k limit : ℕ) : Type 0 where
  pub writes : (n : ℕ) → to_be_bytes w n ≡ bytes_high_first k n
  pub back : (n : ℕ) → n < limit → from_be_bytes w (to_be_bytes w n) ≡ n
  forth : (bs : List ℕ) (n : ℕ) → length bs ≡ k → ((i : ℕ) → get_or bs i 0 < 256) → n ≡ from_be_bytes w bs → to_be_bytes w n ≡ bs

pub four_bytes : BytesOf w32 4 (2 ^ 32)
four_bytes = record { writes = λ n. refl; back = from_be_bytes-to_be_bytes_4; forth = be_bytes_4 }

pub eight_bytes : BytesOf w64 8 (2 ^ 64)
eight_bytes = record { writes = λ n. refl; back = from_be_bytes-to_be_bytes_8; forth = be_bytes_8 }

-- n bytes of a list, from i on, are n and are bytes
module _ (b : List ℕ) (bytes : (j : ℕ) → get_or b j 0 < 256) (n i : ℕ) (within : i + n ≤ length b) where
  part_length : length (take n (drop i b)) ≡ n
  part_length = length-take-le n (drop i b) (omega (arith, length-drop i b))

  part_bytes : (j : ℕ) → get_or (take n (drop i b)) j 0 < 256
  part_bytes j = elim (cases_lt j n) [
    | inl low ↦ rw (get_or-take n (drop i b) j 0 low, get_or-drop i b j 0) (bytes (i + j))
    | inr high ↦ let past : length (take n (drop i b)) ≤ j = omega (arith, part_length) in rw (get_or-eq_default (take n (drop i b)) 0 past) (lit< tt)
  ]

module _ {w : Width} {k limit : ℕ} (known : BytesOf w k limit) where
  pub be_writes : (n : ℕ) → be k n ≡ to_be_bytes w n
  be_writes n = be_is k n ∙ sym (known.writes n)

  -- numbers below the limit with the same bytes are the same
  pub be_one_of : (m n : ℕ) → m < limit → n < limit → be k m ≡ be k n → m ≡ n
  be_one_of m n hm hn e =
      sym (known.back m hm) ∙ ap (from_be_bytes w) (sym (be_writes m) ∙ e ∙ be_writes n) ∙ known.back n hn

  -- n is read from k bytes of a list, from i on
  pub be_read : (b bs : List ℕ) (i n : ℕ) → ((j : ℕ) → get_or b j 0 < 256) → i + k ≤ length b → bs ≡ take k (drop i b) → n ≡ from_be_bytes w bs → be k n ≡ take k (drop i b)
  be_read b bs i n bytes h is e =
      be_writes n ∙ known.forth (take k (drop i b)) n (part_length b bytes k i h) (part_bytes b bytes k i h) (e ∙ ap (from_be_bytes w) is)
