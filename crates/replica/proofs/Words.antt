-- Laws of words: what their bits are, and how large they are.
use Rattle.std.proofs.Common.{◌≡◌, ℕ, zero, suc, ◌+◌, ◌-◌, ◌*◌, ◌/◌, ◌%◌, ◌^◌, ◌<◌, ◌≤◌, max, Bool, true, false, cond, ◌||◌, eqb, ltb, sym, refl, ap, ◌∙◌, subst, ap₂, inl, inr, lt_of_lt_of_le, lt_of_le_of_lt, one-mul, pow-suc, add-one, one-add, arith, pow_mono, shr-shr}
use native.Mathlib.Nat.{div-eq_of_lt, mod-eq_of_lt}
use lib.Bits.{bit_and, bit_or, and_comm, and_shifted, and_step, and_zero_r, or_lt, or_shr, or_step, or_zero_r}
use lib.Count.{leading_length}
use lib.Pow.{field, mod-mod-pow, pow-lt}
use Rattle.std.proofs.lemmas.Nat.{and_mask, pow_pos}
use Rattle.std.proofs.lemmas.Bool.{both_ways, cases_lt, cond_both, cond-true, lt-ltb, ltb-true, or_left}
use Rattle.std.proofs.lemmas.Bool.Decides.{nat_tests}
use Rattle.replica.specs.declared.Verdict.{Verdict}
use Rattle.replica.specs.declared.Verdict.TheVariants.{Operation, NoOp}
use Rattle.replica.specs.Words.{bit, with_bit, without_bit, one_past}
use Rattle.replica.specs.Verdicts.{sealed_with, with_verdict}

-- ---- bits one by one, the lowest first

same_test : (a b : ℕ) → a ≡ b → eqb a 1 ≡ eqb b 1
same_test a b e = ap (λ (x : ℕ). eqb x 1) e

pub bit_zero : (w : ℕ) → bit w 0 ≡ eqb (w % 2) 1
unfolding bit
bit_zero w = same_test (w / 1 % 2) (w % 2) (omega arith)

pub bit_suc : (w l : ℕ) → bit w (suc l) ≡ bit (w / 2) l
unfolding bit
bit_suc w l = ap (λ (x : ℕ). eqb (x % 2) 1) (ap (λ (x : ℕ). w / 2 ^ x) (sym (one-add l)) ∙ sym (shr-shr w 1 l))

max_test : (x y : ℕ) → x < 2 → y < 2 → eqb (max x y) 1 ≡ (eqb x 1 || eqb y 1)
max_test x y p q = grind (arith, nat_tests)

pub bit_of_or : (l a b : ℕ) → bit (bit_or a b) l ≡ (bit a l || bit b l)
bit_of_or zero a b =
    bit_zero (bit_or a b)
    ∙ same_test (bit_or a b % 2) (max (a % 2) (b % 2)) (omega (arith, or_step a b))
    ∙ max_test (a % 2) (b % 2) (omega arith) (omega arith)
    ∙ sym (ap₂ ◌||◌ (bit_zero a) (bit_zero b))
bit_of_or (suc l) a b =
    bit_suc (bit_or a b) l
    ∙ ap (λ (x : ℕ). bit x l) (or_shr a b 1)
    ∙ bit_of_or l (a / 2) (b / 2)
    ∙ sym (ap₂ ◌||◌ (bit_suc a l) (bit_suc b l))

-- the s lowest bits of a word are its own
pub bit_mod : (s l w : ℕ) → l < s → bit (w % 2 ^ s) l ≡ bit w l
bit_mod zero l w h = absurd (omega arith)
bit_mod (suc s) zero w h =
    bit_zero (w % 2 ^ suc s)
    ∙ same_test (w % 2 ^ suc s % 2) (w % 2) (ap (λ (x : ℕ). w % 2 ^ x % 2) (sym (add-one s)) ∙ mod-mod-pow w s 1)
    ∙ sym (bit_zero w)
bit_mod (suc s) (suc l) w h =
    bit_suc (w % 2 ^ suc s) l
    ∙ ap (λ (x : ℕ). bit x l) (ap (λ (x : ℕ). w % 2 ^ x / 2) (sym (add-one s)) ∙ field w s 1)
    ∙ bit_mod s l (w / 2) (omega arith)
    ∙ sym (bit_suc w l)

-- a word of s bits has none from s on
pub bit_above : (s l w : ℕ) → w < 2 ^ s → s ≤ l → bit w l ≡ false
unfolding bit
bit_above s l w h k = ap (λ (x : ℕ). eqb (x % 2) 1) (div-eq_of_lt (lt_of_lt_of_le h (pow_mono k)))

pub none_above : (w l : ℕ) → w < 2 ^ 64 → 64 ≤ l → w / 2 ^ l ≡ 0
none_above w l h k = div-eq_of_lt (lt_of_lt_of_le h (pow_mono k))

one_test : (a b : ℕ) → a < 2 → b < 2 → eqb a 1 ≡ eqb b 1 → a ≡ b
one_test a b p q e = grind (arith, nat_tests)

-- words of k bits with the same bits are the same
pub bit_ext : (k w x : ℕ) → w < 2 ^ k → x < 2 ^ k → ((l : ℕ) → l < k → bit w l ≡ bit x l) → w ≡ x
bit_ext zero w x p q h = omega arith
bit_ext (suc k) w x p q h =
    let high : w / 2 ≡ x / 2 = bit_ext k (w / 2) (x / 2) (omega arith) (omega arith) (λ l r. sym (bit_suc w l) ∙ h (suc l) (omega arith) ∙ bit_suc x l) in
    let low : w % 2 ≡ x % 2 = one_test (w % 2) (x % 2) (omega arith) (omega arith) (sym (bit_zero w) ∙ h 0 (omega arith) ∙ bit_zero x) in
    omega arith

-- ---- a word from its bits

-- the word of k bits whose bits are p's
unfoldable pub word_of : ℕ → (ℕ → Bool) → ℕ
word_of zero p = 0
word_of (suc k) p = word_of k (λ l. p (suc l)) * 2 + cond (p 0) 1 0

lowest_small : (b : Bool) → cond b 1 0 < 2
lowest_small true = omega arith
lowest_small false = omega arith

lowest_test : (b : Bool) → eqb (cond b 1 0) 1 ≡ b
lowest_test true = refl
lowest_test false = refl

pub word_of_lt : (k : ℕ) (p : ℕ → Bool) → word_of k p < 2 ^ k
unfolding word_of
word_of_lt zero p = omega arith
word_of_lt (suc k) p = omega (arith, word_of_lt k (λ l. p (suc l)), lowest_small (p 0))

pub bit_word_of : (k l : ℕ) (p : ℕ → Bool) → l < k → bit (word_of k p) l ≡ p l
unfolding word_of
bit_word_of zero l p h = absurd (omega arith)
bit_word_of (suc k) zero p h =
    bit_zero (word_of k (λ l. p (suc l)) * 2 + cond (p 0) 1 0)
    ∙ same_test ((word_of k (λ l. p (suc l)) * 2 + cond (p 0) 1 0) % 2) (cond (p 0) 1 0) (omega (arith, lowest_small (p 0)))
    ∙ lowest_test (p 0)
bit_word_of (suc k) (suc l) p h =
    bit_suc (word_of k (λ l. p (suc l)) * 2 + cond (p 0) 1 0) l
    ∙ ap (λ (x : ℕ). bit x l) (omega (arith, lowest_small (p 0)))
    ∙ bit_word_of k l (λ m. p (suc m)) (omega arith)

-- ---- one bit put into a word

-- the word w with the bit s as d has it, which is 0 or 1
unfoldable put : ℕ → ℕ → ℕ → ℕ
put w zero d = w / 2 * 2 + d
put w (suc s) d = put (w / 2) s d * 2 + w % 2

put_same : (s w d : ℕ) → d ≤ 1 → bit (put w s d) s ≡ eqb d 1
unfolding put
put_same zero w d h = bit_zero (w / 2 * 2 + d) ∙ same_test ((w / 2 * 2 + d) % 2) d (omega arith)
put_same (suc s) w d h = bit_suc (put (w / 2) s d * 2 + w % 2) s ∙ ap (λ (x : ℕ). bit x s) (omega arith) ∙ put_same s (w / 2) d h

put_other : (s l w d : ℕ) → d ≤ 1 → (l ≡ s → ⊥) → bit (put w s d) l ≡ bit w l
unfolding put
put_other zero zero w d h n = absurd (n refl)
put_other zero (suc l) w d h n = bit_suc (w / 2 * 2 + d) l ∙ ap (λ (x : ℕ). bit x l) (omega arith) ∙ sym (bit_suc w l)
put_other (suc s) zero w d h n =
    bit_zero (put (w / 2) s d * 2 + w % 2) ∙ same_test ((put (w / 2) s d * 2 + w % 2) % 2) (w % 2) (omega arith) ∙ sym (bit_zero w)
put_other (suc s) (suc l) w d h n =
    bit_suc (put (w / 2) s d * 2 + w % 2) l
    ∙ ap (λ (x : ℕ). bit x l) (omega arith)
    ∙ put_other s l (w / 2) d h (λ e. n (ap suc e))
    ∙ sym (bit_suc w l)

or_put : (s w : ℕ) → bit_or w (2 ^ s) ≡ put w s 1
unfolding put
or_put zero w = omega (arith, or_step w 1, or_zero_r (w / 2))
or_put (suc s) w =
    let a : 2 ^ suc s / 2 ≡ 2 ^ s = omega (arith, pow-suc 2 s) in
    let b : 2 ^ suc s % 2 ≡ 0 = omega (arith, pow-suc 2 s) in
    let d : bit_or (w / 2) (2 ^ suc s / 2) ≡ put (w / 2) s 1 = ap (bit_or (w / 2)) a ∙ or_put s (w / 2) in
    omega (arith, or_step w (2 ^ suc s))

and_put : (s w : ℕ) → (w - bit_and w (2 ^ s) ≡ put w s 0) × (bit_and w (2 ^ s) ≤ w)
unfolding put
and_put zero w = (omega (arith, and_step w 1, and_zero_r (w / 2)), omega (arith, and_step w 1, and_zero_r (w / 2)))
and_put (suc s) w =
    let a : 2 ^ suc s / 2 ≡ 2 ^ s = omega (arith, pow-suc 2 s) in
    let b : 2 ^ suc s % 2 ≡ 0 = omega (arith, pow-suc 2 s) in
    let d : bit_and (w / 2) (2 ^ suc s / 2) ≡ bit_and (w / 2) (2 ^ s) = ap (bit_and (w / 2)) a in
    let e = and_put s (w / 2) in
    (omega (arith, and_step w (2 ^ suc s), e.0, e.1), omega (arith, and_step w (2 ^ suc s), e.0, e.1))

-- a mask of k bits, all but the bit s set
mask_put : (s k w : ℕ) → s < k → w < 2 ^ k → bit_and w (2 ^ k - 1 - 2 ^ s) ≡ put w s 0
unfolding put
mask_put s zero w l h = absurd (omega arith)
mask_put zero (suc k) w l h =
    let e = pow-suc 2 k in
    let p = pow_pos k in
    let half : w / 2 < 2 ^ k = omega arith in
    let high : (2 ^ suc k - 1 - 1) / 2 ≡ 2 ^ k - 1 = omega arith in
    let low : (2 ^ suc k - 1 - 1) % 2 ≡ 0 = omega arith in
    let all : bit_and (w / 2) ((2 ^ suc k - 1 - 1) / 2) ≡ w / 2 = ap (bit_and (w / 2)) high ∙ and_mask (w / 2) k ∙ mod-eq_of_lt half in
    omega (arith, and_step w (2 ^ suc k - 1 - 1))
mask_put (suc s) (suc k) w l h =
    let e = pow-suc 2 k in
    let f = pow-suc 2 s in
    let p : 2 ^ s < 2 ^ k = pow-lt (omega arith) in
    let high : (2 ^ suc k - 1 - 2 ^ suc s) / 2 ≡ 2 ^ k - 1 - 2 ^ s = omega arith in
    let low : (2 ^ suc k - 1 - 2 ^ suc s) % 2 ≡ 1 = omega arith in
    let rest : bit_and (w / 2) ((2 ^ suc k - 1 - 2 ^ suc s) / 2) ≡ put (w / 2) s 0 =
    ap (bit_and (w / 2)) high ∙ mask_put s k (w / 2) (omega arith) (omega arith) in
    omega (arith, and_step w (2 ^ suc k - 1 - 2 ^ suc s))

-- ---- with_bit and without_bit

-- for a bit that there is
with_put : (w s : ℕ) → s < 64 → with_bit w s ≡ put w s 1
unfolding with_bit
with_put w s h = cond-true _ _ _ (lt-ltb s 64 h) ∙ or_put s w

without_put : (w s : ℕ) → without_bit w s ≡ put w s 0
unfolding without_bit
without_put w s = (and_put s w).0

-- as a machine clears it
pub without_mask : (w s : ℕ) → s < 64 → w < 2 ^ 64 → bit_and w (2 ^ 64 - 1 - 1 * 2 ^ s % 2 ^ 64) ≡ without_bit w s
without_mask w s h k =
    let fits : 1 * 2 ^ s % 2 ^ 64 ≡ 2 ^ s = ap (λ (m : ℕ). m % 2 ^ 64) (one-mul (2 ^ s)) ∙ mod-eq_of_lt (pow-lt h) in
    ap (λ (m : ℕ). bit_and w (2 ^ 64 - 1 - m)) fits ∙ mask_put s 64 w h k ∙ sym (without_put w s)

with_other : (w s l : ℕ) → (l ≡ s → ⊥) → bit (with_bit w s) l ≡ bit w l
unfolding with_bit
with_other w s l n =
    cond_both (ltb s 64) (bit_or w (2 ^ s)) w (λ x. bit x l ≡ bit w l)
    (λ _. ap (λ (x : ℕ). bit x l) (or_put s w) ∙ put_other s l w 1 (omega arith) n)
    (λ _. refl)

with_keeps : (w s l : ℕ) → bit w l ≡ true → bit (with_bit w s) l ≡ true
unfolding with_bit
with_keeps w s l h =
    cond_both (ltb s 64) (bit_or w (2 ^ s)) w (λ x. bit x l ≡ true) (λ _. bit_of_or l w (2 ^ s) ∙ or_left (bit w l) (bit (2 ^ s) l) h) (λ _. h)

with_lt : (w s k : ℕ) → (s < 64 → s < k) → w < 2 ^ k → with_bit w s < 2 ^ k
unfolding with_bit
with_lt w s k p h =
    cond_both (ltb s 64) (bit_or w (2 ^ s)) w (λ x. x < 2 ^ k) (λ e. or_lt k w (2 ^ s) h (pow-lt (p (ltb-true s 64 e)))) (λ _. h)

and_above : (s w : ℕ) → w < 2 ^ s → bit_and w (2 ^ s) ≡ 0
and_above s w h = and_comm w (2 ^ s) ∙ ap (λ (x : ℕ). bit_and x w) (sym (one-mul (2 ^ s))) ∙ and_shifted 1 s w h

-- a word of 64 bits has none from 64 on to clear
pub without_above : (w s : ℕ) → w < 2 ^ 64 → 64 ≤ s → w ≡ without_bit w s
unfolding without_bit
without_above w s h p = let none = and_above s w (lt_of_lt_of_le h (pow_mono p)) in omega arith

-- ---- verdicts put into a word

-- whether d is no-op
abbrev pub is_no_op : Verdict → Bool
is_no_op Operation = false
is_no_op NoOp = true

pub verdict_same : (w s : ℕ) (d : Verdict) → s < 64 → bit (with_verdict w s d) s ≡ is_no_op d
verdict_same w s Operation h = ap (λ (x : ℕ). bit x s) (without_put w s) ∙ put_same s w 0 (omega arith)
verdict_same w s NoOp h = ap (λ (x : ℕ). bit x s) (with_put w s h) ∙ put_same s w 1 (omega arith)

pub verdict_other : (w s l : ℕ) (d : Verdict) → (l ≡ s → ⊥) → bit (with_verdict w s d) l ≡ bit w l
verdict_other w s l Operation n = ap (λ (x : ℕ). bit x l) (without_put w s) ∙ put_other s l w 0 (omega arith) n
verdict_other w s l NoOp n = with_other w s l n

without_le : (w s : ℕ) → without_bit w s ≤ w
unfolding without_bit
without_le w s = omega arith

pub verdict_lt : (w s k : ℕ) (d : Verdict) → s < k → w < 2 ^ k → with_verdict w s d < 2 ^ k
verdict_lt w s k Operation h p = lt_of_le_of_lt (without_le w s) p
verdict_lt w s k NoOp h p = with_lt w s k (λ _. h) p

pub sealed_keeps : (w s l : ℕ) (d : Verdict) → bit w l ≡ true → bit (sealed_with w s d) l ≡ true
sealed_keeps w s l Operation h = h
sealed_keeps w s l NoOp h = with_keeps w s l h

pub sealed_sets : (w s : ℕ) → s < 64 → bit (sealed_with w s NoOp) s ≡ true
sealed_sets w s h = verdict_same w s NoOp h

pub sealed_lt : (w s : ℕ) (d : Verdict) → w < 2 ^ 64 → sealed_with w s d < 2 ^ 64
sealed_lt w s Operation h = h
sealed_lt w s NoOp h = with_lt w s 64 (λ p. p) h

-- ---- one past the highest bit

pub one_past_under : (w : ℕ) → w < 2 ^ 64 → w < 2 ^ one_past w
unfolding one_past
one_past_under w h =
    let m = leading_length 64 w h in
    subst (λ (n : ℕ). w < 2 ^ n) (omega (arith, m.1)) m.2

pub one_past_over : (w l : ℕ) → w < 2 ^ 64 → bit w l ≡ true → l < one_past w
one_past_over w l h e = elim (cases_lt l (one_past w)) [
  | inl p ↦ p
  | inr p ↦ absurd (both_ways (bit w l) (bit_above (one_past w) l w (one_past_under w h) p) e)
]

pub one_past_most : (w : ℕ) → one_past w ≤ 64
unfolding one_past
one_past_most w = omega arith
