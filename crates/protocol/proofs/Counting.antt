-- Quorums meet.
--   Few u         — at most f of the replicas are foreign
--   Both u a b    — an honest replica that passes both tests a and b
--   Honest u a    — an honest replica that passes the test a
use Rattle.std.proofs.Common.{◌≡◌, ℕ, zero, suc, ◌+◌, ◌<◌, ◌≤◌, Bool, true, false, cond, not, ◌&&◌, ◌||◌, eqb, refl, ap, subst, inl, inr, arith}
use Rattle.std.proofs.lemmas.Bool.{both_ways, and_parts, not-true, ne_eqb, eq-eqb, or_left, cases_eq}
use Rattle.quorum.specs.Quorums.{count}
use Rattle.protocol.specs.Setup.{Setup, replicas, foreign}
use Rattle.protocol.proofs.Quorums.{Many}

abbrev pub Few : Setup → Type 0
Few u = count (replicas u) (foreign u) ≤ u.f

indicator_mono : (a b : Bool) → (a ≡ true → b ≡ true) → ◌≤◌ (cond a 1 0) (cond b 1 0)
indicator_mono true true h = omega arith
indicator_mono true false h = absurd (both_ways false refl (h refl))
indicator_mono false true h = omega arith
indicator_mono false false h = omega arith

pub count_mono : (n : ℕ) (p q : ℕ → Bool) → ((i : ℕ) → p i ≡ true → q i ≡ true) → count n p ≤ count n q
unfolding count
count_mono zero p q h = omega arith
count_mono (suc n) p q h = omega (arith, count_mono n p q h, indicator_mono (p n) (q n) (h n))

indicator_meet : (a b f : Bool) → cond a 1 0 + cond b 1 0 ≤ 1 + cond f 1 0 + cond (a && (b && not f)) 1 0
indicator_meet true true true = omega arith
indicator_meet true true false = omega arith
indicator_meet true false true = omega arith
indicator_meet true false false = omega arith
indicator_meet false true true = omega arith
indicator_meet false true false = omega arith
indicator_meet false false true = omega arith
indicator_meet false false false = omega arith

-- of n numbers that are counted in a and in b, those that are in both and not in f
meet : (n : ℕ) (a b f : ℕ → Bool) → count n a + count n b ≤ n + count n f + count n (λ i. a i && (b i && not (f i)))
unfolding count
meet zero a b f = omega arith
meet (suc n) a b f = omega (arith, meet n a b f, indicator_meet (a n) (b n) (f n))

some_below : (n : ℕ) (p : ℕ → Bool) → 0 < count n p → (i : ℕ) × (i < n) × (p i ≡ true)
unfolding count
some_below zero p h = absurd (omega arith)
some_below (suc n) p h = go (p n) refl (some_below n p)
  where
    go : (b : Bool) → p n ≡ b → (0 < count n p → (i : ℕ) × (i < n) × (p i ≡ true)) → (i : ℕ) × (i < suc n) × (p i ≡ true)
    go true e ih = (n, omega arith, e)
    go false e ih =
        let k : 0 < count n p + 0 = subst (λ (b : Bool). 0 < count n p + cond b 1 0) e h in
        let r = ih (omega arith) in
        (r.0, omega (arith, r.1), r.2)

pub record Both (u : Setup) (a b : ℕ → Bool) : Type 0 where
  pub who : ℕ
  pub below : who < replicas u
  pub honest : foreign u who ≡ false
  pub first : a who ≡ true
  pub second : b who ≡ true

-- two quorums share an honest replica
pub intersect : (u : Setup) → Few u → (a b : ℕ → Bool) → Many u a → Many u b → Both u a b
intersect u few a b p q =
    let r = some_below (replicas u) (λ i. a i && (b i && not (foreign u i))) (omega (arith, meet (replicas u) a b (foreign u), few)) in
    let s = and_parts (a r.0) (b r.0 && not (foreign u r.0)) r.2 in
    let t = and_parts (b r.0) (not (foreign u r.0)) s.1 in
    record { who = r.0; below = r.1; honest = not-true (foreign u r.0) t.1; first = s.0; second = t.0 }

pub record Honest (u : Setup) (a : ℕ → Bool) : Type 0 where
  pub who : ℕ
  pub below : who < replicas u
  pub honest : foreign u who ≡ false
  pub says : a who ≡ true

-- a quorum has an honest replica
pub member : (u : Setup) → Few u → (a : ℕ → Bool) → Many u a → Honest u a
member u few a p =
    let r = intersect u few a a p p in
    record { who = r.who; below = r.below; honest = r.honest; says = r.first }

pub many_mono : (u : Setup) (a b : ℕ → Bool) → ((i : ℕ) → a i ≡ true → b i ≡ true) → Many u a → Many u b
many_mono u a b h p = omega (arith, count_mono (replicas u) a b h)

pub count_none : (n : ℕ) → count n (λ _. false) ≡ 0
unfolding count
count_none zero = refl
count_none (suc n) = omega (arith, count_none n)

pub indicator_ext : (a b : Bool) → a ≡ b → ◌≡◌ {A = ℕ} (cond a 1 0) (cond b 1 0)
indicator_ext a b e = ap (λ (x : Bool). cond x 1 0) e

pub count_ext : (n : ℕ) (p q : ℕ → Bool) → ((i : ℕ) → i < n → p i ≡ q i) → count n p ≡ count n q
unfolding count
count_ext zero p q h = refl
count_ext (suc n) p q h =
    omega (arith, count_ext n p q (λ i k. h i (omega arith)), indicator_ext (p n) (q n) (h n (omega arith)))

-- one more number passes
pub count_one_more : (n a : ℕ) (q : ℕ → Bool) → a < n → q a ≡ false → count n (λ i. eqb a i || q i) ≡ suc (count n q)
unfolding count
count_one_more zero a q h e = absurd (omega arith)
count_one_more (suc n) a q h e = elim (cases_eq a n) [
  | inl t ↦
      omega (
        arith,
        count_ext n (λ i. eqb a i || q i) q (λ i k. ap (λ (b : Bool). b || q i) (ne_eqb a i (λ y. omega arith))),
        indicator_ext (eqb a n || q n) true (or_left (eqb a n) (q n) (eq-eqb a n t)),
        indicator_ext (q n) false (subst (λ (x : ℕ). q x ≡ false) t e),
      )
  | inr t ↦
      omega (
        arith,
        count_one_more n a q (omega arith) e,
        indicator_ext (eqb a n || q n) (q n) (ap (λ (b : Bool). b || q n) (ne_eqb a n t)),
      )
]
