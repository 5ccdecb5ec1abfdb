-- Recursions over picks in which the order does not matter, and loops over the picks.
use Rattle.std.proofs.Common.{◌≡◌, ℕ, ◌+◌, ◌/◌, ◌<◌, max, Bool, true, false, cond, eqb, List, [], ◌∷◌, length, get_or, drop, sym, refl, ap, ◌∙◌, subst, ap₂, arith}
use mathlib.Core.List.{Perm, Permᴰ}
use mathlib.Core.Logic.{∥∥₁_elim}
use native.Mathlib.Nat.{ℕ_set}
use lib.Arith.{bin_ind}
use lib.Bits.{bit_or, or_step, or_shr, or_zero_l, or_comm}
use Rattle.std.specs.List.{fold}
use Rattle.std.proofs.lemmas.List.{at_drop_more}
use Rattle.std.proofs.lemmas.Bool.{eq-eqb, ne_eqb, cond-true, cond-false}
use Rattle.record.specs.declared.Record.{Record}
use Rattle.merge.specs.Merges.{top, merged_length, merged_word}

-- a recursion over a list whose steps may be exchanged
module _ (f : List Record → ℕ) (step : Record → ℕ → ℕ) (more : (p : Record) (ps : List Record) → f (p ∷ ps) ≡ step p (f ps)) (swap : (p q : Record) (n : ℕ) → step p (step q n) ≡ step q (step p n)) where
  derived_alike : (ps qs : List Record) → Permᴰ ps qs → f ps ≡ f qs
  derived_alike _ _ Permᴰ.nil = refl
  derived_alike _ _ (Permᴰ.cons {a} {b} {l₁} {l₂} e d) = more a l₁ ∙ ap₂ step e (derived_alike l₁ l₂ d) ∙ sym (more b l₂)
  derived_alike _ _ (Permᴰ.swap {a} {b} {a'} {b'} {l} e₁ e₂) =
      more a (b ∷ l)
      ∙ ap (step a) (more b l)
      ∙ swap a b (f l)
      ∙ ap₂ step e₂ (ap (λ (p : Record). step p (f l)) e₁)
      ∙ ap (step a') (sym (more b' l))
      ∙ sym (more a' (b' ∷ l))
  derived_alike _ _ (Permᴰ.trans {l₁} {l₂} {l₃} d₁ d₂) = derived_alike l₁ l₂ d₁ ∙ derived_alike l₂ l₃ d₂

  pub alike : (ps qs : List Record) → Perm ps qs → f ps ≡ f qs
  alike ps qs h = ∥∥₁_elim h (ℕ_set (f ps) (f qs)) (derived_alike ps qs)

or_swap : (a b c : ℕ) → bit_or a (bit_or b c) ≡ bit_or b (bit_or a c)
or_swap =
    bin_ind (λ (n : ℕ). (b c : ℕ) → bit_or n (bit_or b c) ≡ bit_or b (bit_or n c)) (λ b c. or_zero_l (bit_or b c) ∙ ap (bit_or b) (sym (or_zero_l c)))
    (λ n ih b c.
    let high : bit_or (n / 2) (bit_or b c / 2) ≡ bit_or (b / 2) (bit_or n c / 2) =
    ap (bit_or (n / 2)) (or_shr b c 1) ∙ ih (b / 2) (c / 2) ∙ ap (bit_or (b / 2)) (sym (or_shr n c 1)) in
    omega (arith, or_step n (bit_or b c), or_step b (bit_or n c), or_step b c, or_step n c, high))

pub max_swap : (x y n : ℕ) → max x (max y n) ≡ max y (max x n)
max_swap x y n = omega arith

max_comm : (x y : ℕ) → max x y ≡ max y x
max_comm x y = omega arith

-- f, from a number, joins by g what x tells of each pick whose last is t
pub record Joins (t : ℕ) (g : ℕ → ℕ → ℕ) (x : Record → ℕ) (f : ℕ → List Record → ℕ) : Type 0 where
  comm : (a b : ℕ) → g a b ≡ g b a
  swap : (a b n : ℕ) → g a (g b n) ≡ g b (g a n)
  none : (n : ℕ) → f n [] ≡ n
  more : (n : ℕ) (p : Record) (ps : List Record) → f n (p ∷ ps) ≡ cond (eqb p.last t) (g (x p) (f n ps)) (f n ps)

pub joins_reaches : (t : ℕ) → Joins t max (λ p. p.slot) (merged_length t)
joins_reaches t = record { comm = max_comm; swap = max_swap; none = λ _. refl; more = λ _ _ _. refl }

pub joins_words : (t : ℕ) → Joins t bit_or (λ p. p.word) (merged_word t)
joins_words t = record { comm = or_comm; swap = or_swap; none = λ _. refl; more = λ _ _ _. refl }

module _ {t : ℕ} {g : ℕ → ℕ → ℕ} {x : Record → ℕ} {f : ℕ → List Record → ℕ} (j : Joins t g x f) where
  swap_joins : (a b : Bool) (y z n : ℕ) → cond a (g y (cond b (g z n) n)) (cond b (g z n) n) ≡ cond b (g z (cond a (g y n) n)) (cond a (g y n) n)
  swap_joins true true y z n = j.swap y z n
  swap_joins true false y z n = refl
  swap_joins false true y z n = refl
  swap_joins false false y z n = refl

  pub joins_alike : (n : ℕ) (ps qs : List Record) → Perm ps qs → f n ps ≡ f n qs
  joins_alike n =
      alike (f n) (λ p m. cond (eqb p.last t) (g (x p) m) m) (j.more n)
      (λ p q m. swap_joins (eqb p.last t) (eqb q.last t) (x p) (x q) m)

  -- what is joined to the number is joined to the result
  joined : (a n : ℕ) (ps : List Record) → f (g n a) ps ≡ g a (f n ps)
  joined a n [] = j.none (g n a) ∙ j.comm n a ∙ ap (g a) (sym (j.none n))
  joined a n (p ∷ ps) =
      j.more (g n a) p ps
      ∙ ap (λ (m : ℕ). cond (eqb p.last t) (g (x p) m) m) (joined a n ps)
      ∙ swap_joins (eqb p.last t) true (x p) a (f n ps)
      ∙ ap (g a) (sym (j.more n p ps))

  -- a loop over the picks
  module _ (ps : List Record) (i n k : ℕ) (h : f n (drop i ps) ≡ k) where
    join_more : (d : Record) → i < length ps → (get_or ps i d).last ≡ t → f (g n (x (get_or ps i d))) (drop (i + 1) ps) ≡ k
    join_more d l e =
        joined (x (get_or ps i d)) n (drop (i + 1) ps)
        ∙ sym (cond-true (eqb (get_or ps i d).last t) _ _ (eq-eqb _ t e))
        ∙ sym (j.more n (get_or ps i d) (drop (i + 1) ps))
        ∙ sym (at_drop_more (f n) ps i d l)
        ∙ h

    join_past : (d : Record) → i < length ps → ((get_or ps i d).last ≡ t → ⊥) → f n (drop (i + 1) ps) ≡ k
    join_past d l e =
        sym (cond-false (eqb (get_or ps i d).last t) _ _ (ne_eqb _ t e))
        ∙ sym (j.more n (get_or ps i d) (drop (i + 1) ps))
        ∙ sym (at_drop_more (f n) ps i d l)
        ∙ h

-- what a loop over the picks has joined to the line m, from the line n, and what is left
module _ (ps : List Record) (i t : ℕ) (m n : ℕ × ℕ) where
  abbrev pub Joined : Type 0
  Joined = (merged_length t m.0 (drop i ps) ≡ merged_length t n.0 ps) × (merged_word t m.1 (drop i ps) ≡ merged_word t n.1 ps)

module _ (ps : List Record) (i t : ℕ) (m n : ℕ × ℕ) (h : Joined ps i t m n) where
  -- the loop goes on with the line k
  module _ (k : ℕ × ℕ) (d : Record) (l : i < length ps) where
    pub line_more : (get_or ps i d).last ≡ t → k ≡ (max m.0 (get_or ps i d).slot, bit_or m.1 (get_or ps i d).word) → Joined ps (i + 1) t k n
    line_more e is =
        subst (λ (x : ℕ × ℕ). Joined ps (i + 1) t x n) (sym is) (join_more (joins_reaches t) ps i m.0 _ h.0 d l e, join_more (joins_words t) ps i m.1 _ h.1 d l e)

    pub line_past : ((get_or ps i d).last ≡ t → ⊥) → k ≡ m → Joined ps (i + 1) t k n
    line_past e is =
        subst (λ (x : ℕ × ℕ). Joined ps (i + 1) t x n) (sym is) (join_past (joins_reaches t) ps i m.0 _ h.0 d l e, join_past (joins_words t) ps i m.1 _ h.1 d l e)

-- the top, from the first pick on
top_from : (ps : List Record) (n : ℕ) → fold (λ a p. max a p.last) n ps ≡ max n (top ps)
top_from [] n = omega arith
top_from (p ∷ ps) n = omega (arith, top_from ps (max n p.last))

pub top_fold : (ps : List Record) → top ps ≡ fold (λ a p. max a p.last) 0 ps
top_fold ps = omega (arith, top_from ps 0)
