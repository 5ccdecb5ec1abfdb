-- What a list of places stores, one place more.
use Rattle.std.proofs.Common.{◌≡◌, ℕ, zero, suc, ◌<◌, Bool, true, false, not, MatchBool, List, [], ◌∷◌, ◌++◌, length, refl, subst, inl, inr, arith}
use mathlib.Core.Path.{fun_ext}
use Rattle.std.specs.List.{AllWithin, HoldsAt, list_any}
use Rattle.std.proofs.lemmas.List.Folds.{list_any-append}
use Rattle.std.proofs.lemmas.Bool.{cases_Bool, and_from, and_left, and_right, and_parts, or_from, or_left, or_right, false≢true, true≢false}
use Rattle.record.specs.Layout.{keeps_layout}
use Rattle.record.specs.Same.{same}
use Rattle.record.specs.declared.Record.{Record}
use Rattle.record.proofs.Same.{same_decides}
use Rattle.register.specs.Sets.{Emptiness, added}
use Rattle.register.specs.Stored.{stored}

module _ {X : Type 0} (m : Record → X → Bool) (ys : List X) where
  -- a place more that holds just r
  pub stored_push : (y : X) (r : Record) → keeps_layout r ≡ true → ((x : Record) → keeps_layout x ≡ true → m x y ≡ same r x) → stored m (ys ++ y ∷ []) ≡ added (stored m ys) r
  stored_push y r kept is =
      fun_ext (λ x.
      let more = list_any-append (m x) ys (y ∷ []) in
      let here = is x in
      let decides = same_decides r x in
      let kept-too : same r x ≡ true → keeps_layout x ≡ true = λ h. subst (λ (z : Record). keeps_layout z ≡ true) (decides.0 h) kept in
      grind arith)

-- a place that holds a statement, and one that holds none
module _ {X : Type 0} (m : Record → X → Bool) where
  abbrev pub Holds : X → Type 0
  Holds y = (x : Record) × (keeps_layout x ≡ true) × (m x y ≡ true)

  abbrev pub HoldsNone : X → Type 0
  HoldsNone y = (x : Record) → keeps_layout x ≡ true → m x y ≡ false

  in_some : (ys : List X) (k : ℕ) → k < length ys → HoldsAt Holds ys k → (x : Record) × (stored m ys x ≡ true)
  in_some [] k l at = absurd (omega arith)
  in_some (y ∷ ys) zero l at = let x = at y in (x.0, and_from (keeps_layout x.0) _ x.1 (or_left (m x.0 y) _ x.2))
  in_some (y ∷ ys) (suc k) l at =
      let x = in_some ys k (omega arith) at in
      let parts = and_parts (keeps_layout x.0) _ x.1 in
      (x.0, and_from (keeps_layout x.0) _ parts.0 (or_right (m x.0 y) _ parts.1))

  in_none : (ys : List X) → AllWithin HoldsNone ys 0 (length ys) → (x : Record) → keeps_layout x ≡ true → list_any (m x) ys ≡ false
  in_none [] none x kept = refl
  in_none (y ∷ ys) none x kept =
      or_from (m x y) _ (none 0 y (omega arith) (omega arith) x kept)
      (in_none ys (λ k d from to. none (suc k) d (omega arith) (omega arith)) x kept)

  -- b tells whether one of the places ys holds a statement
  pub stored_emptiness : (ys : List X) (b : Bool) → MatchBool b ((k : ℕ) × (k < length ys) × HoldsAt Holds ys k) (AllWithin HoldsNone ys 0 (length ys)) → Emptiness (stored m ys) (not b)
  stored_emptiness ys true h =
      record { none = λ e. absurd (false≢true e); some = λ _. in_some ys h.0 h.1 h.2 }
  stored_emptiness ys false h =
      record {
        none = λ _ x. elim (cases_Bool (keeps_layout x)) [
          | inl kept ↦ and_right (keeps_layout x) _ (in_none ys h x kept)
          | inr broken ↦ and_left (keeps_layout x) _ broken
        ];
        some = λ e. absurd (true≢false e);
      }
