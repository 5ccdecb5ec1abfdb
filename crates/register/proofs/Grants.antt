-- What a grant comes to.
use Rattle.std.proofs.Common.{◌≡◌, ◌+◌, Bool, true, false, cond, is_ok, Result, sym, ap, ◌∙◌, inl, inr, arith}
use Rattle.std.proofs.lemmas.Bool.{cases_Bool, or_left, or_right, or_cases}
use Rattle.std.proofs.lemmas.Bool.Decides.{nat_tests}
use Rattle.refusal.specs.declared.Refusal.{Refusal}
use Rattle.record.specs.Same.{same}
use Rattle.record.specs.declared.Record.{Record}
use Rattle.record.proofs.Same.{same_decides, same_refl}
use Rattle.register.specs.Sets.{Set, adds, EnteredInto}
use Rattle.register.specs.Insertions.{InsertGranted}
use Rattle.register.specs.declared.Register.{Ghosts}
use Rattle.register.proofs.Entering.{what_is_added, what_is_kept}

module _ {R : Type 0} (g : Ghosts R) (old : R) (r : Record) (a : Result (Unit {0}) Refusal) (new : R) (e : EnteredInto (g.held old) (g.free old) r a (g.held new) (g.free new)) where
  pub granted : is_ok a ≡ true → InsertGranted g old r new
  granted ok =
      let s = g.held old in
      let n = g.free old in
      let answers = e.answer in
      elim (cases_Bool (adds s n r)) [
        | inl h ↦
            let w = what_is_added s n r a (g.held new) (g.free new) e h in
            let at = λ (x : Record). ap (λ (u : Set). u x) w.0 in
            let fresh : s r ≡ false = grind (arith, nat_tests) in
            record {
              member = at r ∙ or_right (s r) (same r r) (same_refl r);
              stayed = λ x m. at x ∙ or_left (s x) (same r x) m;
              no_other = λ x m. elim (or_cases (s x) (same r x) (sym (at x) ∙ m)) [
                | inl m' ↦ inl m'
                | inr m' ↦ inr (sym ((same_decides r x).0 m'))
              ];
              places = ap (λ (b : Bool). g.free new + cond b 0 1) fresh ∙ w.1;
            }
        | inr h ↦
            let w = what_is_kept s n r a (g.held new) (g.free new) e h in
            let at = λ (x : Record). ap (λ (u : Set). u x) w.0 in
            let held : s r ≡ true = grind (arith, nat_tests) in
            let none : g.free new + 0 ≡ n = omega (arith, w.1) in
            record {
              member = at r ∙ held;
              stayed = λ x m. at x ∙ m;
              no_other = λ x m. inl (sym (at x) ∙ m);
              places = ap (λ (b : Bool). g.free new + cond b 0 1) held ∙ none;
            }
      ]
