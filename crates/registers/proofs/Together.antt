-- Two registers as one: entering goes on to the second where the first refuses.
use Rattle.std.proofs.Common.{◌≡◌, ℕ, ◌+◌, true, false, cond, ◌==◌, is_ok, List, [], ◌∷◌, ◌++◌, MatchBool, Result, sym, ap, ◌∙◌, inl, inr, arith}
use mathlib.Core.Path.{fun_ext}
use Rattle.std.specs.List.{fold}
use Rattle.std.proofs.lemmas.Bool.{cases_Bool, cond-false}
use Rattle.std.proofs.lemmas.Bool.Decides.{nat_tests}
use Rattle.refusal.specs.declared.Refusal.{Refusal}
use Rattle.record.specs.declared.Record.{Record}
use Rattle.register.specs.Sets.{Set, added, adds, entering, held_after, free_after, addition, EnteredInto}
use Rattle.register.specs.declared.Register.{Ghosts}
use Rattle.register.proofs.Entering.{adds_nothing, entered_adding, entered_keeping, what_is_added, what_is_kept}
use Rattle.registers.specs.Sheets.{Sheet, sheet_held, sheet_free, sheet_after, together, spare_held, spare_free, spare_memory, spare_stores, BelowFirst}
use Rattle.registers.specs.declared.sheet.SpareSheet.{SpareSheet}

-- r is entered into s with m free places, and t, which does not hold it, has k
module _ (s t : Set) (m k : ℕ) (r : Record) (s' : Set) (m' : ℕ) (a : Result (Unit {0}) Refusal) (e : EnteredInto s m r a s' m') (absent : t r ≡ false) where
  -- the first refuses it, and it is entered into the second
  pub entered_second : is_ok a ≡ false → (t' : Set) (k' : ℕ) (b : Result (Unit {0}) Refusal) → EnteredInto t k r b t' k' → EnteredInto (together s t) (m + k) r b (together s' t') (m' + k')
  entered_second refused t' k' b f =
      let answers = e.answer in
      let answers-too = f.answer in
      let v = what_is_kept s m r a s' m' e (grind (arith, nat_tests)) in
      let first : together s' t' ≡ together s t' = ap (λ (u : Set). together u t') v.0 in
      elim (cases_Bool (adds t k r)) [
        | inl h ↦
            let w = what_is_added t k r b t' k' f h in
            let held : together s' t' ≡ added (together s t) r = first ∙ ap (together s) w.0 ∙ fun_ext (λ x. grind arith) in
            entered_adding (together s t) (m + k) r b (together s' t') (m' + k') (grind (arith, nat_tests)) (grind (arith, nat_tests)) held (omega (arith, v.1, w.1))
        | inr h ↦
            let w = what_is_kept t k r b t' k' f h in
            let held = first ∙ ap (together s) w.0 in
            entered_keeping (together s t) (m + k) r b (together s' t') (m' + k') (grind (arith, nat_tests)) (grind (arith, nat_tests)) held (omega (arith, v.1, w.1))
      ]

abbrev sheet_of : List Record → Sheet
sheet_of rs = record { items = rs }

sheet_entered : (t t' : Sheet) (r : Record) → MatchBool (adds (sheet_held t) (sheet_free t) r) (t'.items ≡ t.items ++ r ∷ []) (t' ≡ t) → t' ≡ sheet_after t r
sheet_entered t t' r =
    elim (adds (sheet_held t) (sheet_free t) r) as (λ b. MatchBool b (t'.items ≡ t.items ++ r ∷ []) (t' ≡ t) → t' ≡ sheet_of (cond b (t.items ++ r ∷ []) t.items)) [
      | true ↦ λ h. ap sheet_of h
      | false ↦ λ h. h
    ]

-- r, which the sheet did not hold and the register below refused, was entered into the sheet
module _
    {R : Type 0} (g : Ghosts R) (old new : SpareSheet R) (r : Record) (a : Result (Unit {0}) Refusal)
    (e : EnteredInto (g.held old.below) (g.free old.below) r a (g.held new.below) (g.free new.below))
    (absent : sheet_held old.sheet r ≡ false) (refused : is_ok a ≡ false)
    (after : MatchBool (adds (sheet_held old.sheet) (sheet_free old.sheet) r) (new.sheet.items ≡ old.sheet.items ++ r ∷ []) (new.sheet ≡ old.sheet))
  where
    pub refused_below : BelowFirst g old r new
    refused_below =
        let s = g.held old.below in
        let m = g.free old.below in
        record {
          held = e.held ∙ sym (cond-false (sheet_held old.sheet r) s (held_after s m r) absent);
          free = e.free ∙ sym (cond-false (sheet_held old.sheet r) m (free_after s m r) absent);
          sheet =
              sheet_entered old.sheet new.sheet r after
              ∙ sym (cond-false (is_ok (entering s m r)) old.sheet (sheet_after old.sheet r) (sym (ap is_ok e.answer) ∙ refused));
        }

    -- where it stands
    pub memory_above :
        g.memory new.below ≡ fold g.stores (g.memory old.below) (addition (g.held old.below) (g.free old.below) r)
        → spare_memory g new ≡ fold (spare_stores g) (spare_memory g old) (addition (spare_held g old) (spare_free g old) r)
    memory_above stored =
        let answers = e.answer in
        let none = adds_nothing (g.held old.below) (g.free old.below) r a e.answer refused in
        let sheet = sheet_entered old.sheet new.sheet r after in
        elim (cases_Bool (adds (sheet_held old.sheet) (sheet_free old.sheet) r)) [
          | inl h ↦
              let added : adds (spare_held g old) (spare_free g old) r ≡ true = grind (arith, nat_tests) in
              let full : (g.free old.below == 0) ≡ true = grind (arith, nat_tests) in
              rw (sheet, stored, e.free, none, h, added, full)
          | inr h ↦
              let neither : adds (spare_held g old) (spare_free g old) r ≡ false = grind (arith, nat_tests) in
              rw (sheet, stored, e.free, none, h, neither)
        ]
