-- Entering, by whether it adds the record.
use Rattle.std.proofs.Common.{◌≡◌, ℕ, ◌+◌, ◌-◌, ◌<◌, true, false, is_ok, Ok, Result, sym, ◌∙◌, arith}
use Rattle.std.proofs.lemmas.Bool.{cond-true, cond-false}
use Rattle.std.proofs.lemmas.Bool.Decides.{nat_tests}
use Rattle.refusal.specs.declared.Refusal.{Refusal}
use Rattle.record.specs.Layout.{keeps_layout}
use Rattle.record.specs.declared.Record.{Record}
use Rattle.register.specs.Sets.{Set, added, adds, entering, EnteredInto}

module _ (s : Set) (n : ℕ) (r : Record) where
  -- a record can be added only where a place is free
  room_if_adds : adds s n r ≡ true → 0 < n
  room_if_adds h = grind (arith, nat_tests)

  pub adds_new : keeps_layout r ≡ true → s r ≡ false → 0 < n → adds s n r ≡ true
  adds_new kept absent room = grind (arith, nat_tests)

  module _ (a : Result (Unit {0}) Refusal) where
    -- a refused entry adds nothing
    pub adds_nothing : a ≡ entering s n r → is_ok a ≡ false → adds s n r ≡ false
    adds_nothing answer refused = grind (arith, nat_tests)

  module _ (a : Result (Unit {0}) Refusal) (s' : Set) (n' : ℕ) where
    pub entered_adding : adds s n r ≡ true → a ≡ entering s n r → s' ≡ added s r → n' + 1 ≡ n → EnteredInto s n r a s' n'
    entered_adding h answer held free =
        record {
          answer = answer;
          held = held ∙ sym (cond-true (adds s n r) (added s r) s h);
          free = let less : n' ≡ n - 1 = omega arith in less ∙ sym (cond-true (adds s n r) (n - 1) n h);
        }

    pub entered_keeping : adds s n r ≡ false → a ≡ entering s n r → s' ≡ s → n' ≡ n → EnteredInto s n r a s' n'
    entered_keeping h answer held free =
        record {
          answer = answer;
          held = held ∙ sym (cond-false (adds s n r) (added s r) s h);
          free = free ∙ sym (cond-false (adds s n r) (n - 1) n h);
        }

    module _ (e : EnteredInto s n r a s' n') where
      pub what_is_added : adds s n r ≡ true → (s' ≡ added s r) × (n' + 1 ≡ n)
      what_is_added h =
          let less = e.free ∙ cond-true (adds s n r) (n - 1) n h in
          let room = room_if_adds h in
          (e.held ∙ cond-true (adds s n r) (added s r) s h, omega (arith, less, room))

      pub what_is_kept : adds s n r ≡ false → (s' ≡ s) × (n' ≡ n)
      what_is_kept h = (e.held ∙ cond-false (adds s n r) (added s r) s h, e.free ∙ cond-false (adds s n r) (n - 1) n h)

-- a statement that is no member is added where a place is free
module _ (s : Set) (n : ℕ) (r : Record) (kept : keeps_layout r ≡ true) (absent : s r ≡ false) (room : 0 < n) where
  pub entered_new : (s' : Set) (n' : ℕ) → s' ≡ added s r → n' + 1 ≡ n → EnteredInto s n r (Ok tt) s' n'
  entered_new s' n' held free = entered_adding s n r (Ok tt) s' n' (adds_new s n r kept absent room) (grind (arith, nat_tests)) held free
