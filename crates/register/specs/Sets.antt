-- What a register means, a set of statements and a number of free places, and what entering one does.
--   Set                        — a set of records, as a test
--   nothing                    — the empty set
--   Emptiness s b              — b tells whether s is empty: it is true if s has no member, and false if it has one
--   added s r                  — s with r in it
--   adds s n r                 — entering r adds it: r keeps the layout, is no member, and of n free places there is one
--   entering s n r             — what entering r answers
--   held_after s n r           — the set afterwards
--   free_after s n r           — the number of free places afterwards
--   addition s n r             — r as a list, where entering r adds it, else the empty list
--   EnteredInto s n r a s' n'  — r was entered: the answer was a, and set and number became s' and n'
use Rattle.std.specs.Prelude.{◌≡◌, ℕ, ◌-◌, Bool, true, false, cond, not, ◌&&◌, ◌||◌, List, [], ◌∷◌, Ok, Result, ◌==◌}
use Rattle.refusal.specs.Grounds.{unless}
use Rattle.refusal.specs.declared.Ground.TheVariants.{Layout, RegisterFull}
use Rattle.refusal.specs.declared.Refusal.{Refusal}
use Rattle.record.specs.Layout.{keeps_layout}
use Rattle.record.specs.Same.{same}
use Rattle.record.specs.declared.Record.{Record}

abbrev pub Set : Type 0
Set = Record → Bool

abbrev pub nothing : Set
nothing = λ _. false

pub record Emptiness (s : Set) (b : Bool) : Type 0 where
  pub none : b ≡ true → (x : Record) → s x ≡ false
  pub some : b ≡ false → (x : Record) × (s x ≡ true)

abbrev pub added : Set → Record → Set
added s r = λ x. s x || same r x

abbrev pub adds : Set → ℕ → Record → Bool
adds s n r = keeps_layout r && not (s r) && not (n == 0)

abbrev pub entering : Set → ℕ → Record → Result (Unit {0}) Refusal
entering s n r =
    unless (keeps_layout r) Layout 0 (unless (s r || not (n == 0)) RegisterFull 0 (Ok tt))

abbrev pub held_after : Set → ℕ → Record → Set
held_after s n r = cond (adds s n r) (added s r) s

abbrev pub free_after : Set → ℕ → Record → ℕ
free_after s n r = cond (adds s n r) (n - 1) n

abbrev pub addition : Set → ℕ → Record → List Record
addition s n r = cond (adds s n r) (r ∷ []) []

pub record EnteredInto (s : Set) (n : ℕ) (r : Record) (a : Result (Unit {0}) Refusal) (s' : Set) (n' : ℕ) : Type 0 where
  pub answer : a ≡ entering s n r
  pub held : s' ≡ held_after s n r
  pub free : n' ≡ free_after s n r
