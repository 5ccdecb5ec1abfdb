-- A loop that looks for the first fault: what it answers at the place k, where those before it passed.
use Rattle.std.proofs.Common.{◌≡◌, ℕ, ◌+◌, ◌<◌, ◌≤◌, Bool, true, false, List, length, get_or, drop, Ok, Err, sym, ap, ◌∙◌}
use Rattle.std.proofs.lemmas.List.{at_drop_more, at_drop_all}
use Rattle.refusal.specs.Grounds.{refused, unless}
use Rattle.refusal.specs.declared.Ground.{Ground}
use Rattle.record.specs.declared.Record.{Record}
use Rattle.merge.specs.Checks.{first_fault}

module _ (g : Ground) (t : ℕ → Record → Bool) (ps : List Record) (k : ℕ) where
  -- the answer is told by what is left
  abbrev pub Passed : Type 0
  Passed = first_fault g t k (drop k ps) ≡ first_fault g t 0 ps

  step : (d : Record) (b : Bool) → k < length ps → t k (get_or ps k d) ≡ b → unless b g k (first_fault g t (k + 1) (drop (k + 1) ps)) ≡ first_fault g t k (drop k ps)
  step d b l e =
      ap (λ (x : Bool). unless x g k (first_fault g t (k + 1) (drop (k + 1) ps))) (sym e)
      ∙ sym (at_drop_more (first_fault g t k) ps k d l)

  pub fault_more : (d : Record) → k < length ps → t k (get_or ps k d) ≡ true → Passed → first_fault g t (k + 1) (drop (k + 1) ps) ≡ first_fault g t 0 ps
  fault_more d l e h = step d true l e ∙ h

  pub fault_here : (d : Record) → k < length ps → t k (get_or ps k d) ≡ false → Passed → Err (refused g k) ≡ first_fault g t 0 ps
  fault_here d l e h = step d false l e ∙ h

  pub fault_none : length ps ≤ k → Passed → Ok tt ≡ first_fault g t 0 ps
  fault_none l h = sym (at_drop_all (first_fault g t k) ps k l) ∙ h
