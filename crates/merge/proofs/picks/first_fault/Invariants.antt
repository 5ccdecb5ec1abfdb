use Rattle.std.proofs.Common.{Bool, List, take}
use Rattle.record.specs.declared.Record.{Record}
use Rattle.merge.specs.Checks.{Computes}
use Rattle.merge.proofs.Faults.{Passed}
use Rattle.merge.proofs.picks.first_fault.Given as goal

abbrev pub invariant-loop-place : goal.invariant-loop-place
invariant-loop-place g l =
    (t : List Record → Record → Bool) → Computes (goal.F-post g l.passes) t → Passed l.why (λ k p. t (take k l.picks) p) l.picks l.place
