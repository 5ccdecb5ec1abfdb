-- Verdicts on a slot.
--   verdict_number d    — the number of the verdict d in a statement: 0 for operation, 1 for no-op
--   other_verdict d     — the verdict that d is not
--   with_verdict w l d  — the word w with the verdict d at slot l
--   sealed_with w l d   — the sealed word w after the verdict d on slot l: a no-op sets its bit, an operation changes nothing
use Rattle.std.specs.Prelude.{ℕ}
use Rattle.replica.specs.declared.Verdict.{Verdict}
use Rattle.replica.specs.declared.Verdict.TheVariants.{Operation, NoOp}
use Rattle.replica.specs.Words.{with_bit, without_bit}

abbrev pub verdict_number : Verdict → ℕ
verdict_number Operation = 0
verdict_number NoOp = 1

abbrev pub other_verdict : Verdict → Verdict
other_verdict Operation = NoOp
other_verdict NoOp = Operation

abbrev pub with_verdict : ℕ → ℕ → Verdict → ℕ
with_verdict w l Operation = without_bit w l
with_verdict w l NoOp = with_bit w l

abbrev pub sealed_with : ℕ → ℕ → Verdict → ℕ
sealed_with w l Operation = w
sealed_with w l NoOp = with_bit w l
