use Rattle.std.proofs.Common.{rules, tests}
use Rattle.record.specs.Layout.{keeps_layout}
use Rattle.merge.proofs.picks.check_layout.Goals as goal

pub returns : goal.returns
returns c = c.first_fault.ensures (λ _ p. keeps_layout p) (λ b p r e. search (rules, tests))
