use Rattle.std.proofs.Common.{rules, tests}
use Rattle.merge.specs.Checks.{backed}
use Rattle.merge.proofs.backing.check_backing.Goals as goal

pub returns : goal.returns
returns g c =
    let a = c.args in
    c.first_fault.ensures (λ _ p. backed (g.R.Register.held a.register.now) a.members a.top p) (λ b p r e. search (rules, tests))
