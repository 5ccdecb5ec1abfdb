use Rattle.register.proofs.Grants.{granted}
use Rattle.register.proofs.inserting.enter.Goals as goal

pub returns-clause-granted : goal.returns-clause-granted
returns-clause-granted g c = granted g.R.Register _ _ _ _ c.enter.ensures.entered
