use Rattle.checks.proofs.Table.{worked}
use Rattle.checks.proofs.worked_checks.Goals as goal

pub returns : goal.returns
returns c = record { table = worked; run = c.run.ensures }
