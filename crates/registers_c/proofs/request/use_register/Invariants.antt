use Rattle.registers_c.proofs.Making.{Underway}
use Rattle.registers_c.proofs.request.use_register.Given as goal

abbrev pub invariant-loop-request : goal.invariant-loop-request
invariant-loop-request g l = Underway g.R.Register l.fn.register l.fn.requests l.request-index l.requests l.register
