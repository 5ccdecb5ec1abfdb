use Rattle.rating.proofs.Moving.{Moving}
use Rattle.rating.proofs.serving.put_first.Given as goal

abbrev pub invariant-loop-held : goal.invariant-loop-held
invariant-loop-held l = Moving l.curve l.fn.curves l.curves l.moved l.held-index
