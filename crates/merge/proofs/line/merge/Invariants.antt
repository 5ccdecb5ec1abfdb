use Rattle.merge.proofs.Joins.{Joined}
use Rattle.merge.proofs.line.merge.Given as goal

abbrev pub invariant-loop-pick : goal.invariant-loop-pick
invariant-loop-pick l = Joined l.picks l.pick-index l.top l.line l.initial.line
