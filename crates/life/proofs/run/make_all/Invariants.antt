use Rattle.life.specs.Calls.{calls_of}
use Rattle.life.specs.Making.{Underway}
use Rattle.life.proofs.run.make_all.Given as goal

abbrev pub invariant-loop-turn : goal.invariant-loop-turn
invariant-loop-turn g l =
    Underway g.R.Register g.S.Service l.initial.bench (calls_of l.initial.turns) l.turn-index l.turns l.bench
