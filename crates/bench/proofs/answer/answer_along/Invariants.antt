use Rattle.protocol.specs.Service.{book}
use Rattle.bench.proofs.Feeding.{Fed}
use Rattle.bench.proofs.answer.answer_along.Given as goal

abbrev pub invariant-loop-l : goal.invariant-loop-l
invariant-loop-l g l = Fed g.S.Service l.fn.service (book l.operations) l.word l.l l.later l.service
