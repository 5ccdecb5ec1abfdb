use Rattle.quorum.specs.Quorums.{said}
use Rattle.quorum.proofs.Finding.{Found}
use Rattle.quorum.proofs.Membership.witnesses.Given as goal

abbrev pub invariant-loop-place : goal.invariant-loop-place
invariant-loop-place g l =
    Found l.replicas l.fn.self.replicas l.place (said (g.R.Register.held l.register) l.statement) l.found
