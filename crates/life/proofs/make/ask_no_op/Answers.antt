-- A certificate call, by the lemma for both.
use Rattle.std.proofs.Common.{refl}
use Rattle.life.proofs.Certified.{makes_certificate}
use Rattle.life.proofs.make.ask_no_op.Goals as goal

pub returns : goal.returns
returns g c =
    makes_certificate g.R.Register g.S.Service _ _ _ c.args.room _ _ _ _ _ _ c.no_op-answer.ensures c.min.ensures
    c.certificate_outcome.ensures refl refl refl
