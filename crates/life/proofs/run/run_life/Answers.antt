-- What is known of the bench at its end: the register and what is handed out are its own.
use Rattle.std.proofs.Common.{rules}
use Rattle.life.proofs.Lasting.{ran, stored}
use Rattle.life.proofs.run.run_life.Goals as goal

pub returns-in-Ok-clause-life : goal.returns-in-Ok-clause-life
returns-in-Ok-clause-life g c =
    let short = g.met.S.Service.answers_64_bits (g.S.Service.state c.args.service.now) in
    ran g.R.Register g.S.Service _ _ _ _ c.in-Ok.ensures.0 c.in-Ok.ensures.1 _ _ _ c.make_all.ensures short _ (search rules)

pub returns-in-Ok-clause-memory : goal.returns-in-Ok-clause-memory
returns-in-Ok-clause-memory g c =
    stored g.R.Register g.S.Service _ _ _ _ c.in-Ok.ensures.0 c.in-Ok.ensures.1 _ _ _ c.make_all.ensures _ (search rules)
