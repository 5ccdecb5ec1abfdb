use Rattle.std.proofs.Common.{◌∙◌, arith, rules, tests}
use Rattle.std.proofs.lemmas.Iterator.{YieldsList-from_range}
use Rattle.std.proofs.lemmas.Iterator.Consumers.{YieldsList-from_filter, count_from_yields_List}
use Rattle.quorum.specs.Quorums.{said}
use Rattle.quorum.proofs.Counts.{length-passing}
use Rattle.quorum.proofs.count.Goals as goal

pub returns : goal.returns
returns g c =
    count_from_yields_List _ _ c.count.ensures.ran (YieldsList-from_filter _ (said (g.R.Register.held c.args.register.now) c.args.statement.now) (YieldsList-from_range 0 c.args.n c.args.n (search (rules, tests)) (omega arith)) c.filter.ensures.closure (λ x r q k. search (rules, tests)))
    ∙ length-passing _ c.args.n
