use Rattle.std.proofs.Common.{rules, tests}
use Rattle.quorum.proofs.Finding.{finds_next}
use Rattle.quorum.proofs.next_sayer.Goals as goal

pub returns : goal.returns
returns g c = finds_next _ _ _ _ (λ x q k. search (rules, tests)) (λ x q k. search (rules, tests)) _ c.find.ensures.ran
