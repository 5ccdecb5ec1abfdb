use Rattle.std.proofs.Common.{not, ◌||◌, ◌∙◌, refl, rules, tests}
use Rattle.std.proofs.lemmas.Iterator.{YieldsList-from_range}
use Rattle.std.proofs.lemmas.Iterator.Search.{all_from_yields_List}
use Rattle.record.specs.Statements.{prepare_by}
use Rattle.quorum.specs.Quorums.{quorum}
use Rattle.replica.specs.Words.{bit}
use Rattle.merge.proofs.Prepares.{prepared_all}
use Rattle.merge.proofs.backing.prepared.Goals as goal

pub returns : goal.returns
returns g c =
    let a = c.args in
    let s = g.R.Register.held a.register.now in
    all_from_yields_List (λ l. not (bit a.word l) || quorum s a.members (prepare_by 0 a.view l 1)) _ _ _ c.all.ensures.ran (YieldsList-from_range 0 64 64 refl refl) (λ x r q k. search (rules, tests))
    ∙ prepared_all s a.members a.view a.word 64
