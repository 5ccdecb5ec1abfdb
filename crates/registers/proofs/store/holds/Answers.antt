use Rattle.std.proofs.Common.{rules}
use borrow.Author.Tests.{tests}
use Rattle.std.proofs.lemmas.Iterator.{YieldsList-from_slice}
use Rattle.std.proofs.lemmas.Iterator.Search.{any_from_yields_List}
use Rattle.record.specs.Same.{same}
use Rattle.registers.specs.Places.{is_there}
use Rattle.registers.proofs.store.holds.Goals as goal

pub returns-then-keeps_layout : goal.returns-then-keeps_layout
unfolding same
returns-then-keeps_layout c =
    let found = any_from_yields_List (is_there c.args.r.now) _ _ _ c.any.ensures.ran (YieldsList-from_slice c.args.records.now cc) (λ x b q k. search (rules, tests)) in
    search rules
