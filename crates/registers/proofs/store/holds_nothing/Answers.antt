use Rattle.std.proofs.Common.{rules}
use borrow.Author.Tests.{tests}
use Rattle.std.proofs.lemmas.Iterator.{YieldsList-from_slice, cases_from_any}
use Rattle.register.proofs.Stored.{Holds, HoldsNone, stored_emptiness}
use Rattle.registers.specs.Places.{is_there}
use Rattle.registers.proofs.Stores.{holds_itself, holds_none}
use Rattle.registers.proofs.store.holds_nothing.Goals as goal

pub returns : goal.returns
returns c =
    let found = cases_from_any _ _ _ (Holds is_there) (HoldsNone is_there) c.any.ensures.ran (YieldsList-from_slice c.args.records.now cc) (λ x q k. holds_itself _ (search (rules, tests))) (λ x q k. search (rules, tests, holds_none)) in
    stored_emptiness is_there _ _ found
