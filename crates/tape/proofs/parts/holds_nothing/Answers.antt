use Rattle.std.proofs.Common.{rules}
use borrow.Author.Tests.{tests}
use Rattle.std.proofs.lemmas.Iterator.{YieldsList-from_slice, cases_from_any}
use Rattle.register.proofs.Stored.{Holds, HoldsNone, stored_emptiness}
use Rattle.tape.specs.Tapes.{has_bytes}
use Rattle.tape.proofs.Places.{unpacked}
use Rattle.tape.proofs.parts.holds_nothing.Goals as goal

pub returns : goal.returns
returns c =
    stored_emptiness has_bytes _ _
    (cases_from_any _ _ _ (Holds has_bytes) (HoldsNone has_bytes) c.any.ensures.ran (YieldsList-from_slice c.args.parts.now cc) (λ x q k. search (rules, tests, unpacked)) (λ x q k. search (rules, tests, unpacked)))
