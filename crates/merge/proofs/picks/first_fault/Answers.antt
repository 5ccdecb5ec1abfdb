use Rattle.std.proofs.Common.{Err, take, sym, ap, ◌∙◌, arith, rules}
use Rattle.merge.proofs.Faults.{fault_more, fault_here, fault_none}
use Rattle.merge.proofs.picks.first_fault.Goals as goal

pub returns-then-not-passes : goal.returns-then-not-passes
returns-then-not-passes g c = λ t says.
    let e = says _ _ _ c.passes.ensures in
    ap Err c.at.ensures ∙ fault_here _ _ _ _ _ (omega arith) (sym e ∙ search rules) (c.loop-place.invariant t says)

pub loop-place-preserved : goal.loop-place-preserved
loop-place-preserved g c = λ t says.
    let ps = c.args.picks.now in
    let e = says _ _ _ c.passes.ensures in
    fault_more c.args.why (λ k p. t (take k ps) p) ps c.loop-place.place _ (omega arith) (sym e ∙ search rules) (c.loop-place.invariant t says)

pub returns : goal.returns
returns g c = λ t says.
    let ps = c.args.picks.now in
    fault_none c.args.why (λ k p. t (take k ps) p) ps c.loop-place.place (omega arith) (c.loop-place.invariant t says)
