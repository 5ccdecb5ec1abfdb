use Rattle.std.proofs.Common.{rules, ◌≡◌, ◌%◌, ◌<◌, true, false, eqb, length}
use Rattle.bench.proofs.Feeding.{fed_no_op, fed_one}
use Rattle.bench.proofs.answer.answer_along.Goals as goal

pub loop-l-preserved-then-no_op : goal.loop-l-preserved-then-no_op
loop-l-preserved-then-no_op g c =
    let e : eqb (c.loop-l.later % 2) 1 ≡ true = search rules in
    fed_no_op g.S.Service _ _ _ _ _ _ e c.loop-l.invariant

pub loop-l-preserved : goal.loop-l-preserved
loop-l-preserved g c =
    let e : eqb (c.loop-l.later % 2) 1 ≡ false = search rules in
    let h : c.loop-l.l < length c.args.operations.now = search rules in
    fed_one g.S.Service _ _ _ _ _ _ _ e h c.loop-l.invariant (search rules) (search rules)
