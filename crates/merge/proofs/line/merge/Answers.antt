use Rattle.std.proofs.Common.{◌∙◌}
use Rattle.merge.proofs.Joins.{line_more, line_past}
use Rattle.merge.proofs.Lines.{merges_alike}
use Rattle.merge.proofs.line.merge.Goals as goal
use Rattle.merge.proofs.line.merge.Goals.{then-pick-top, else-pick-top}

pub loop-pick-preserved : goal.loop-pick-preserved
loop-pick-preserved c =
    let at = c.loop-pick in
    elim c.if-pick-top.branch [
      | then-pick-top w ↦ line_more _ _ _ _ _ at.invariant _ _ c.loop-pick-test.true w.if-pick-top.true (w.line-is ∙ w.with_pick-line.ensures)
      | else-pick-top w ↦ line_past _ _ _ _ _ at.invariant _ _ c.loop-pick-test.true w.if-pick-top.false w.line-is
    ]

pub returns-clause-alike : goal.returns-clause-alike
returns-clause-alike c = merges_alike
