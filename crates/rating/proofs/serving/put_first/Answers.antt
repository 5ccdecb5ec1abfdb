use Rattle.std.proofs.Common.{◌<◌, length}
use Rattle.rating.proofs.Moving.{moved_one}
use Rattle.rating.proofs.serving.put_first.Goals as goal

pub returns-then-moved-curve : goal.returns-then-moved-curve
returns-then-moved-curve c =
    let inside : c.loop-held.held-index < length c.loop-held.curves = rw c.loop-held.auto.curves c.loop-held-test.true in
    rw c.replace-moved.ensures.after
    (moved_one _ _ _ _ _ _ _ inside c.replace-moved.ensures.value c.if-moved-curve.true c.loop-held.invariant)
