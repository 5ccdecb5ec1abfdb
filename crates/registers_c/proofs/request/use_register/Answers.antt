use Rattle.std.proofs.Common.{rules, ◌<◌, length, refl}
use Rattle.registers_c.proofs.Making.{further}
use Rattle.registers_c.proofs.request.use_register.Goals as goal

pub loop-request-preserved : goal.loop-request-preserved
loop-request-preserved g c =
    let below : c.loop-request.request-index < length c.loop-request.requests = search rules in
    let M = c.make-outcome.ensures in
    further g.R.Register _ _ _ c.loop-request.requests _ _ _ _ _ c.loop-request.invariant below c.loop-request-test.true
    (record { is = refl; came = M.came }) M
