use Rattle.std.proofs.Common.{rules, ◌<◌, length, None}
use Rattle.life.specs.declared.call.Call.TheVariants.{Stamp}
use Rattle.life.specs.declared.call.Turn.{Turn}
use Rattle.life.proofs.Running.{underway_further}
use Rattle.life.proofs.run.make_all.Goals as goal

pub loop-turn-preserved : goal.loop-turn-preserved
loop-turn-preserved g c =
    let d : Turn = record { call = Stamp 0; outcome = None } in
    let below : c.loop-turn.turn-index < length c.loop-turn.turns = search rules in
    underway_further g.R.Register g.S.Service _ _ c.loop-turn.turn-index c.loop-turn.turns d _ _ _ c.loop-turn.invariant below c.make.ensures
