use Rattle.quorum.proofs.Finding.{found_none, found_room, found_next}
use Rattle.quorum.proofs.Membership.witnesses.Goals as goal

pub loop-place-init : goal.loop-place-init
loop-place-init g c = found_none _ _ _ c.numbers-replicas.ensures

pub bounds-found-place : goal.bounds-found-place
bounds-found-place g c = found_room _ _ _ _ _ _ c.loop-place.invariant _ c.in_ok-found.ensures

pub loop-place-preserved : goal.loop-place-preserved
loop-place-preserved g c = found_next _ _ _ _ _ _ c.loop-place.invariant _ c.in_ok-found.ensures
