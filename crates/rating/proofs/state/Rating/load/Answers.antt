use Rattle.std.proofs.Common.{rules, subst, append-nil}
use Rattle.rating.specs.Curves.{numbered}
use Rattle.rating.proofs.Loading.{loads}
use Rattle.rating.proofs.state.Rating.load.Goals as goal

pub push-requires : goal.push-requires
push-requires c =
    let now = loads _ _ _ _ _ c.requires c.args.self.now.apart c.as_mut_slice.ensures.value c.put_first.auto.curves c.put_first.ensures in
    let room = now.room _ c.in-Some.is in
    search rules

pub invariant_of-self : goal.invariant_of-self
invariant_of-self c =
    let now = loads _ _ _ _ _ c.requires c.args.self.now.apart c.as_mut_slice.ensures.value c.put_first.auto.curves c.put_first.ensures in
    rw c.push.ensures.items
    (record { apart = rw c.in-Some.is at now.numbers })

pub invariant_of-self-in_default : goal.invariant_of-self-in_default
invariant_of-self-in_default c =
    let now = loads _ _ _ _ _ c.requires c.args.self.now.apart c.as_mut_slice.ensures.value c.put_first.auto.curves c.put_first.ensures in
    let numbers = rw c.in_default.is at now.numbers in
    record { apart = subst (numbered 8) (append-nil _) numbers }
