use Rattle.std.proofs.Common.{◌≡◌, take, rules, tests}
use Rattle.refusal.specs.declared.Ground.TheVariants.{Picks}
use Rattle.merge.specs.Merges.{top}
use Rattle.merge.specs.Checks.{fits, first_fault}
use Rattle.merge.proofs.view_change.ViewChange.check_picks.Goals as goal

pub returns : goal.returns
returns c =
    let v = c.args.self in
    let ps = c.args.picks.now in
    let fit = fits v (top ps) in
    let found : c.first_fault.result ≡ first_fault Picks (λ k p. fit (take k ps) p) 0 ps =
    c.first_fault.ensures (λ b p. fit b p) (λ b p r e. search (rules, tests)) in
    search rules
