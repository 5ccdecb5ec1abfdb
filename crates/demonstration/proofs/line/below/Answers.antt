use Rattle.std.proofs.Common.{◌≤◌, arith, sym, lt_of_lt_of_le, pow_mono}
use Rattle.std.proofs.Math.Nat.{mod-eq_of_lt}
use Rattle.demonstration.proofs.line.below.Goals as goal

-- a word is below 2 ^ 64
pub returns-in-None : goal.returns-in-None
returns-in-None c =
    let no_bit : 64 ≤ c.args.slot = grind (arith, c.in-None.ensures, c.into.ensures) in
    sym (mod-eq_of_lt (lt_of_lt_of_le c.ranges.word.fits (pow_mono no_bit)))
