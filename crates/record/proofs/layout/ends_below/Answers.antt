use Rattle.std.proofs.Common.{sym, ◌∙◌, arith, pow_mono}
use Rattle.std.proofs.lemmas.Bool.{lt-ltb, le-leb}
use Rattle.record.proofs.layout.ends_below.Goals as goal

-- a word has 64 bits, so it has none at or above 64
pub returns-then-slot-ge64 : goal.returns-then-slot-ge64
returns-then-slot-ge64 c =
    let h = c.if-slot-ge64.true in
    let big = pow_mono h in
    le-leb 64 _ h ∙ sym (lt-ltb _ _ (omega (arith, big)))
