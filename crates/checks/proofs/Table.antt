-- The table of worked checks, computed.
use Rattle.std.proofs.Common.{◌≡◌, ◌%◌, ◌∷◌, replicate, refl, arith}
use Rattle.record.specs.Bytes.{be}
use Rattle.record.specs.Layout.{keeps_layout}
use Rattle.record.specs.Packed.{packed, Packs}
use Rattle.record.specs.declared.Record.{Record}
use Rattle.record.proofs.Packs.{split_even}
use Rattle.checks.specs.Worked.{WorkedChecks}

-- the filling bits of the broken VIEW-CHANGE are not 0
broken : (r : Record) → Packs r (0x73 ∷ 0x04 ∷ 0x00 ∷ 0x41 ∷ (0x00 ∷ 0x00 ∷ 0x00 ∷ 0x00 ∷ 0x00 ∷ 0x00 ∷ 0x00 ∷ 0x01 ∷ replicate 8 0)) → ⊥
unfolding be
broken r p =
    let filling : 0x73040041 % 16 ≡ 0 =
    split_even _ 0x73040041 1 0 (record { head = refl; word = refl; result = refl; head_fits = omega arith; word_fits = omega arith; result_fits = omega arith }) r p in
    omega arith

pub worked : WorkedChecks
unfolding be keeps_layout packed
worked =
    record {
      reply_packs = refl;
      view_change_packs = refl;
      filling_bit_breaks = broken;
      low_then_high = refl;
      high_then_low = refl;
      beside = (refl, refl);
      above = (refl, refl);
      granted = refl;
      drawn = refl;
      overdrawn = refl;
      merged = refl;
      merged_no_op = refl;
    }
