use Rattle.std.proofs.Common.{arith, sym, ap, ◌∙◌}
use Rattle.std.proofs.lemmas.Bool.{both_ways, eqb-true, eqb-false}
use Rattle.record.specs.Layout.{keeps_layout}
use Rattle.record.specs.Packed.{packed}
use Rattle.record.proofs.Bytes.{be_read, four_bytes, eight_bytes}
use Rattle.record.proofs.Packs.{Splits, split_record, split_packed, split_even}
use Rattle.record.proofs.pack.unpack_at.Goals as goal
use Rattle.record.proofs.pack.unpack_at.Goals.{else-zero_filled-via-then-zero_filled+else-keeps_layout, else-zero_filled-via-else-zero_filled, After-with_head-record}

-- the bytes as they were read
read : (c : After-with_head-record) → Splits c.args.bytes.now c.from_be_bytes-head.result c.from_be_bytes-word.result c.from_be_bytes-res.result
read c =
    let within = c.told-bytes in
    record {
      head = be_read four_bytes _ _ 0 _ c.fits-bytes (omega arith) c.part.ensures c.from_be_bytes-head.ensures;
      word = be_read eight_bytes _ _ 4 _ c.fits-bytes (omega arith) c.part-2.ensures c.from_be_bytes-word.ensures;
      result = be_read eight_bytes _ _ 12 _ c.fits-bytes (omega arith) c.part-3.ensures c.from_be_bytes-res.ensures;
      head_fits = c.from_be_bytes-head.type_inv;
      word_fits = c.from_be_bytes-word.type_inv;
      result_fits = c.from_be_bytes-res.type_inv;
    }

pub returns-then-keeps_layout : goal.returns-then-keeps_layout
returns-then-keeps_layout c =
    let s = read (goal.at.returns-then-keeps_layout c).After-with_head-record in
    record {
      layout = sym c.if-keeps_layout.ensures.value;
      bytes = ap packed c.with_head-record.ensures ∙ split_packed _ _ _ _ s c.told-bytes (eqb-true _ _ (sym c.if-zero_filled.ensures));
    }

pub returns-else-zero_filled : goal.returns-else-zero_filled
returns-else-zero_filled c =
    let s = read (goal.at.returns-else-zero_filled c).After-with_head-record in (
      c.at.ensures,
      λ r p. elim c.else-zero_filled.branch [
        | else-zero_filled-via-then-zero_filled+else-keeps_layout w ↦
            let same = c.with_head-record.ensures ∙ split_record _ _ _ _ s r p in
            both_ways _ (sym w.if-keeps_layout.ensures.value) (ap keeps_layout same ∙ p.layout)
        | else-zero_filled-via-else-zero_filled w ↦ eqb-false _ _ (sym w.if-zero_filled.ensures) (split_even _ _ _ _ s r p)
      ],
    )
