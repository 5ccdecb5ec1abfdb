use Rattle.std.proofs.Common.{sym, ap, ◌∙◌}
use Rattle.record.specs.Bytes.{be}
use Rattle.record.proofs.Bytes.{be_writes, four_bytes, eight_bytes}
use Rattle.record.proofs.Packs.{packed_copied}
use Rattle.record.proofs.pack.bytes_of.Goals as goal

pub returns : goal.returns
returns c =
    packed_copied c.args.r.now c.requires _ _ _
    (c.copy_from_slice.ensures.after ∙ c.to_be_bytes.ensures ∙ sym (be_writes four_bytes _) ∙ ap (be 4) c.head.ensures)
    (c.copy_from_slice-2.ensures.after ∙ c.to_be_bytes-2.ensures ∙ sym (be_writes eight_bytes _))
    (c.copy_from_slice-3.ensures.after ∙ c.to_be_bytes-3.ensures ∙ sym (be_writes eight_bytes _))
