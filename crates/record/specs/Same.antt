-- When two records are the same.
--   same r x  — r and x are one record, as a test; shut, as crates above use the laws in proofs/Same.antt
use Rattle.std.specs.Prelude.{Bool, ◌&&◌, ◌==◌}
use Rattle.record.specs.declared.Record.{Record}

unfoldable pub same : Record → Record → Bool
same r x =
    (r.kind == x.kind)
    && r.signer == x.signer
    && r.view == x.view
    && r.last == x.last
    && r.slot == x.slot
    && r.verdict == x.verdict
    && r.word == x.word
    && r.result == x.result
