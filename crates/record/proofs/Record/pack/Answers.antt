use Rattle.std.proofs.Common.{Ok, sym, ap, ◌∙◌}
use Rattle.std.proofs.lemmas.Bool.{cond-true}
use Rattle.record.specs.Layout.{keeps_layout}
use Rattle.record.proofs.Packs.{packs_alone}
use Rattle.record.proofs.Record.pack.Goals as goal

pub returns : goal.returns
returns c =
    let r = c.args.self.now in
    let kept = sym c.if-not-keeps_layout.ensures.value in
    let bytes = c.bytes_of.ensures in
    record {
      value = ap Ok bytes ∙ sym (cond-true (keeps_layout r) _ _ kept);
      alone = λ x p. packs_alone r x _ (record { layout = kept; bytes = sym bytes }) p;
    }
