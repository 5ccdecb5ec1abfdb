use Rattle.std.proofs.lemmas.Bool.Decides.{Decides-at}
use Rattle.record.proofs.Layouts.{layout_decides}
use Rattle.record.proofs.Record.keeps_layout.Goals as goal

pub returns : goal.returns
returns c =
    let is = c.passes.ensures in
    record { value = is; meaning = Decides-at _ _ is (layout_decides c.args.self.now) }
