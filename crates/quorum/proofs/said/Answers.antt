use Rattle.std.proofs.Common.{◌<◌, subst}
use Rattle.record.specs.declared.Record.{Record}
use Rattle.record.proofs.Layouts.{layout_from}
use Rattle.quorum.proofs.said.Goals as goal

pub returns-clause-below : goal.returns-clause-below
returns-clause-below g c = λ h.
    subst (λ (r : Record). r.signer < 16) c.signed_by.ensures (layout_from _ (c.ask.ensures.statement h)).signer
