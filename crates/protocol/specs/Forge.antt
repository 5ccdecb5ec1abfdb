-- The call forge: a foreign replica says anything that keeps the layout.
--   forge u x r  — the call for the record r, on a bench u in the state x
use Rattle.std.specs.Prelude.{Some, Ok}
use Rattle.refusal.specs.Grounds.{unless}
use Rattle.refusal.specs.declared.Ground.TheVariants.{Layout}
use Rattle.record.specs.Layout.{keeps_layout}
use Rattle.record.specs.declared.Record.{Record}
use Rattle.protocol.specs.Setup.{Setup}
use Rattle.protocol.specs.State.{State, Action, idle}
use Rattle.protocol.specs.Grounds.{if_foreign}

abbrev pub forge : Setup → State → Record → Action
forge u x r =
    record (idle x) {
      grounds = unless (keeps_layout r) Layout 0 (if_foreign u r.signer (Ok tt));
      says = Some r;
    }
