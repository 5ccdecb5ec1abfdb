-- The call leave: a replica leaves for a view above its target. It says VIEW-CHANGE with its view, its reach and its sealed word; its mark is cleared.
--   leave u x i t  — the call for replica i and the target t, on a bench u in the state x
use Rattle.std.specs.Prelude.{ℕ, Some, Ok, nat_lt}
use Rattle.refusal.specs.Grounds.{unless}
use Rattle.refusal.specs.declared.Ground.TheVariants.{SlotOrView}
use Rattle.record.specs.Statements.{view_change_by}
use Rattle.replica.specs.Replicas.{reach, left}
use Rattle.protocol.specs.Setup.{Setup}
use Rattle.protocol.specs.State.{State, replica_at, with_replica, Action, idle}
use Rattle.protocol.specs.Grounds.{if_honest, if_view}

abbrev pub leave : Setup → State → ℕ → ℕ → Action
leave u x i t =
    let r = replica_at x i in
    record (idle x) {
      grounds = if_honest u i (if_view t (unless (nat_lt r.target t) SlotOrView 0 (Ok tt)));
      says = Some (view_change_by i t r.view (reach r) r.sealed);
      replicas = with_replica x i (left r t);
    }
