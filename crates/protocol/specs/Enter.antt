-- The call enter: a replica enters a view above its own and not below its target, with a line for which a quorum said ENTRY. It says nothing.
--   enter u x i n w v  — the call for replica i, the line of length n and word w, and the view v, on a bench u in the state x
use Rattle.std.specs.Prelude.{ℕ, ◌&&◌, Ok, nat_le, nat_lt}
use Rattle.refusal.specs.Grounds.{unless}
use Rattle.refusal.specs.declared.Ground.TheVariants.{SlotOrView}
use Rattle.record.specs.Statements.{entry_by}
use Rattle.replica.specs.Replicas.{entered}
use Rattle.protocol.specs.Setup.{Setup}
use Rattle.protocol.specs.State.{State, replica_at, with_replica, Action, idle}
use Rattle.protocol.specs.Grounds.{if_honest, if_view, if_line, if_quorum}

abbrev pub enter : Setup → State → ℕ → ℕ → ℕ → ℕ → Action
enter u x i n w v =
    let r = replica_at x i in
    record (idle x) {
      grounds =
          if_honest u i
          (if_view v
          (if_line n w
          (unless (nat_lt r.view v && nat_le r.target v) SlotOrView 0
          (if_quorum u x (entry_by 0 v n w) (Ok tt)))));
      replicas = with_replica x i (entered v n w);
    }
