-- The call lead: the leader of its target, leaving, says VIEW-START for it with the merge of the picks.
--   lead u x i ps n w  — the call for replica i, the picks ps and the base of length n and word w, on a bench u in the state x
use Rattle.std.specs.Prelude.{ℕ, List, length, Some}
use Rattle.refusal.specs.Grounds.{and_then}
use Rattle.record.specs.Statements.{view_start_by}
use Rattle.record.specs.declared.Record.{Record}
use Rattle.merge.specs.Merges.{merge}
use Rattle.merge.specs.Checks.{layout_grounds, merge_grounds}
use Rattle.protocol.specs.Setup.{Setup, change_to}
use Rattle.protocol.specs.State.{State, replica_at, Action, idle}
use Rattle.protocol.specs.Grounds.{if_honest, if_line, if_leaving, if_leader}

abbrev pub lead : Setup → State → ℕ → List Record → ℕ → ℕ → Action
lead u x i ps n w =
    let r = replica_at x i in
    record (idle x) {
      grounds =
          and_then (layout_grounds ps)
          (if_honest u i
          (if_line n w
          (if_leaving r
          (if_leader u i r.target
          (merge_grounds x.held (change_to u (length x.stamped) r.target) ps (n, w))))));
      says = Some (view_start_by i r.target (merge (n, w) ps).0 (merge (n, w) ps).1);
    }
