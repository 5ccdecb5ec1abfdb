-- The call start: a leaving replica with a clear mark says ENTRY for its target with the merge of the picks, for which the target's leader said VIEW-START. Its mark is set.
--   start u x i ps n w  — the call for replica i, the picks ps and the base of length n and word w, on a bench u in the state x
use Rattle.std.specs.Prelude.{ℕ, not, List, length, Some, Ok}
use Rattle.refusal.specs.Grounds.{unless, and_then}
use Rattle.refusal.specs.declared.Ground.TheVariants.{Barred, ViewStartMissing}
use Rattle.record.specs.Statements.{view_start_by, entry_by}
use Rattle.record.specs.declared.Record.{Record}
use Rattle.replica.specs.Replicas.{started}
use Rattle.merge.specs.Merges.{merge}
use Rattle.merge.specs.Checks.{layout_grounds, merge_grounds}
use Rattle.protocol.specs.Setup.{Setup, leader, change_to}
use Rattle.protocol.specs.State.{State, replica_at, with_replica, Action, idle}
use Rattle.protocol.specs.Grounds.{if_honest, if_line, if_leaving}

abbrev pub start : Setup → State → ℕ → List Record → ℕ → ℕ → Action
start u x i ps n w =
    let r = replica_at x i in
    let line = merge (n, w) ps in
    record (idle x) {
      grounds =
          and_then (layout_grounds ps)
          (if_honest u i
          (if_line n w
          (if_leaving r
          (unless (not r.mark) Barred 0
          (and_then
          (merge_grounds x.held (change_to u (length x.stamped) r.target) ps (n, w))
          (unless (x.held (view_start_by (leader u r.target) r.target line.0 line.1)) ViewStartMissing 0
          (Ok tt)))))));
      says = Some (entry_by i r.target line.0 line.1);
      replicas = with_replica x i (started r);
    }
