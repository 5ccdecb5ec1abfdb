-- What C is told.
--   outcome_with k g w p  — an outcome of the kind k, with the ground's number g, the witnesses w and the place p
--   none                  — no witnesses
--   outcome_for_c o       — the outcome o of a call, if it was made, for C
--   replica_for_c r       — the replica r, for C
--   status_for_c z        — what a bench kept, z, for C
use Rattle.std.specs.Prelude.{ℕ, ◌-◌, cond, ◌++◌, List, length, map, replicate, Some, None, Option}
use Rattle.refusal.specs.Grounds.{ground_number}
use Rattle.replica.specs.declared.Replica as replica
use Rattle.bench.specs.declared.status.Status as bench
use Rattle.life.specs.declared.call.Outcome as life
use Rattle.life.specs.declared.call.Outcome.TheVariants.{Granted, Yes, No, Refused}
use Rattle.fotsgari_c.specs.declared.outcome.Outcome.{Outcome}
use Rattle.fotsgari_c.specs.declared.status.Replica.{Replica}
use Rattle.fotsgari_c.specs.declared.status.Status.{Status}

abbrev pub outcome_with : (kind : ℕ) (ground : ℕ) (witnesses : List ℕ) (place : ℕ) → Outcome
outcome_with k g w p = record { kind = k; ground = g; witnesses = w; place = p }

abbrev pub none : List ℕ
none = replicate 16 0

abbrev pub outcome_for_c : Option life.Outcome → Outcome
outcome_for_c None = outcome_with 0 0 none 0
outcome_for_c (Some Granted) = outcome_with 1 0 none 0
outcome_for_c (Some (Yes w)) = outcome_with 2 0 w 0
outcome_for_c (Some No) = outcome_with 3 0 none 0
outcome_for_c (Some (Refused e)) = outcome_with 4 (ground_number e.ground) none e.place

abbrev pub replica_for_c : replica.Replica → Replica
replica_for_c r =
    record {
      view = r.view;
      target = r.target;
      base = r.base;
      length = r.length;
      mark = cond r.mark 1 0;
      word = r.word;
      sealed = r.sealed;
    }

abbrev pub status_for_c : bench.Status → Status
status_for_c z =
    record {
      stamped = length z.operations.items;
      operations = z.operations.items ++ replicate (64 - length z.operations.items) 0;
      replicas = map replica_for_c z.replicas;
    }
