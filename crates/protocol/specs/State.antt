-- The state of a bench as its rules see it, and what a call makes of it.
--   State                — the operations stamped, that of slot 0 first; the statements held and the free places of the register; the replicas by number
--   replica_at x i       — replica i
--   with_replica x i r   — the replicas, with r for replica i
--   opened_over s n      — a state in which nothing is stamped, the set s is held, n places are free and every replica is as at opening
--   opened n             — the state after a granted open, where the register has n free places: that one, with nothing held
--   Action               — what a call that changes a bench comes to: its grounds in order but for the register's own, the statement that it says, and what a grant leaves of operations and replicas
--   idle x               — the action that is granted, says nothing and changes nothing
--   register_answer x o  — what the register answers where the statement o, if any, is entered
--   answer_to x a        — what the call a answers: the first of its grounds, then the register's
--   held_with x o        — the set of the register after the statement o, if any, is entered
--   free_with x o        — the number of its free places then
--   addition_to x o      — the statement o as a list, if there is one and the register adds it, else the empty list
--   granted x a          — the state after the call a, where it is granted
--   state_after x a      — the state after the call a: changed where it is granted, else as it was
--   statement_of x a     — the statement that the call a enters, if it is granted and says one
-- There is room for 16 replicas, as many as a bench can have.
use Rattle.std.specs.Prelude.{ℕ, cond, List, [], replicate, is_ok, None, Ok, Option, option_map, unwrap_or, slice_index_or, slice_set}
use Rattle.refusal.specs.Grounds.{Answer, and_then}
use Rattle.record.specs.declared.Record.{Record}
use Rattle.register.specs.Sets.{Set, nothing, addition, entering, held_after, free_after}
use Rattle.replica.specs.Replicas.{initial}
use Rattle.replica.specs.declared.Replica.{Replica}

pub record State : Type 0 where
  pub stamped : List ℕ
  pub held : Set
  pub free : ℕ
  pub replicas : List Replica

abbrev pub replica_at : State → ℕ → Replica
replica_at x i = slice_index_or x.replicas i initial

abbrev pub with_replica : State → ℕ → Replica → List Replica
with_replica x i r = slice_set x.replicas i r

abbrev pub opened_over : Set → ℕ → State
opened_over s n = record { stamped = []; held = s; free = n; replicas = replicate 16 initial }

abbrev pub opened : ℕ → State
opened n = opened_over nothing n

pub record Action : Type 0 where
  pub grounds : Answer
  pub says : Option Record
  pub stamped : List ℕ
  pub replicas : List Replica

abbrev pub idle : State → Action
idle x = record { grounds = Ok tt; says = None; stamped = x.stamped; replicas = x.replicas }

abbrev pub register_answer : State → Option Record → Answer
register_answer x o = unwrap_or (option_map (entering x.held x.free) o) (Ok tt)

abbrev pub answer_to : State → Action → Answer
answer_to x a = and_then a.grounds (register_answer x a.says)

abbrev pub held_with : State → Option Record → Set
held_with x o = unwrap_or (option_map (held_after x.held x.free) o) x.held

abbrev pub free_with : State → Option Record → ℕ
free_with x o = unwrap_or (option_map (free_after x.held x.free) o) x.free

abbrev pub addition_to : State → Option Record → List Record
addition_to x o = unwrap_or (option_map (addition x.held x.free) o) []

abbrev pub granted : State → Action → State
granted x a =
    record { stamped = a.stamped; held = held_with x a.says; free = free_with x a.says; replicas = a.replicas }

abbrev pub state_after : State → Action → State
state_after x a = cond (is_ok (answer_to x a)) (granted x a) x

abbrev pub statement_of : State → Action → Option Record
statement_of x a = cond (is_ok (answer_to x a)) a.says None
