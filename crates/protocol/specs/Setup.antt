-- Who the replicas of a bench are.
--   Setup            — how many foreign replicas a bench bears, and the mask that names the foreign ones
--   replicas u       — n, the number of replicas, 3f + 1; they are numbered from 0
--   quorum_size u    — q, how many replicas are a quorum, 2f + 1
--   members u        — both numbers
--   foreign u i      — whether replica i is foreign: it may say anything. The others are honest: they keep the rules
--   leader u v       — the leader of view v
--   change_to u k v  — a change to view v, where k slots are stamped
use Rattle.std.specs.Prelude.{ℕ, ◌+◌, ◌*◌, ◌%◌, Bool}
use Rattle.quorum.specs.declared.Membership.{Membership}
use Rattle.replica.specs.Words.{bit}
use Rattle.merge.specs.declared.view_change.ViewChange.{ViewChange}

pub record Setup : Type 0 where
  pub f : ℕ
  pub mask : ℕ

abbrev pub replicas : Setup → ℕ
replicas u = 3 * u.f + 1

abbrev pub quorum_size : Setup → ℕ
quorum_size u = 2 * u.f + 1

abbrev pub members : Setup → Membership
members u = record { replicas = replicas u; quorum = quorum_size u }

abbrev pub foreign : Setup → ℕ → Bool
foreign u i = bit u.mask i

abbrev pub leader : Setup → ℕ → ℕ
leader u v = v % replicas u

abbrev pub change_to : Setup → ℕ → ℕ → ViewChange
change_to u k v = record { members = members u; stamped = k; target = v }
