-- The grounds that several calls share. Each is refused on its ground at the place 0 unless its test passes; then the result is a.
--   if_honest u i a         — there is a replica i, and it is honest
--   if_foreign u i a        — there is a replica i, and it is foreign
--   if_stamped x s a        — slot s is stamped
--   if_view v a             — v is a view: at most 63
--   if_line n w a           — n is the length of a line, at most 64, and w its word, with bits below n only
--   if_working r a          — the replica r is at work
--   if_leaving r a          — the replica r is leaving
--   if_leader u i v a       — replica i is the leader of view v
--   if_open r s a           — slot s is from r's base length through its length
--   if_none x r a           — the statement r, which would bar the call, was not said
--   if_said x r a           — the statement r was said
--   if_quorum u x r a       — a quorum said the statement r
--   if_dropped u x v s d a  — where the verdict d is no-op, a quorum said DROP for slot s in view v
-- Two tests that these make:
--   reached u x r           — whether a quorum said the statement r
--   dropped u x v s d       — whether the verdict d is an operation, or a quorum said DROP for slot s in view v
use Rattle.std.specs.Prelude.{ℕ, ◌^◌, Bool, true, not, ◌&&◌, ◌==◌, nat_le, nat_lt, Result}
use Rattle.refusal.specs.Grounds.{unless}
use Rattle.refusal.specs.declared.Ground.TheVariants.{ReplicaNumber, Honesty, ArgumentRange, NotLeader, SlotOrView, Barred, StatementsMissing}
use Rattle.refusal.specs.declared.Refusal.{Refusal}
use Rattle.record.specs.Statements.{drop_by}
use Rattle.record.specs.declared.Record.{Record}
use Rattle.quorum.specs.Quorums.{quorum}
use Rattle.replica.specs.Modes.{in_mode}
use Rattle.replica.specs.declared.Replica.{Replica}
use Rattle.replica.specs.declared.Activity.TheVariants.{Work, Start}
use Rattle.replica.specs.declared.Verdict.{Verdict}
use Rattle.replica.specs.declared.Verdict.TheVariants.{Operation, NoOp}
use Rattle.protocol.specs.Setup.{Setup, replicas, members, foreign, leader}
use Rattle.protocol.specs.Service.{is_stamped}
use Rattle.protocol.specs.State.{State}

abbrev pub if_honest : {A : Type 0} → Setup → ℕ → Result A Refusal → Result A Refusal
if_honest u i a = unless (nat_lt i (replicas u)) ReplicaNumber 0 (unless (not (foreign u i)) Honesty 0 a)

abbrev pub if_foreign : {A : Type 0} → Setup → ℕ → Result A Refusal → Result A Refusal
if_foreign u i a = unless (nat_lt i (replicas u)) ReplicaNumber 0 (unless (foreign u i) Honesty 0 a)

abbrev pub if_stamped : {A : Type 0} → State → ℕ → Result A Refusal → Result A Refusal
if_stamped x s a = unless (is_stamped x.stamped s) ArgumentRange 0 a

abbrev pub if_view : {A : Type 0} → ℕ → Result A Refusal → Result A Refusal
if_view v a = unless (nat_le v 63) ArgumentRange 0 a

abbrev pub if_line : {A : Type 0} → ℕ → ℕ → Result A Refusal → Result A Refusal
if_line n w a = unless (nat_le n 64 && nat_lt w (2 ^ n)) ArgumentRange 0 a

abbrev pub if_working : {A : Type 0} → Replica → Result A Refusal → Result A Refusal
if_working r a = in_mode r Work a

abbrev pub if_leaving : {A : Type 0} → Replica → Result A Refusal → Result A Refusal
if_leaving r a = in_mode r Start a

abbrev pub if_leader : {A : Type 0} → Setup → ℕ → ℕ → Result A Refusal → Result A Refusal
if_leader u i v a = unless (i == leader u v) NotLeader 0 a

abbrev pub if_open : {A : Type 0} → Replica → ℕ → Result A Refusal → Result A Refusal
if_open r s a = unless (nat_le r.base s && nat_le s r.length) SlotOrView 0 a

abbrev pub if_none : {A : Type 0} → State → Record → Result A Refusal → Result A Refusal
if_none x r a = unless (not (x.held r)) Barred 0 a

abbrev pub if_said : {A : Type 0} → State → Record → Result A Refusal → Result A Refusal
if_said x r a = unless (x.held r) StatementsMissing 0 a

abbrev pub reached : Setup → State → Record → Bool
reached u x r = quorum x.held (members u) r

abbrev pub if_quorum : {A : Type 0} → Setup → State → Record → Result A Refusal → Result A Refusal
if_quorum u x r a = unless (reached u x r) StatementsMissing 0 a

abbrev pub dropped : Setup → State → ℕ → ℕ → Verdict → Bool
dropped u x v s Operation = true
dropped u x v s NoOp = reached u x (drop_by 0 v s)

abbrev pub if_dropped : {A : Type 0} → Setup → State → ℕ → ℕ → Verdict → Result A Refusal → Result A Refusal
if_dropped u x v s d a = unless (dropped u x v s d) StatementsMissing 0 a
