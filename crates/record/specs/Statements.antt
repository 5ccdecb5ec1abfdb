-- The nine statements, each as the record that its signer i says.
--   statement k i v s            — of the kind k, in view v, with s for its slot; the fields that a statement does not use are 0
--   reply_by i v s w a           — REPLY: in view v, the answer for slot s is a, where w has the no-ops below s
--   find_by i v s                — FIND: in view v, the leader looks for the operation of slot s
--   drop_by i v s                — DROP: in view v, i has not got the operation of slot s
--   decision_by i v s d          — DECISION: in view v, the leader's verdict on slot s is d
--   prepare_by i v s d           — PREPARE: in view v, i takes up the verdict d on slot s
--   commit_by i v s d            — COMMIT: in view v, i has seen a quorum take up the verdict d on slot s
--   view_change_by i t last n w  — VIEW-CHANGE: i leaves view last for view t, with the reach n and the sealed word w
--   view_start_by i t n w        — VIEW-START: the leader starts view t with the line of length n and word w
--   entry_by i t n w             — ENTRY: i is ready to enter view t with the line of length n and word w
-- A verdict is 0 for operation and 1 for no-op.
use Rattle.std.specs.Prelude.{ℕ}
use Rattle.record.specs.declared.Record.{Record}

abbrev pub statement : (k i v s : ℕ) → Record
statement k i v s = record { kind = k; signer = i; view = v; last = 0; slot = s; verdict = 0; word = 0; result = 0 }

abbrev pub reply_by : (i v s w a : ℕ) → Record
reply_by i v s w a = record (statement 1 i v s) { word = w; result = a }

abbrev pub find_by : (i v s : ℕ) → Record
find_by i v s = statement 2 i v s

abbrev pub drop_by : (i v s : ℕ) → Record
drop_by i v s = statement 3 i v s

abbrev pub decision_by : (i v s d : ℕ) → Record
decision_by i v s d = record (statement 4 i v s) { verdict = d }

abbrev pub prepare_by : (i v s d : ℕ) → Record
prepare_by i v s d = record (statement 5 i v s) { verdict = d }

abbrev pub commit_by : (i v s d : ℕ) → Record
commit_by i v s d = record (statement 6 i v s) { verdict = d }

abbrev pub view_change_by : (i t last n w : ℕ) → Record
view_change_by i t l n w = record (statement 7 i t n) { last = l; word = w }

abbrev pub view_start_by : (i t n w : ℕ) → Record
view_start_by i t n w = record (statement 8 i t n) { word = w }

abbrev pub entry_by : (i t n w : ℕ) → Record
entry_by i t n w = record (statement 9 i t n) { word = w }
