-- The calls of a bench after its open, and what each comes to.
--   Call             — a call with its arguments, in the order of docs/PROTOCOL.md; a certificate call names the bytes of the witness buffer it offers
--   asks_for c       — the statement that the call c asks for, each signer's number standing for the one in it, if c is a certificate call
--   Outcome          — what came of a call: granted, yes, no, or refused
--   if_granted a o   — the outcome o where a is a grant, else a's refusal
--   Meaning          — what a call comes to: its outcome, what its own grounds answer, before the register is asked, the state after it, and the statement that it enters, if any
--   acting x a       — the meaning of a call that does what a says
--   asking x a b     — the meaning of a certificate call with the grounds a, where b tells whether it is certified; it changes nothing
--   meaning u V x c  — the meaning of the call c, on a bench u with the service V in the state x
use Rattle.std.specs.Prelude.{ℕ, Bool, cond, List, Some, None, Ok, Err, Option}
use Rattle.refusal.specs.Grounds.{Answer}
use Rattle.refusal.specs.declared.Refusal.{Refusal}
use Rattle.record.specs.Statements.{reply_by, commit_by}
use Rattle.record.specs.declared.Record.{Record}
use Rattle.replica.specs.declared.Verdict.{Verdict}
use Rattle.protocol.specs.Setup.{Setup}
use Rattle.protocol.specs.Service.{Service}
use Rattle.protocol.specs.State.{State, Action, answer_to, state_after, statement_of}
use Rattle.protocol.specs.Stamp.{stamp}
use Rattle.protocol.specs.Deliver.{deliver}
use Rattle.protocol.specs.Find.{find}
use Rattle.protocol.specs.Drop.{drop}
use Rattle.protocol.specs.Decide.{decide}
use Rattle.protocol.specs.Prepare.{prepare}
use Rattle.protocol.specs.Commit.{commit}
use Rattle.protocol.specs.Settle.{settle}
use Rattle.protocol.specs.Reply.{reply}
use Rattle.protocol.specs.Leave.{leave}
use Rattle.protocol.specs.Forge.{forge}
use Rattle.protocol.specs.Lead.{lead}
use Rattle.protocol.specs.Start.{start}
use Rattle.protocol.specs.Enter.{enter}
use Rattle.protocol.specs.Grounds.{reached}
use Rattle.protocol.specs.Answer.{answer_grounds}
use Rattle.protocol.specs.NoOp.{no_op_grounds}

pub data Call : Type 0 where
  Stamp : (operation : ℕ) → Call
  Deliver : (replica slot : ℕ) → Call
  Find : (replica : ℕ) → Call
  Drop : (replica : ℕ) → Call
  Decide : (replica slot : ℕ) (verdict : Verdict) → Call
  Prepare : (replica slot : ℕ) (verdict : Verdict) → Call
  Commit : (replica slot : ℕ) (verdict : Verdict) → Call
  Settle : (replica slot : ℕ) (verdict : Verdict) → Call
  Reply : (replica slot : ℕ) → Call
  Leave : (replica target : ℕ) → Call
  Forge : (x : Record) → Call
  Lead : (replica : ℕ) (picks : List Record) (base_length base_word : ℕ) → Call
  Start : (replica : ℕ) (picks : List Record) (base_length base_word : ℕ) → Call
  Enter : (replica length word view : ℕ) → Call
  AskAnswer : (room view slot word result : ℕ) → Call
  AskNoOp : (room view slot : ℕ) → Call

abbrev pub asks_for : Call → Option Record
asks_for (AskAnswer b v s w a) = Some (reply_by 0 v s w a)
asks_for (AskNoOp b v s) = Some (commit_by 0 v s 1)
asks_for c = None

pub data Outcome : Type 0 where
  Granted : Outcome
  Yes : Outcome
  No : Outcome
  Refused : Refusal → Outcome

abbrev pub if_granted : Answer → Outcome → Outcome
if_granted (Ok _) o = o
if_granted (Err e) o = Refused e

pub record Meaning : Type 0 where
  pub outcome : Outcome
  pub own : Answer
  pub after : State
  pub enters : Option Record

abbrev pub acting : State → Action → Meaning
acting x a =
    record { outcome = if_granted (answer_to x a) Granted; own = a.grounds; after = state_after x a; enters = statement_of x a }

abbrev pub asking : State → Answer → Bool → Meaning
asking x a b = record { outcome = if_granted a (cond b Yes No); own = a; after = x; enters = None }

abbrev pub meaning : Setup → Service → State → Call → Meaning
meaning u V x (Stamp op) = acting x (stamp x op)
meaning u V x (Deliver i s) = acting x (deliver u V x i s)
meaning u V x (Find i) = acting x (find u x i)
meaning u V x (Drop i) = acting x (drop u x i)
meaning u V x (Decide i s d) = acting x (decide u x i s d)
meaning u V x (Prepare i s d) = acting x (prepare u x i s d)
meaning u V x (Commit i s d) = acting x (commit u x i s d)
meaning u V x (Settle i s d) = acting x (settle u x i s d)
meaning u V x (Reply i s) = acting x (reply u V x i s)
meaning u V x (Leave i t) = acting x (leave u x i t)
meaning u V x (Forge r) = acting x (forge u x r)
meaning u V x (Lead i ps n w) = acting x (lead u x i ps n w)
meaning u V x (Start i ps n w) = acting x (start u x i ps n w)
meaning u V x (Enter i n w v) = acting x (enter u x i n w v)
meaning u V x (AskAnswer b v s w a) = asking x (answer_grounds x b v s w) (reached u x (reply_by 0 v s w a))
meaning u V x (AskNoOp b v s) = asking x (no_op_grounds x b v s) (reached u x (commit_by 0 v s 1))
