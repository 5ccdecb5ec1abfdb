-- The one-ledger law: however the calls of a life are picked and ordered, all that is certified in it agrees with one line, as long as no more than f of its 3f + 1 replicas are foreign.
-- After k of the calls of a life y:
--   Entered y k r                — a granted call of the life y entered the statement r
--   Signers y k r                — q different replicas below n are signers under which r was entered (the signer that stands in r does not count)
--   AnswerCertified y k v s w a  — the answer a for slot s in view v, with the word w of the no-ops below the slot, is certified
--   NoOpCertified y k v s        — the no-op at slot s in view v is certified
--   SaysYes y k c                — the call c, put next, is answered yes
-- Of a line of 64 verdicts, as a number whose bit l is set where slot l is a no-op:
--   Agrees y line s w a          — the line has an operation at slot s and the no-ops w below it, and a is what the single service answers for the slot along the line
--   OneLedger y                  — the law for the life y
-- The single service is of the kind of the bench's service, and is cleared before slot 0. Along the line it is fed the operation of each slot that is stamped and that the line has as an operation, and answers for these slots alone. So the slot of a certified answer is one of them.
use Rattle.std.specs.Prelude.{◌≡◌, ℕ, ◌%◌, ◌^◌, ◌<◌, ◌≤◌, true, false, ◌≢◌, ◌↔◌, List, length, take, Some, AllPairs, slice_get}
use Rattle.std.specs.List.{AllByRecursion}
use Rattle.record.specs.Statements.{reply_by, commit_by}
use Rattle.record.specs.declared.Record.{Record}
use Rattle.quorum.specs.Quorums.{signed_by}
use Rattle.replica.specs.Words.{bit}
use Rattle.protocol.specs.Setup.{replicas, quorum_size}
use Rattle.protocol.specs.Service.{book, single}
use Rattle.protocol.specs.State.{opened}
use Rattle.protocol.specs.Call.{Call, AskAnswer, AskNoOp, Yes, meaning}
use Rattle.protocol.specs.Life.{Life, EnteredBy, state_at, outcomes_of}

abbrev pub Entered : Life → ℕ → Record → Type 0
Entered y k r = EnteredBy y.bench y.service (opened y.places) (take k y.calls) r

pub record Signers (y : Life) (k : ℕ) (r : Record) : Type 0 where
  pub who : List ℕ
  -- q numbers
  pub enough : length who ≡ quorum_size y.bench
  -- no two of them alike
  pub different : AllPairs (λ i j. i ≢ j) who
  -- each of a replica below n, under which a granted call entered r
  pub each : AllByRecursion (λ (i : ℕ). (i < replicas y.bench) × Entered y k (signed_by r i)) who

abbrev pub AnswerCertified : Life → (k v s w a : ℕ) → Type 0
AnswerCertified y k v s w a = Signers y k (reply_by 0 v s w a)

abbrev pub NoOpCertified : Life → (k v s : ℕ) → Type 0
NoOpCertified y k v s = Signers y k (commit_by 0 v s 1)

abbrev pub SaysYes : Life → ℕ → Call → Type 0
SaysYes y k c = (meaning y.bench y.service (state_at y k) c).outcome ≡ Yes

pub record Agrees (y : Life) (line s w a : ℕ) : Type 0 where
  -- the line has no no-op at the slot
  pub operation : bit line s ≡ false
  -- the word is the line's no-ops below the slot
  pub word : w ≡ line % 2 ^ s
  -- the result is what the single service answers for the slot, fed what the life stamped
  pub result : single y.service (book (state_at y (length y.calls)).stamped) line s ≡ Some a

pub record OneLedger (y : Life) : Type 0 where
  -- one line of 64 verdicts for the whole life
  pub line : ℕ
  -- it has 64 bits
  pub short : line < 2 ^ 64
  -- it agrees with every answer that is certified at any step
  pub answers : (k v s w a : ℕ) → k ≤ length y.calls → AnswerCertified y k v s w a → Agrees y line s w a
  -- and with every no-op that is certified at any step
  pub no_ops : (k v s : ℕ) → k ≤ length y.calls → NoOpCertified y k v s → bit line s ≡ true
  -- what is certified at a step is certified at every later one
  pub answers_last : (j k v s w a : ℕ) → j ≤ k → k ≤ length y.calls → AnswerCertified y j v s w a → AnswerCertified y k v s w a
  pub no_ops_last : (j k v s : ℕ) → j ≤ k → k ≤ length y.calls → NoOpCertified y j v s → NoOpCertified y k v s
  -- and an operation that is stamped at a step is stamped at its slot at every later one
  pub stamped_last :
      (j k l o : ℕ) → j ≤ k → k ≤ length y.calls → book (state_at y j).stamped l ≡ Some o
      → book (state_at y k).stamped l ≡ Some o
  -- exactly what is certified at a step is answered yes, put next with a buffer of 16 bytes
  pub answer_yes :
      (k v s w a : ℕ) → k ≤ length y.calls → AnswerCertified y k v s w a ↔ SaysYes y k (AskAnswer 16 v s w a)
  pub no_op_yes : (k v s : ℕ) → k ≤ length y.calls → NoOpCertified y k v s ↔ SaysYes y k (AskNoOp 16 v s)
  -- so a caller who is answered yes in the life itself, with a buffer of b bytes, has what agrees with the line
  pub told_answer :
      (k b v s w a : ℕ) → slice_get y.calls k ≡ Some (AskAnswer b v s w a) → slice_get (outcomes_of y) k ≡ Some Yes
      → Agrees y line s w a
  pub told_no_op :
      (k b v s : ℕ) → slice_get y.calls k ≡ Some (AskNoOp b v s) → slice_get (outcomes_of y) k ≡ Some Yes → bit line s ≡ true
