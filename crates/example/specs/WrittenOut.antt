-- A life written out, in which answers and a no-op are certified, and stay certified over a change of view.
--   totals              — a service: it answers the sum of what it was fed and the operation
--   four                — a bench of four replicas, of which the last is foreign
--   four_opens          — its open is granted over an empty register
--   change i            — the VIEW-CHANGE that replica i says in the example
--   example_picks       — those of replicas 0, 1 and 2
--   table               — the calls, each with what comes of it
--   example             — the life of these calls
--   example_outcomes    — what comes of each of its calls
--   OutcomesHold        — these are its outcomes
--   LinesHold           — after 59 calls, right after they entered view 1, replicas 0, 1 and 2 have the line of length 2 with a no-op at slot 1
--   CertifiedAtEnd a b  — at the end the answer a for slot 0, the no-op at slot 1 and the answer b for slot 2 are certified, as the law says it
-- In view 0 slot 0 is answered and slot 1 skipped; in view 1 slot 2 is answered, past the no-op.
-- The register has as many places as different statements are said, so at the end it is full.
-- Every ground is met but the three of the open, which is granted, and that of the 64 slots.
use Rattle.std.specs.Prelude.{◌≡◌, ℕ, ◌+◌, true, List, [], ◌∷◌, map, Ok, sum}
use Rattle.std.specs.Int.Count.{ones}
use mathlib.Core.Path.{refl}
use Rattle.refusal.specs.Grounds.{refused}
use Rattle.refusal.specs.declared.Ground.TheVariants.{BufferLength, Layout, ReplicaNumber, Honesty, ArgumentRange, Mode, NotLeader, SlotOrView, Barred, Picks, BaseNotCertified, StatementsMissing, ViewStartMissing, RegisterFull}
use Rattle.record.specs.Statements.{reply_by, view_change_by}
use Rattle.record.specs.declared.Record.{Record}
use Rattle.replica.specs.Replicas.{entered}
use Rattle.replica.specs.declared.Verdict.TheVariants.{Operation, NoOp}
use Rattle.protocol.specs.Setup.{Setup}
use Rattle.protocol.specs.Service.{Service}
use Rattle.protocol.specs.State.{replica_at}
use Rattle.protocol.specs.Open.{open_grounds}
use Rattle.protocol.specs.Call.{Call, Stamp, Deliver, Find, Drop, Decide, Prepare, Commit, Settle, Reply, Leave, Forge, Lead, Start, Enter, AskAnswer, AskNoOp, Outcome, Granted, Yes, No, Refused}
use Rattle.protocol.specs.Life.{Life, state_at, outcomes_of}
use Rattle.protocol.specs.Law.{AnswerCertified, NoOpCertified}

abbrev pub totals : Service
totals xs op = sum xs + op

abbrev pub four : Setup
four = record { f = 1; mask = 8 }

pub four_opens : open_grounds four true ≡ Ok tt
unfolding ones
four_opens = refl

abbrev pub change : ℕ → Record
change i = view_change_by i 1 0 2 2

abbrev pub example_picks : List Record
example_picks = change 0 ∷ change 1 ∷ change 2 ∷ []

abbrev pub table : List (Call × Outcome)
table =
    -- three operations are stamped
    (Stamp 5, Granted)
    ∷ (Stamp 6, Granted)
    ∷ (Stamp 7, Granted)
    -- slot 0 is answered; a foreign replica's other answer is not certified
    ∷ (Deliver 0 1, Refused (refused SlotOrView 0))
    ∷ (Deliver 3 0, Refused (refused Honesty 0))
    ∷ (Deliver 4 0, Refused (refused ReplicaNumber 0))
    ∷ (Deliver 0 0, Granted)
    ∷ (Deliver 1 0, Granted)
    ∷ (Forge (reply_by 0 0 0 0 99), Refused (refused Honesty 0))
    ∷ (Forge (reply_by 3 0 0 1 99), Refused (refused Layout 0))
    ∷ (Forge (reply_by 3 0 0 0 99), Granted)
    ∷ (AskAnswer 16 0 0 0 5, No)
    ∷ (Deliver 2 0, Granted)
    ∷ (AskAnswer 15 0 0 0 5, Refused (refused BufferLength 0))
    ∷ (AskAnswer 16 0 0 0 5, Yes)
    ∷ (AskAnswer 16 0 0 0 99, No)
    -- slot 1 is skipped; a second DROP is granted at no cost
    ∷ (Find 1, Refused (refused NotLeader 0))
    ∷ (Drop 0, Refused (refused StatementsMissing 0))
    ∷ (Find 0, Granted)
    ∷ (Drop 0, Granted)
    ∷ (Drop 1, Granted)
    ∷ (Decide 0 1 NoOp, Refused (refused StatementsMissing 0))
    ∷ (Drop 2, Granted)
    ∷ (Drop 2, Granted)
    ∷ (Deliver 2 1, Refused (refused Barred 0))
    ∷ (Decide 0 1 NoOp, Granted)
    ∷ (Decide 0 1 Operation, Refused (refused Barred 0))
    ∷ (Prepare 0 1 NoOp, Granted)
    ∷ (Prepare 1 1 NoOp, Granted)
    ∷ (Prepare 2 1 NoOp, Granted)
    ∷ (Commit 0 1 NoOp, Granted)
    ∷ (Commit 1 1 NoOp, Granted)
    ∷ (AskNoOp 16 0 1, No)
    ∷ (Commit 2 1 NoOp, Granted)
    ∷ (AskNoOp 16 0 1, Yes)
    ∷ (AskNoOp 16 0 3, Refused (refused ArgumentRange 0))
    ∷ (Settle 0 1 NoOp, Granted)
    ∷ (Reply 0 1, Refused (refused SlotOrView 0))
    ∷ (Reply 0 0, Granted)
    -- replicas 0, 1 and 2 enter view 1, and what was certified still is; a VIEW-CHANGE that lies about slot 0 does not count
    ∷ (Leave 0 1, Granted)
    ∷ (Leave 1 1, Granted)
    ∷ (Forge (view_change_by 3 1 0 1 1), Granted)
    ∷ (Lead 1 (change 0 ∷ change 1 ∷ view_change_by 3 1 0 1 1 ∷ []) 0 0, Refused (refused StatementsMissing 2))
    ∷ (Lead 1 (change 0 ∷ change 1 ∷ change 0 ∷ []) 0 0, Refused (refused Picks 2))
    ∷ (Leave 2 1, Granted)
    ∷ (Deliver 2 1, Refused (refused Mode 0))
    ∷ (Lead 0 example_picks 0 0, Refused (refused NotLeader 0))
    ∷ (Lead 1 example_picks 1 0, Refused (refused BaseNotCertified 0))
    ∷ (Start 0 example_picks 0 0, Refused (refused ViewStartMissing 0))
    ∷ (Lead 1 example_picks 0 0, Granted)
    ∷ (Start 0 example_picks 0 0, Granted)
    ∷ (Start 1 example_picks 0 0, Granted)
    ∷ (Enter 0 2 2 1, Refused (refused StatementsMissing 0))
    ∷ (Start 2 example_picks 0 0, Granted)
    ∷ (Start 2 example_picks 0 0, Refused (refused Barred 0))
    ∷ (Enter 0 2 0 1, Refused (refused StatementsMissing 0))
    ∷ (Enter 0 2 2 1, Granted)
    ∷ (Enter 1 2 2 1, Granted)
    ∷ (Enter 2 2 2 1, Granted)
    ∷ (AskAnswer 16 0 0 0 5, Yes)
    ∷ (AskNoOp 16 0 1, Yes)
    -- slot 2 is answered along the line with the no-op, and not along the line without it
    ∷ (Deliver 0 2, Granted)
    ∷ (Deliver 1 2, Granted)
    ∷ (AskAnswer 16 1 2 2 12, No)
    ∷ (Deliver 2 2, Granted)
    ∷ (AskAnswer 16 1 2 2 12, Yes)
    ∷ (AskAnswer 16 1 2 0 18, No)
    ∷ (Forge (reply_by 3 1 2 2 12), Refused (refused RegisterFull 0))
    ∷ []

abbrev pub example : Life
example =
    record { bench = four; service = totals; places = 26; calls = map (λ p. p.0) table; opens = four_opens }

abbrev pub example_outcomes : List Outcome
example_outcomes = map (λ p. p.1) table

abbrev pub OutcomesHold : Type 0
OutcomesHold = outcomes_of example ≡ example_outcomes

abbrev pub LinesHold : Type 0
LinesHold =
    (replica_at (state_at example 59) 0 ≡ entered 1 2 2)
    × (replica_at (state_at example 59) 1 ≡ entered 1 2 2)
    × (replica_at (state_at example 59) 2 ≡ entered 1 2 2)

pub record CertifiedAtEnd (a b : ℕ) : Type 0 where
  pub answered : AnswerCertified example 68 0 0 0 a
  pub skipped : NoOpCertified example 68 0 1
  pub answered_past : AnswerCertified example 68 1 2 2 b
