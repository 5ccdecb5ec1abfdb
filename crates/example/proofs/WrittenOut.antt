-- The example's calls come to its outcomes, and what is said to be certified at its end is: all computed from the definitions.
use Rattle.std.proofs.Common.{◌≡◌, refl, arith}
use Rattle.std.specs.Int.Count.{count_leading_zeros}
use Rattle.record.specs.Layout.{keeps_layout}
use Rattle.record.specs.Same.{same}
use Rattle.record.specs.Statements.{reply_by, commit_by}
use Rattle.record.specs.declared.Record.{Record}
use Rattle.quorum.specs.Quorums.{count, said}
use Rattle.replica.specs.Words.{bit, with_bit, one_past}
use Rattle.merge.specs.Checks.{prepared_below}
use Rattle.protocol.specs.Service.{book, fed, answer_at}
use Rattle.protocol.specs.Life.{state_at}
use Rattle.protocol.specs.Law.{Signers}
use Rattle.protocol.proofs.Entries.{signers_of_quorum}
use Rattle.example.specs.WrittenOut.{example, OutcomesHold, LinesHold, CertifiedAtEnd}

pub outcomes_hold : OutcomesHold
unfolding count_leading_zeros keeps_layout same count bit with_bit one_past prepared_below book fed answer_at
outcomes_hold = refl

pub lines_hold : LinesHold
unfolding count_leading_zeros keeps_layout same count bit with_bit one_past prepared_below book fed answer_at
lines_hold = (refl, refl, refl)

-- three replicas are a quorum
three :
    (r : Record) → count 4 (said (state_at example 68).held r) ≡ 3 → Signers example 68 r
three r e = signers_of_quorum example 68 r (omega (arith, e))

pub certified_at_end : CertifiedAtEnd 5 12
unfolding count_leading_zeros keeps_layout same count bit with_bit one_past prepared_below book fed answer_at
certified_at_end =
    record {
      answered = three (reply_by 0 0 0 0 5) refl;
      skipped = three (commit_by 0 0 1 1) refl;
      answered_past = three (reply_by 0 1 2 2 12) refl;
    }
