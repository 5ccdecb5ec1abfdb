-- Every life keeps the law, where its models keep the invariant and one line agrees with all that is certified at its end.
use Rattle.std.proofs.Common.{◌≡◌, ℕ, ◌^◌, ◌<◌, ◌≤◌, Bool, true, false, cond, length, is_ok, Ok, Err, refl, arith, rules}
use Rattle.std.proofs.lemmas.Bool.{lt-ltb, le-leb, leb-true, cond-true}
use Rattle.std.proofs.lemmas.Option.{slice_get_within}
use Rattle.refusal.specs.Grounds.{Answer}
use Rattle.record.specs.Statements.{reply_by, commit_by}
use Rattle.record.specs.declared.Record.{Record}
use Rattle.quorum.specs.Quorums.{count, said, signed_by}
use Rattle.replica.specs.Words.{bit}
use Rattle.protocol.specs.Setup.{replicas, quorum_size}
use Rattle.protocol.specs.Service.{book, is_stamped, Known}
use Rattle.protocol.specs.State.{opened}
use Rattle.protocol.specs.Grounds.{reached}
use Rattle.protocol.specs.Answer.{answer_grounds}
use Rattle.protocol.specs.NoOp.{no_op_grounds}
use Rattle.protocol.specs.Call.{AskAnswer, AskNoOp, Yes, No, if_granted}
use Rattle.protocol.specs.Life.{Life, state_at}
use Rattle.protocol.specs.Law.{Signers, AnswerCertified, NoOpCertified, Agrees, OneLedger}
use Rattle.protocol.specs.Steps.{model}
use Rattle.protocol.proofs.Quorums.{QuorumSaid}
use Rattle.protocol.proofs.Books.{stamped_below}
use Rattle.protocol.proofs.Certificates.{Certificates}
use Rattle.protocol.proofs.Counting.{member, many_mono, Honest}
use Rattle.protocol.proofs.Entries.{held_on, stamped_on, quorum_of_signers, signers_of_quorum, outcome_at}
use Rattle.protocol.proofs.Invariant.{Inv, reply_of, commit_of}

-- a quorum stays one
quorum_on :
    (y : Life) (j k : ℕ) (r : Record) → j ≤ k → QuorumSaid y.bench (state_at y j).held r
    → QuorumSaid y.bench (state_at y k).held r
quorum_on y j k r le q = many_mono y.bench _ _ (λ i h. held_on y j k le (signed_by r i) h) q

signers_on : (y : Life) (j k : ℕ) (r : Record) → j ≤ k → Signers y j r → Signers y k r
signers_on y j k r le s = signers_of_quorum y k r (quorum_on y j k r le (quorum_of_signers y j r s))

-- what a certificate call for r answers, where its grounds are g
yes_of_signers :
    (y : Life) (k : ℕ) (r : Record) (g : Answer) → is_ok g ≡ true → Signers y k r
    → if_granted g (cond (reached y.bench (state_at y k) r) Yes No) ≡ Yes
yes_of_signers y k r (Ok t) e s =
    cond-true (reached y.bench (state_at y k) r) Yes No
    (le-leb (quorum_size y.bench) (count (replicas y.bench) (said (state_at y k).held r)) (quorum_of_signers y k r s))
yes_of_signers y k r (Err f) e s = cc

certified_if_yes : (b : Bool) → cond b Yes No ≡ Yes → b ≡ true
certified_if_yes true e = refl
certified_if_yes false e = cc

signers_of_yes :
    (y : Life) (k : ℕ) (r : Record) (g : Answer) → if_granted g (cond (reached y.bench (state_at y k) r) Yes No) ≡ Yes → Signers y k r
signers_of_yes y k r (Ok t) e =
    signers_of_quorum y k r
    (leb-true (quorum_size y.bench) (count (replicas y.bench) (said (state_at y k).held r))
    (certified_if_yes (reached y.bench (state_at y k) r) e))
signers_of_yes y k r (Err f) e = cc

-- a certificate call is granted where a quorum said what it asks for
module _ (y : Life) (k : ℕ) (I : Inv y.bench y.service (model (state_at y k))) where
  honest : (r : Record) → Signers y k r → Honest y.bench (said (state_at y k).held r)
  honest r s = member y.bench I.few (said (state_at y k).held r) (quorum_of_signers y k r s)

  stamped_if_known : (l : ℕ) → Known (book (state_at y k).stamped) l → is_stamped (state_at y k).stamped l ≡ true
  stamped_if_known l n = lt-ltb l (length (state_at y k).stamped) (stamped_below (state_at y k).stamped l n.0 n.1)

  answer_granted : (v s w a : ℕ) → AnswerCertified y k v s w a → is_ok (answer_grounds (state_at y k) 16 v s w) ≡ true
  answer_granted v s w a q =
      let h = honest (reply_by 0 v s w a) q in
      let l = I.layout (reply_by h.who v s w a) h.says in
      let f = reply_of y.bench y.service (model (state_at y k)) I h.who h.honest v s w a h.says in
      let view : v < 64 = l.view in
      let word : w < 2 ^ s = l.word in
      let stamped = stamped_if_known s (f.stamped s (omega arith)) in
      search rules

  no_op_granted : (v s : ℕ) → NoOpCertified y k v s → is_ok (no_op_grounds (state_at y k) 16 v s) ≡ true
  no_op_granted v s q =
      let h = honest (commit_by 0 v s 1) q in
      let l = I.layout (commit_by h.who v s 1) h.says in
      let f = commit_of y.bench y.service (model (state_at y k)) I h.who h.honest v s 1 h.says in
      let view : v < 64 = l.view in
      let stamped = stamped_if_known s f.known in
      search rules

module _
    (y : Life) (good : (k : ℕ) → Inv y.bench y.service (model (state_at y k)))
    (agreed :
    (line : ℕ) × (line < 2 ^ 64) × Certificates y.bench y.service (model (state_at y (length y.calls))) line)
  where
    at_end :
        (k : ℕ) (r : Record) → k ≤ length y.calls → Signers y k r
        → QuorumSaid y.bench (model (state_at y (length y.calls))).held r
    at_end k r le s = quorum_on y k (length y.calls) r le (quorum_of_signers y k r s)

    answer_agrees : (k v s w a : ℕ) → k ≤ length y.calls → AnswerCertified y k v s w a → Agrees y agreed.0 s w a
    answer_agrees k v s w a le q =
        let e = at_end k (reply_by 0 v s w a) le q in
        record {
          operation = agreed.2.operation v s w a e;
          word = agreed.2.word v s w a e;
          result = agreed.2.result v s w a e;
        }

    no_op_agrees : (k v s : ℕ) → k ≤ length y.calls → NoOpCertified y k v s → bit agreed.0 s ≡ true
    no_op_agrees k v s le q = agreed.2.no_op v s (at_end k (commit_by 0 v s 1) le q)

    pub ledger : OneLedger y
    ledger =
        record {
          line = agreed.0;
          short = agreed.1;
          answers = answer_agrees;
          no_ops = no_op_agrees;
          answers_last = λ j k v s w a le _ q. signers_on y j k (reply_by 0 v s w a) le q;
          no_ops_last = λ j k v s le _ q. signers_on y j k (commit_by 0 v s 1) le q;
          stamped_last = λ j k l o le _ e. stamped_on y j k le l o e;
          answer_yes = λ k v s w a _. (
            λ q. yes_of_signers y k (reply_by 0 v s w a) _ (answer_granted y k (good k) v s w a q) q,
            λ e. signers_of_yes y k (reply_by 0 v s w a) (answer_grounds (state_at y k) 16 v s w) e,
          );
          no_op_yes = λ k v s _. (
            λ q. yes_of_signers y k (commit_by 0 v s 1) _ (no_op_granted y k (good k) v s q) q,
            λ e. signers_of_yes y k (commit_by 0 v s 1) (no_op_grounds (state_at y k) 16 v s) e,
          );
          told_answer = λ k b v s w a e f.
              let yes = outcome_at y.bench y.service k y.calls (opened y.places) (AskAnswer b v s w a) Yes e f in
              let below = slice_get_within y.calls k (AskAnswer b v s w a) e in
              answer_agrees k v s w a (omega arith)
              (signers_of_yes y k (reply_by 0 v s w a) (answer_grounds (state_at y k) b v s w) yes);
          told_no_op = λ k b v s e f.
              let yes = outcome_at y.bench y.service k y.calls (opened y.places) (AskNoOp b v s) Yes e f in
              let below = slice_get_within y.calls k (AskNoOp b v s) e in
              no_op_agrees k v s (omega arith)
              (signers_of_yes y k (commit_by 0 v s 1) (no_op_grounds (state_at y k) b v s) yes);
        }
