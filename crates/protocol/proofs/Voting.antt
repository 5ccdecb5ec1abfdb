-- Prepares, commits and settlements keep what holds of the replica that makes them.
--   Reaches s n n'  — a line of length n, in which slot s is settled, has the length n'
use Rattle.std.proofs.Common.{◌≡◌, ℕ, ◌+◌, ◌<◌, ◌≤◌, true, false, cond, ◌⊎◌, eqb, sym, refl, ap, ◌∙◌, subst, inl, inr, arith, lt_of_lt_of_le, pow_mono}
use Rattle.std.proofs.lemmas.Bool.{both_ways, cases_eq, cond_both, eqb-true, eqb-false}
use Rattle.record.specs.Layout.{Layout}
use Rattle.record.specs.Statements.{reply_by, drop_by, prepare_by, commit_by}
use Rattle.record.specs.declared.Record.{Record}
use Rattle.register.specs.Sets.{Set, added}
use Rattle.replica.specs.Words.{bit}
use Rattle.replica.specs.Verdicts.{verdict_number, other_verdict, with_verdict, sealed_with}
use Rattle.replica.specs.Replicas.{longer, committed, settled}
use Rattle.replica.specs.declared.Replica.{Replica}
use Rattle.replica.specs.declared.Verdict.{Verdict}
use Rattle.replica.specs.declared.Verdict.TheVariants.{Operation, NoOp}
use Rattle.replica.proofs.Words.{is_no_op, verdict_same, verdict_other, verdict_lt, sealed_keeps, sealed_sets, sealed_lt}
use Rattle.replica.proofs.Lines.{longer_is}
use Rattle.protocol.specs.Setup.{Setup}
use Rattle.protocol.specs.Service.{Service, Book, Known}
use Rattle.protocol.specs.Rules.{Said, Works, Open}
use Rattle.protocol.proofs.Quorums.{QuorumSaid}
use Rattle.protocol.proofs.Books.{grown_refl}
use Rattle.protocol.proofs.Saying.{view_of, added_cases, added_other, Grows, added_grows, quorum_grows, started_grows, as_prepare}
use Rattle.protocol.proofs.Invariant.{Competing, Good}
use Rattle.protocol.proofs.Later.{Turn, by_other_kind, line_kept, speak_good, turn_good}

number_no_op : (d : Verdict) → verdict_number d ≡ 1 → d ≡ NoOp
number_no_op NoOp e = refl
number_no_op Operation e = absurd (omega (arith, e))

number_of_set : (d : Verdict) → is_no_op d ≡ true → verdict_number d ≡ 1
number_of_set NoOp e = refl
number_of_set Operation e = absurd (both_ways false refl e)

number_of_clear : (d : Verdict) → is_no_op d ≡ false → verdict_number d ≡ 0
number_of_clear Operation e = refl
number_of_clear NoOp e = absurd (both_ways true e refl)

-- of two verdicts one is d and the other the other
number_other : (d : Verdict) (n : ℕ) → n ≤ 1 → (n ≡ verdict_number d → ⊥) → n ≡ verdict_number (other_verdict d)
number_other Operation n h k = omega arith
number_other NoOp n h k = omega arith

sets_seal : (w s : ℕ) (d : Verdict) → s < 64 → verdict_number d ≡ 1 → bit (sealed_with w s d) s ≡ true
sets_seal w s NoOp h e = sealed_sets w s h
sets_seal w s Operation h e = absurd (omega (arith, e))

record Reaches (s n n' : ℕ) : Type 0 where
  over : n ≤ n'
  past : s < n'
  grown : (l : ℕ) → l < n' → (l < n) ⊎ (l ≡ s)

reaches : (s n : ℕ) → s ≤ n → s < 64 → Reaches s n (cond (eqb s n) (longer n) n)
reaches s n h k =
    cond_both (eqb s n) (longer n) n (λ m. Reaches s n m)
    (λ e.
    let t = eqb-true s n e in
    let more : longer n ≡ n + 1 = longer_is n (omega arith) in
    record {
      over = omega arith;
      past = omega arith;
      grown = λ l p. elim (cases_eq l s) [ inl y ↦ inr y | inr y ↦ inl (omega arith) ];
    })
    (λ e.
    let t = eqb-false s n e in
    record { over = omega arith; past = omega (arith, t); grown = λ l p. inl p })

module _ (u : Setup) (V : Service) (h : Set) (B : Book) (i : ℕ) (r : Replica) (G : Good u V h B i r) (W : Works r) where
  pub prepare_good :
      (s : ℕ) (d : Verdict) → ((x : Record) → Said h x → Layout x) → Open B r s
      → (d ≡ NoOp → QuorumSaid u h (drop_by 0 r.view s))
      → h (prepare_by i r.view s (verdict_number (other_verdict d))) ≡ false
      → Good u V (added h (prepare_by i r.view s (verdict_number d))) B i r
  prepare_good s d layout O D unsaid =
      let n = verdict_number d in
      let x = prepare_by i r.view s n in
      let g : Grows h (added h x) = added_grows h x in
      let new : (y : Record) → Said h y → Competing x y → x ≡ y =
      λ y e k.
      let v = layout y e in
      let q : y ≡ prepare_by i r.view s y.verdict =
      as_prepare y v (sym k.kinds)
      ∙ (λ j. prepare_by (sym k.signers j) (sym k.views j) (sym (k.slots refl) j) y.verdict) in
      elim (cases_eq y.verdict n) [
        | inl t ↦ sym (q ∙ (λ j. prepare_by i r.view s (t j)))
        | inr t ↦
            let o = number_other d y.verdict v.verdict t in
            absurd (both_ways (h y) (ap h (q ∙ (λ j. prepare_by i r.view s (o j))) ∙ unsaid) e)
      ] in
      let T = by_other_kind h i r r x (omega arith) (refl, omega arith, λ l e. e) (omega arith) (λ t k f. f) in
      speak_good u V h B i r r G x T G.bounds (line_kept u V h (added h x) B B (grown_refl B) i r r T refl refl refl refl G.line)
      (record {
        past = λ k. omega arith;
        reply = λ k. absurd (omega arith);
        prepare = λ k.
            record {
              dropped = λ t. quorum_grows u h (added h x) g (drop_by 0 r.view s) (D (number_no_op d t));
              base = r.base;
              base_word = G.line.based.base_word;
              started = started_grows u h (added h x) g r.view (r.base, G.line.based.base_word) G.line.based.started;
              from = O.from;
            };
        commit = λ k. absurd (omega arith);
        change = λ k. absurd (omega arith);
        entry = λ k. absurd (omega arith);
      })
      new

  pub commit_good :
      (s : ℕ) (d : Verdict) → s < 64 → Open B r s → QuorumSaid u h (prepare_by 0 r.view s (verdict_number d))
      → Good u V (added h (commit_by i r.view s (verdict_number d))) B i (committed r s d)
  commit_good s d short O Q =
      let x = commit_by i r.view s (verdict_number d) in
      let g : Grows h (added h x) = added_grows h x in
      let T : Turn h (added h x) i r (committed r s d) =
      record {
        grows = g;
        view = inr (refl, omega arith, λ l e. sealed_keeps r.sealed s l d e);
        target = omega arith;
        mark = λ t p f. f;
        drops = λ v s' l n p. added_other h x (drop_by i v l) (λ k. omega arith);
        replies = λ v s' w a p. added_other h x (reply_by i v s' w a) (λ k. omega arith);
        commits = λ v l p e. elim (added_cases h x (commit_by i v l 1) e) [ inl y ↦ absurd (omega (arith, view_of y, W)) | inr y ↦ y ];
      } in
      speak_good u V h B i r (committed r s d) G x T
      (record { ahead = G.bounds.ahead; most = G.bounds.most; small = sealed_lt r.sealed s d G.bounds.small })
      (line_kept u V h (added h x) B B (grown_refl B) i r (committed r s d) T refl refl refl refl G.line)
      (record {
        past = λ k. omega arith;
        reply = λ k. absurd (omega arith);
        prepare = λ k. absurd (omega arith);
        commit = λ k.
            record {
              prepared = quorum_grows u h (added h x) g (prepare_by 0 r.view s (verdict_number d)) Q;
              known = O.known;
              sealed = λ t k. sets_seal r.sealed s d short k;
            };
        change = λ k. absurd (omega arith);
        entry = λ k. absurd (omega arith);
      })
      (λ y e k. absurd (omega (arith, k.unique)))

  -- a commit of the verdict d on slot s is one of the number n on the slot l
  settles : (s l n : ℕ) (d : Verdict) → l ≡ s → verdict_number d ≡ n → QuorumSaid u h (commit_by 0 r.view s (verdict_number d)) → QuorumSaid u h (commit_by 0 r.view l n)
  settles s l n d t k Q = subst (λ (x : Record). QuorumSaid u h x) (λ j. commit_by 0 r.view (sym t j) (k j)) Q

  pub settle_good :
      (s : ℕ) (d : Verdict) → s < 64 → Open B r s → QuorumSaid u h (commit_by 0 r.view s (verdict_number d))
      → Good u V h B i (settled r s d)
  settle_good s d short O Q =
      let L = G.line in
      let n = cond (eqb s r.length) (longer r.length) r.length in
      let w = with_verdict r.word s d in
      let D = reaches s r.length O.to short in
      let here : (l : ℕ) → l ≡ s → bit w l ≡ is_no_op d = λ l t. ap (λ (k : ℕ). bit w k) t ∙ verdict_same r.word s d short in
      let other : (l : ℕ) → (l ≡ s → ⊥) → bit w l ≡ bit r.word l = λ l t. verdict_other r.word s l d t in
      turn_good u V h B i r (settled r s d) G
      (record {
        grows = λ y e. e;
        view = inr (refl, D.over, λ l e. sealed_keeps r.sealed s l d e);
        target = omega arith;
        mark = λ t p f. f;
        drops = λ v s' l k p e. e;
        replies = λ v s' x a p e. e;
        commits = λ v l p e. e;
      })
      (record { ahead = G.bounds.ahead; most = G.bounds.most; small = sealed_lt r.sealed s d G.bounds.small })
      (record {
        known = λ l p. elim (D.grown l p) [
          | inl x ↦ L.known l x
          | inr x ↦ subst (Known B) (sym x) O.known
        ];
        small = verdict_lt r.word s n d D.past (lt_of_lt_of_le L.small (pow_mono D.over));
        based =
            record {
              base_word = L.based.base_word;
              started = L.based.started;
              below = λ l p. other l (λ e. omega (arith, O.from)) ∙ L.based.below l p;
            };
        skipped = λ l p e. elim (cases_eq l s) [
          | inl t ↦ settles s l 1 d t (number_of_set d (sym (here l t) ∙ e)) Q
          | inr t ↦ L.skipped l p (sym (other l t) ∙ e)
        ];
        kept = λ l k p e. elim (cases_eq l s) [
          | inl t ↦ settles s l 0 d t (number_of_clear d (sym (here l t) ∙ e)) Q
          | inr t ↦
              let q : l < r.length = elim (D.grown l p) [ inl y ↦ y | inr y ↦ absurd (t y) ] in
              L.kept l k q (sym (other l t) ∙ e)
        ];
      })
