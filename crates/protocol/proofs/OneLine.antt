-- The one line with which all that a model certifies agrees.
--   no_op_at u h v b l  — whether slot l is a no-op: below the length of the base b as b has it, from there on if a quorum committed it in view v
--   Latest u m k        — a view that started, not below the view of any honest replica below k
use Rattle.std.proofs.Common.{◌≡◌, ℕ, zero, suc, ◌%◌, ◌^◌, ◌<◌, ◌≤◌, Bool, true, false, cond, Some, option_map, sym, refl, ap, ◌∙◌, subst, inl, inr, arith, mod-lt, pow_pos, ltb}
use Rattle.std.proofs.lemmas.Bool.{both_ways, cases_lt, cases_Bool, cond-true, cond-false, lt-ltb, le-ltb, leb-true, le-leb}
use Rattle.record.specs.Statements.{reply_by, commit_by}
use Rattle.record.specs.declared.Record.{Record}
use Rattle.register.specs.Sets.{Set}
use Rattle.quorum.specs.Quorums.{said, signed_by, quorum}
use Rattle.replica.specs.Words.{bit}
use Rattle.replica.proofs.Words.{word_of, word_of_lt, bit_word_of, bit_mod, bit_ext, bit_above}
use Rattle.protocol.specs.Setup.{Setup, replicas, foreign, members}
use Rattle.protocol.specs.Service.{Service, answer_at, single}
use Rattle.protocol.specs.Model.{Model, stamps}
use Rattle.protocol.proofs.Quorums.{QuorumSaid}
use Rattle.protocol.proofs.Starting.{Started}
use Rattle.protocol.proofs.Books.{answer_alike}
use Rattle.protocol.proofs.Counting.{member}
use Rattle.protocol.proofs.Invariant.{Inv, reply_of}
use Rattle.protocol.proofs.Certificates.{Certificates}
use Rattle.protocol.proofs.Agreement.{KeepsView, InBase, quorum_layout, commit_prepare, prepare_from, answer_kept, answer_in_base, no_op_in_base}

no_op_at : Setup → Set → ℕ → ℕ × ℕ → ℕ → Bool
no_op_at u h v b l = cond (ltb l b.0) (bit b.1 l) (quorum h (members u) (commit_by 0 v l 1))

record Latest (u : Setup) (m : Model) (k : ℕ) : Type 0 where
  view : ℕ
  base : ℕ × ℕ
  started : Started u m.held view base
  most : (i : ℕ) → i < k → foreign u i ≡ false → (m.replica i).view ≤ view

module _ (u : Setup) (V : Service) (m : Model) (I : Inv u V m) where
  no_op_above :
      (v : ℕ) (b : ℕ × ℕ) (l : ℕ) → b.0 ≤ l → no_op_at u m.held v b l ≡ quorum m.held (members u) (commit_by 0 v l 1)
  unfolding no_op_at
  no_op_above v b l h = cond-false (ltb l b.0) _ _ (le-ltb l b.0 h)

  keeps_view : (v : ℕ) (b : ℕ × ℕ) → Started u m.held v b → KeepsView u m.held v (no_op_at u m.held v b)
  unfolding no_op_at
  keeps_view v b e =
      record {
        base = b;
        started = e;
        below = λ l h. cond-true (ltb l b.0) _ _ (lt-ltb l b.0 h);
        above = λ l h t. commit_prepare u V m I v l 1 (leb-true _ _ (sym (no_op_above v b l h) ∙ t));
        no_ops = λ l q. no_op_above v b l (prepare_from u V m I v l 1 b (commit_prepare u V m I v l 1 q) e) ∙ le-leb _ _ q;
      }

  -- k replicas and one more
  next :
      (k t : ℕ) (b : ℕ × ℕ) → Started u m.held t b → ((i : ℕ) → i < k → foreign u i ≡ false → (m.replica i).view ≤ t)
      → (foreign u k ≡ false → (m.replica k).view ≤ t) → Latest u m (suc k)
  next k t b e f g =
      record {
        view = t;
        base = b;
        started = e;
        most = λ i h honest. elim (cases_lt i k) [
          | inl j ↦ f i j honest
          | inr j ↦
              let same : k ≡ i = omega arith in
              subst (λ (x : ℕ). foreign u x ≡ false → (m.replica x).view ≤ t) same g honest
        ];
      }

  latest : (k : ℕ) → Latest u m k
  latest zero = record { view = 0; base = (0, 0); started = inl (refl, refl, refl); most = λ i h. absurd (omega arith) }
  latest (suc k) =
      let L = latest k in
      elim (cases_Bool (foreign u k)) [
        | inl f ↦ next k L.view L.base L.started L.most (λ e. absurd (both_ways (foreign u k) e f))
        | inr f ↦ elim (cases_lt L.view (m.replica k).view) [
          | inl h ↦
              let b = (I.good k f).line.based in
              next k (m.replica k).view ((m.replica k).base, b.base_word) b.started (λ i j e. omega (arith, L.most i j e)) (λ _. omega arith)
          | inr h ↦ next k L.view L.base L.started L.most (λ _. h)
        ]
      ]

  last : Latest u m (replicas u)
  last = latest (replicas u)

  -- what a quorum said of a slot is of that view or an earlier one
  before_last : (x : Record) → x.kind ≤ 6 → QuorumSaid u m.held x → x.view ≤ last.view
  before_last x k q =
      let r = member u I.few (said m.held x) q in
      let past = ((I.good r.who r.honest).facts (signed_by x r.who) refl r.says).past k in
      omega (arith, past.old, last.most r.who r.below r.honest)

  is_no_op : ℕ → Bool
  is_no_op = no_op_at u m.held last.view last.base

  kept : KeepsView u m.held last.view is_no_op
  unfolding is_no_op
  kept = keeps_view last.view last.base last.started

  line : ℕ
  line = word_of 64 is_no_op

  -- what was certified before the last view is in its base
  line_bit :
      (x : Record) → x.kind ≤ 6 → QuorumSaid u m.held x → (a : ℕ) (f : ℕ → Bool)
      → (x.view < last.view → InBase a x.slot f kept.base)
      → (l : ℕ) → a ≤ l → l ≤ x.slot → (x.view ≡ last.view → is_no_op l ≡ f l) → bit line l ≡ f l
  unfolding line
  line_bit x k q a f past l from to now =
      let short = (quorum_layout u V m I x q).1.slot k in
      bit_word_of 64 l is_no_op (omega (arith, short))
      ∙ elim (cases_lt x.view last.view) [
        | inl h ↦ let c = past h in kept.below l (omega (arith, c.within)) ∙ c.bits l from to
        | inr h ↦ now (omega (arith, before_last x k q))
      ]

  no_op_bit : (v s : ℕ) → QuorumSaid u m.held (commit_by 0 v s 1) → bit line s ≡ true
  no_op_bit v s q =
      line_bit (commit_by 0 v s 1) (omega arith) q s (λ _. true)
      (λ h. no_op_in_base u V m I v s last.view kept.base q h kept.started) s (omega arith) (omega arith)
      (λ e. kept.no_ops s (subst (λ (x : ℕ). QuorumSaid u m.held (commit_by 0 x s 1)) e q))

  module _ (v s w a : ℕ) (q : QuorumSaid u m.held (reply_by 0 v s w a)) where
    answer_bits : (l : ℕ) → l ≤ s → bit line l ≡ bit w l
    answer_bits l k =
        line_bit (reply_by 0 v s w a) (omega arith) q 0 (bit w)
        (λ h. answer_in_base u V m I v s w a last.view kept.base q h kept.started) l (omega arith) k
        (λ e.
        answer_kept u V m I last.view s w a is_no_op (subst (λ (x : ℕ). QuorumSaid u m.held (reply_by 0 x s w a)) e q) kept l k)

    small : w < 2 ^ s
    small = (quorum_layout u V m I (reply_by 0 v s w a) q).1.word

    answer_slot : bit line s ≡ false
    answer_slot = answer_bits s (omega arith) ∙ bit_above s s w small (omega arith)

    answer_word : w ≡ line % 2 ^ s
    answer_word =
        bit_ext s w (line % 2 ^ s) small (mod-lt line (pow_pos s)) (λ l h. sym (bit_mod s l line h ∙ answer_bits l (omega arith)))

    answer_result : single V (stamps m) line s ≡ Some a
    unfolding single
    answer_result =
        let B = stamps m in
        let r = member u I.few (said m.held (reply_by 0 v s w a)) q in
        let g = reply_of u V m I r.who r.honest v s w a r.says in
        let alike = answer_alike V B B w line s (λ _ _. refl) (λ l h. sym (answer_bits l (omega arith))) in
        cond-false (bit line s) _ _ answer_slot
        ∙ ap (λ o. option_map (λ _. answer_at V B line s) o) (g.stamped s (omega arith)).1
        ∙ ap Some (sym (g.right ∙ alike))

  pub one_line : (line : ℕ) × (line < 2 ^ 64) × Certificates u V m line
  unfolding line
  one_line = (line, word_of_lt 64 is_no_op, record { operation = answer_slot; word = answer_word; result = answer_result; no_op = no_op_bit })
