-- The views agree: what a quorum certified in one view, every later view starts from.
--   Seen u h v s w b      — what an answer certified in view v, for slot s along the word w, says of the base b of its view
--   KeepsView u h v p     — the test p keeps view v: it has the bits of the view's base, it is true at each no-op that was certified in v, and above the base at none but those that were prepared
--   InBase a s f b        — the base b goes past slot s, and its bits from a through s are those of f
--   Shared u m x v t n w  — an honest replica said x, and a VIEW-CHANGE for view v that the line n, w of the merge from view t covers
use Rattle.std.proofs.Common.{◌≡◌, ℕ, zero, suc, ◌<◌, ◌≤◌, Bool, true, sym, refl, ap, ◌∙◌, subst, ap₂, inl, inr, arith}
use Rattle.std.proofs.lemmas.Bool.{both_ways, cases_lt, cases_Bool, true_from_ne_false, false_from_ne_true}
use Rattle.record.specs.Layout.{Layout}
use Rattle.record.specs.Statements.{reply_by, drop_by, prepare_by, commit_by, entry_by}
use Rattle.record.specs.declared.Record.{Record}
use Rattle.register.specs.Sets.{Set}
use Rattle.quorum.specs.Quorums.{said, signed_by}
use Rattle.replica.specs.Words.{bit}
use Rattle.protocol.specs.Setup.{Setup}
use Rattle.protocol.specs.Service.{Service}
use Rattle.protocol.specs.Model.{Model, stamps}
use Rattle.protocol.specs.Rules.{Said}
use Rattle.protocol.proofs.Quorums.{QuorumSaid}
use Rattle.protocol.proofs.Starting.{Started}
use Rattle.protocol.proofs.Counting.{intersect, member}
use Rattle.protocol.proofs.Invariant.{Inv, Merged, Competing, Covers, Change, reply_of, prepare_of, commit_of, change_of, merged_of}

pub record Seen (u : Setup) (h : Set) (v s w : ℕ) (b : ℕ × ℕ) : Type 0 where
  pub below : (l : ℕ) → l ≤ s → l < b.0 → bit w l ≡ bit b.1 l
  pub above : (l : ℕ) → l ≤ s → b.0 ≤ l → bit w l ≡ true → QuorumSaid u h (commit_by 0 v l 1)

pub record KeepsView (u : Setup) (h : Set) (v : ℕ) (p : ℕ → Bool) : Type 0 where
  pub base : ℕ × ℕ
  pub started : Started u h v base
  pub below : (l : ℕ) → l < base.0 → p l ≡ bit base.1 l
  pub above : (l : ℕ) → base.0 ≤ l → p l ≡ true → QuorumSaid u h (prepare_by 0 v l 1)
  pub no_ops : (l : ℕ) → QuorumSaid u h (commit_by 0 v l 1) → p l ≡ true

pub record InBase (a s : ℕ) (f : ℕ → Bool) (b : ℕ × ℕ) : Type 0 where
  pub within : s < b.0
  pub bits : (l : ℕ) → a ≤ l → l ≤ s → bit b.1 l ≡ f l

record Shared (u : Setup) (m : Model) (x : Record) (v t n w : ℕ) : Type 0 where
  who : ℕ
  says : Said m.held (signed_by x who)
  covering : Covers m.held v t n w who
  change : Change m.held who (m.replica who).target v covering.last covering.reach covering.word

module _ (u : Setup) (V : Service) (m : Model) (I : Inv u V m) where
  -- competing statements that a quorum said each are one, but for their signers
  one_content : (x y : Record) → Competing x y → QuorumSaid u m.held x → QuorumSaid u m.held y → signed_by x 0 ≡ signed_by y 0
  one_content x y r p q =
      let b = intersect u I.few (said m.held x) (said m.held y) p q in
      let same : signed_by x b.who ≡ signed_by y b.who =
      (I.good b.who b.honest).once (signed_by x b.who) (signed_by y b.who) refl b.first b.second
      (record { unique = r.unique; kinds = r.kinds; signers = refl; views = r.views; slots = r.slots }) in
      ap (λ (z : Record). signed_by z 0) same

  pub quorum_layout : (x : Record) → QuorumSaid u m.held x → (i : ℕ) × Layout (signed_by x i)
  quorum_layout x q = let r = member u I.few (said m.held x) q in (r.who, I.layout (signed_by x r.who) r.says)

  -- a view starts from one base
  started_unique : (v : ℕ) (b b' : ℕ × ℕ) → Started u m.held v b → Started u m.held v b' → b ≡ b'
  started_unique v b b' (inl p) (inl q) = ap₂ (λ (n w : ℕ). (n, w)) (p.1 ∙ sym q.1) (p.2 ∙ sym q.2)
  started_unique v b b' (inl p) (inr q) = absurd (omega (arith, p.0, q.0))
  started_unique v b b' (inr p) (inl q) = absurd (omega (arith, p.0, q.0))
  started_unique v b b' (inr p) (inr q) =
      ap (λ (z : Record). (z.slot, z.word))
      (one_content (entry_by 0 v b.0 b.1) (entry_by 0 v b'.0 b'.1)
      (record { unique = inr (inr refl); kinds = refl; signers = refl; views = refl; slots = λ k. absurd (omega (arith, k)) }) p.1 q.1)

  pub started_merged :
      (v : ℕ) (b : ℕ × ℕ) → 0 < v → Started u m.held v b → Merged u m.held (stamps m) v b.0 b.1
  started_merged v b h (inl p) = absurd (omega (arith, p.0))
  started_merged v b h (inr p) =
      let r = member u I.few (said m.held (entry_by 0 v b.0 b.1)) p.1 in
      merged_of u V m I r.who r.honest v b.0 b.1 r.says

  -- no slot is prepared both as an operation and as a no-op
  prepare_clash : (v l : ℕ) → QuorumSaid u m.held (prepare_by 0 v l 0) → QuorumSaid u m.held (prepare_by 0 v l 1) → ⊥
  prepare_clash v l p q =
      let e =
      one_content (prepare_by 0 v l 0) (prepare_by 0 v l 1)
      (record { unique = inl refl; kinds = refl; signers = refl; views = refl; slots = λ _. refl }) p q in
      let z : ◌≡◌ {A = ℕ} 0 1 = ap (λ (x : Record). x.verdict) e in
      omega (arith, z)

  pub commit_prepare : (v l d : ℕ) → QuorumSaid u m.held (commit_by 0 v l d) → QuorumSaid u m.held (prepare_by 0 v l d)
  commit_prepare v l d p =
      let r = member u I.few (said m.held (commit_by 0 v l d)) p in
      (commit_of u V m I r.who r.honest v l d r.says).prepared

  prepare_drop : (v l : ℕ) → QuorumSaid u m.held (prepare_by 0 v l 1) → QuorumSaid u m.held (drop_by 0 v l)
  prepare_drop v l p =
      let r = member u I.few (said m.held (prepare_by 0 v l 1)) p in
      (prepare_of u V m I r.who r.honest v l 1 r.says).dropped refl

  pub prepare_from : (v l d : ℕ) (b : ℕ × ℕ) → QuorumSaid u m.held (prepare_by 0 v l d) → Started u m.held v b → b.0 ≤ l
  prepare_from v l d b p e =
      let r = member u I.few (said m.held (prepare_by 0 v l d)) p in
      let t = prepare_of u V m I r.who r.honest v l d r.says in
      subst (λ (c : ℕ × ℕ). c.0 ≤ l) (started_unique v (t.base, t.base_word) b t.started e) t.from

  -- where a slot through that of a certified answer is prepared as a no-op, the answer's word has it so
  reply_prepare :
      (v s w a l : ℕ) → QuorumSaid u m.held (reply_by 0 v s w a) → QuorumSaid u m.held (prepare_by 0 v l 1) → l ≤ s
      → bit w l ≡ true
  reply_prepare v s w a l q p h =
      let r = intersect u I.few (said m.held (reply_by 0 v s w a)) (said m.held (drop_by 0 v l)) q (prepare_drop v l p) in
      let g = reply_of u V m I r.who r.honest v s w a r.first in
      true_from_ne_false (bit w l) (λ e. prepare_clash v l (commit_prepare v l 0 (g.dropped l r.second h e)) p)

  answer_seen :
      (v s w a : ℕ) (b : ℕ × ℕ) → QuorumSaid u m.held (reply_by 0 v s w a) → Started u m.held v b → Seen u m.held v s w b
  answer_seen v s w a b q e =
      let r = member u I.few (said m.held (reply_by 0 v s w a)) q in
      let g = reply_of u V m I r.who r.honest v s w a r.says in
      subst (λ (c : ℕ × ℕ). Seen u m.held v s w c) (started_unique v (g.base, g.base_word) b g.started e)
      (record { below = g.below; above = g.above })

  -- a test that keeps the view of an answer has the answer's bits
  pub answer_kept :
      (v s w a : ℕ) (p : ℕ → Bool) → QuorumSaid u m.held (reply_by 0 v s w a) → KeepsView u m.held v p → (l : ℕ) → l ≤ s
      → p l ≡ bit w l
  answer_kept v s w a p q M l h =
      let S = answer_seen v s w a M.base q M.started in
      elim (cases_lt l M.base.0) [
        | inl k ↦ M.below l k ∙ sym (S.below l h k)
        | inr k ↦ elim (cases_Bool (bit w l)) [
          | inl t ↦ M.no_ops l (S.above l h k t) ∙ sym t
          | inr t ↦
              false_from_ne_true (p l) (λ e. both_ways (bit w l) t (reply_prepare v s w a l q (M.above l k e) h)) ∙ sym t
        ]
      ]

  shared : (x : Record) (v n w : ℕ) → QuorumSaid u m.held x → (M : Merged u m.held (stamps m) v n w) → Shared u m x v M.top n w
  shared x v n w q M =
      let r = intersect u I.few M.signs (said m.held x) M.many q in
      let p = M.covers r.who r.below r.first in
      record { who = r.who; says = r.second; covering = p; change = change_of u V m I r.who r.honest v p.last p.reach p.word p.said }

  -- what each merge from view v or from before has, the base of every view after v has
  through_views :
      (v a s : ℕ) (f : ℕ → Bool) (bound t : ℕ) (b : ℕ × ℕ) → t < bound → v < t → Started u m.held t b
      → ((t : ℕ) (b : ℕ × ℕ) → v < t → Started u m.held t b → (M : Merged u m.held (stamps m) t b.0 b.1) → M.top ≤ v → InBase a s f b)
      → InBase a s f b
  through_views v a s f zero t b k h e step = absurd (omega arith)
  through_views v a s f (suc bound) t b k h e step =
      let M = started_merged t b (omega arith) e in
      elim (cases_lt v M.top) [
        | inl j ↦
            let c = through_views v a s f bound M.top (M.base, M.base_word) (omega (arith, M.older)) j M.started step in
            record {
              within = omega (arith, c.within, M.order);
              bits = λ l p q. M.below l (omega (arith, c.within)) ∙ c.bits l p q;
            }
        | inr j ↦ step t b h e M j
      ]

  -- a certified no-op is in the base of every later view
  pub no_op_in_base :
      (v s t : ℕ) (b : ℕ × ℕ) → QuorumSaid u m.held (commit_by 0 v s 1) → v < t → Started u m.held t b
      → InBase s s (λ _. true) b
  no_op_in_base v s t b q h e =
      through_views v s s (λ _. true) (suc t) t b (omega arith) h e
      (λ t b h e M j.
      let k = shared (commit_by 0 v s 1) t b.0 b.1 q M in
      let c = k.change.commits v s h k.says in
      let last : v ≡ k.covering.last = omega (arith, c.0, k.covering.under) in
      let top : k.covering.last ≡ M.top = omega (arith, c.0, k.covering.under) in
      record {
        within = omega (arith, (c.1 last).1, k.covering.within top);
        bits = λ l p r. let same : l ≡ s = omega arith in ap (bit b.1) same ∙ k.covering.bits top s (c.1 last).0;
      })

  -- a merge keeps the view that it starts from
  merge_keeps_view :
      (t : ℕ) (b : ℕ × ℕ) → Started u m.held t b → (M : Merged u m.held (stamps m) t b.0 b.1) → KeepsView u m.held M.top (bit b.1)
  merge_keeps_view t b e M =
      record {
        base = (M.base, M.base_word);
        started = M.started;
        below = M.below;
        above = M.above;
        no_ops = λ l q. (no_op_in_base M.top l t b q M.older e).bits l (omega arith) (omega arith);
      }

  -- a certified answer's slot, and the word below it, are in the base of every later view
  pub answer_in_base :
      (v s w a t : ℕ) (b : ℕ × ℕ) → QuorumSaid u m.held (reply_by 0 v s w a) → v < t → Started u m.held t b
      → InBase 0 s (bit w) b
  answer_in_base v s w a t b q h e =
      through_views v 0 s (bit w) (suc t) t b (omega arith) h e
      (λ t b h e M j.
      let k = shared (reply_by 0 v s w a) t b.0 b.1 q M in
      let c = k.change.replies v s w a h k.says in
      let last : v ≡ k.covering.last = omega (arith, c.0, k.covering.under) in
      let top : k.covering.last ≡ M.top = omega (arith, c.0, k.covering.under) in
      let here = subst (λ (x : ℕ). QuorumSaid u m.held (reply_by 0 x s w a)) (last ∙ top) q in
      record {
        within = omega (arith, c.1 last, k.covering.within top);
        bits = λ l _ p. answer_kept M.top s w a (bit b.1) here (merge_keeps_view t b e M) l p;
      })
