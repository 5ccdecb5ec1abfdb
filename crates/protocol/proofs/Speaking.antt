-- Replies and drops, and statements of which nothing more is asked, keep what holds of the replica that says them.
--   Plain k  — a kind of statement of which nothing is asked but, of FIND, DROP and DECISION, that it is not of a later view
use Rattle.std.proofs.Common.{◌≡◌, ℕ, ◌+◌, ◌%◌, ◌^◌, ◌<◌, ◌≤◌, true, false, sym, refl, ap, ◌∙◌, subst, inl, inr, arith, mod-lt, pow_pos, lt_of_lt_of_le, pow_mono}
use Rattle.std.proofs.lemmas.Bool.{both_ways, cases_eq, cases_lt}
use Rattle.record.specs.Statements.{reply_by, drop_by, commit_by}
use Rattle.record.specs.declared.Record.{Record}
use Rattle.register.specs.Sets.{Set, added}
use Rattle.replica.specs.Words.{bit}
use Rattle.replica.specs.Replicas.{longer, delivered}
use Rattle.replica.specs.declared.Replica.{Replica}
use Rattle.replica.proofs.Words.{bit_mod, bit_above}
use Rattle.replica.proofs.Lines.{longer_is}
use Rattle.protocol.specs.Setup.{Setup}
use Rattle.protocol.specs.Service.{Service, Book, answer_at}
use Rattle.protocol.specs.Rules.{Said, Works, Upto}
use Rattle.protocol.proofs.Quorums.{QuorumSaid}
use Rattle.protocol.proofs.Books.{grown_refl, answer_alike}
use Rattle.protocol.proofs.Saying.{view_of, slot_of, added_cases, added_other, Grows, added_grows, quorum_grows, started_grows}
use Rattle.protocol.proofs.Invariant.{Line, Reply, Fact, Past, Good}
use Rattle.protocol.proofs.Later.{stays, based_later, line_kept, speak_good}

pub record Plain (k : ℕ) : Type 0 where
  pub reply : k ≡ 1 → ⊥
  pub prepare : k ≡ 5 → ⊥
  pub commit : k ≡ 6 → ⊥
  pub change : k ≡ 7 → ⊥
  pub entry : k ≡ 9 → ⊥

plain_fact :
    (u : Setup) (V : Service) (h : Set) (B : Book) (i : ℕ) (r : Replica) (x : Record) → Plain x.kind
    → (x.kind ≤ 6 → Past r.view x.view) → Fact u V h B i r x
plain_fact u V h B i r x P p =
    record {
      past = p;
      reply = λ k. absurd (P.reply k);
      prepare = λ k. absurd (P.prepare k);
      commit = λ k. absurd (P.commit k);
      change = λ k. absurd (P.change k);
      entry = λ k. absurd (P.entry k);
    }

module _ (u : Setup) (V : Service) (h : Set) (B : Book) (i : ℕ) (r : Replica) (G : Good u V h B i r) where
  -- a plain statement, which is a DROP at the end of the line if it is one at all
  pub plain_good :
      (x : Record) → Plain x.kind → (x.kind ≡ 3 → (x.view ≡ r.view) × (x.slot ≡ r.length)) → (x.kind ≤ 6 → Past r.view x.view)
      → Good u V (added h x) B i r
  plain_good x P d b =
      let T = stays h (added h x) i r (added_grows h x)
      (λ v s l n p e. elim (added_cases h x (drop_by i v l) e) [
        | inl t ↦ let k = d (ap (λ (z : Record). z.kind) t) in absurd (omega (arith, k, n, view_of t, slot_of t))
        | inr t ↦ t
      ])
      (λ v s w a k. added_other h x (reply_by i v s w a) P.reply) (λ v l k. added_other h x (commit_by i v l 1) P.commit) in
      speak_good u V h B i r r G x T G.bounds (line_kept u V h (added h x) B B (grown_refl B) i r r T refl refl refl refl G.line)
      (plain_fact u V (added h x) B i r x P b)
      (λ y e k. absurd (omega (arith, k.unique, P)))

module _ (u : Setup) (V : Service) (h : Set) (B : Book) (i : ℕ) (r : Replica) (G : Good u V h B i r) (W : Works r) where
  -- a REPLY of its view says nothing new of a view that it left
  own_replies : (s w a : ℕ) (v s' w' a' : ℕ) → v < r.target → Said (added h (reply_by i r.view s w a)) (reply_by i v s' w' a') → Said h (reply_by i v s' w' a')
  own_replies s w a v s' w' a' p e =
      elim (added_cases h (reply_by i r.view s w a) (reply_by i v s' w' a') e) [
        | inl y ↦ absurd (omega (arith, view_of y, W))
        | inr y ↦ y
      ]

  -- nor does it say a DROP
  own_drops : (s w a : ℕ) (v l : ℕ) → Said (added h (reply_by i r.view s w a)) (drop_by i v l) → Said h (drop_by i v l)
  own_drops s w a v l = added_other h (reply_by i r.view s w a) (drop_by i v l) (λ k. omega arith)

  -- i says one more REPLY of its view, at work: all but the line and the new REPLY
  replied :
      (s w a : ℕ) (r' : Replica) → r'.view ≡ r.view → r'.target ≡ r.target → r'.sealed ≡ r.sealed → r'.mark ≡ r.mark
      → r.length ≤ r'.length
      → (let x = reply_by i r.view s w a in
      Line u (added h x) B i r'.view r'.base r'.length r'.word
      → Reply u V (added h x) B i r'.view r'.length r.view s w a → Good u V (added h x) B i r')
  replied s w a r' ev et es em el L N =
      let x = reply_by i r.view s w a in
      let sealed : r'.sealed ≡ r.sealed = es in
      speak_good u V h B i r r' G x
      (record {
        grows = added_grows h x;
        view = inr (sym ev, el, λ l e. subst (λ (y : ℕ). bit y l ≡ true) (sym es) e);
        target = omega arith;
        mark = λ t p f k n. em ∙ f (omega arith) (omega arith);
        drops = λ v s' l n p. own_drops s w a v l;
        replies = own_replies s w a;
        commits = λ v l p. added_other h x (commit_by i v l 1) (λ k. omega arith);
      })
      (omega (arith, G.bounds, sealed)) L
      (record {
        past = λ k. omega arith;
        reply = λ k. N;
        prepare = λ k. absurd (omega arith);
        commit = λ k. absurd (omega arith);
        change = λ k. absurd (omega arith);
        entry = λ k. absurd (omega arith);
      })
      (λ y e k. absurd (omega (arith, k.unique)))

  -- a REPLY along the line: its word has the line's bits through its slot, and where i dropped an operation through it, a quorum committed it
  along_line :
      (s w a n : ℕ) → s < n → Upto B s → a ≡ answer_at V B r.word s → ((l : ℕ) → l ≤ s → bit w l ≡ bit r.word l)
      → ((l : ℕ) → Said h (drop_by i r.view l) → l ≤ s → bit r.word l ≡ false → QuorumSaid u h (commit_by 0 r.view l 0))
      → Reply u V (added h (reply_by i r.view s w a)) B i r.view n r.view s w a
  along_line s w a n below p right same kept =
      let x = reply_by i r.view s w a in
      let g : Grows h (added h x) = added_grows h x in
      let based = G.line.based in
      record {
        now = λ e. below;
        stamped = p;
        right = right ∙ answer_alike V B B r.word w s (λ l k. refl) (λ l k. sym (same l (omega arith)));
        base = r.base;
        base_word = based.base_word;
        started = started_grows u h (added h x) g r.view (r.base, based.base_word) based.started;
        below = λ l k t. same l k ∙ based.below l t;
        above = λ l k t e. quorum_grows u h (added h x) g (commit_by 0 r.view l 1) (G.line.skipped l t (sym (same l k) ∙ e));
        dropped = λ l e k f.
            quorum_grows u h (added h x) g (commit_by 0 r.view l 0) (kept l (own_drops s w a r.view l e) k (sym (same l k) ∙ f));
      }

  pub deliver_good :
      (a : ℕ) → r.length < 64 → Upto B r.length → h (drop_by i r.view r.length) ≡ false → a ≡ answer_at V B r.word r.length
      → Good u V (added h (reply_by i r.view r.length r.word a)) B i (delivered r)
  deliver_good a room p d right =
      let x = reply_by i r.view r.length r.word a in
      let g : Grows h (added h x) = added_grows h x in
      let L = G.line in
      let more : longer r.length ≡ r.length + 1 = longer_is r.length room in
      let wider : 2 ^ r.length ≤ 2 ^ longer r.length = pow_mono (omega arith) in
      let kept : (l : ℕ) → Said h (drop_by i r.view l) → l ≤ r.length → bit r.word l ≡ false → QuorumSaid u h (commit_by 0 r.view l 0) =
      λ l e q f. elim (cases_eq l r.length) [
        | inl t ↦ absurd (both_ways (h (drop_by i r.view r.length)) d (subst (λ (n : ℕ). h (drop_by i r.view n) ≡ true) t e))
        | inr t ↦ L.kept l e (omega arith) f
      ] in
      replied r.length r.word a (delivered r) refl refl refl refl (omega arith)
      (record {
        known = λ l q. p l (omega arith);
        small = lt_of_lt_of_le L.small wider;
        based = based_later u h (added h x) g B B (grown_refl B) L.based;
        skipped = λ l q e. quorum_grows u h (added h x) g (commit_by 0 r.view l 1) (L.skipped l q e);
        kept = λ l e q f. quorum_grows u h (added h x) g (commit_by 0 r.view l 0) (kept l (own_drops r.length r.word a r.view l e) (omega arith) f);
      })
      (along_line r.length r.word a (longer r.length) (omega arith) p right (λ l k. refl) kept)

  pub reply_good :
      (s a : ℕ) → Upto B s → s < r.length → bit r.word s ≡ false → a ≡ answer_at V B r.word s
      → Good u V (added h (reply_by i r.view s (r.word % 2 ^ s) a)) B i r
  reply_good s a p q z right =
      let w = r.word % 2 ^ s in
      let x = reply_by i r.view s w a in
      let g : Grows h (added h x) = added_grows h x in
      let same : (l : ℕ) → l ≤ s → bit w l ≡ bit r.word l =
      λ l k. elim (cases_lt l s) [
        | inl t ↦ bit_mod s l r.word t
        | inr t ↦
            let end : l ≡ s = omega arith in
            subst (λ (n : ℕ). bit w n ≡ bit r.word n) (sym end) (bit_above s s w (mod-lt r.word (pow_pos s)) (omega arith) ∙ sym z)
      ] in
      replied s w a r refl refl refl refl (omega arith)
      (line_kept u V h (added h x) B B (grown_refl B) i r r
      (stays h (added h x) i r g (λ v s' l n p. own_drops s w a v l) (own_replies s w a)
      (λ v l p. added_other h x (commit_by i v l 1) (λ k. omega arith)))
      refl refl refl refl G.line)
      (along_line s w a r.length q p right same (λ l e k f. G.line.kept l e (omega arith) f))
