-- What holds of a replica and of its statements outlasts more statements and more operations.
--   Turn h h' i r r'  — replica i goes from r to r', and all that was said from h to h', so that what held of its other statements still holds
--   OtherKind k       — the kind k is not REPLY, DROP or COMMIT
--   Silent h h' j     — replica j said nothing in h' that it had not said in h
use Rattle.std.proofs.Common.{◌≡◌, ℕ, ◌<◌, ◌≤◌, Bool, true, ◌⊎◌, sym, refl, ◌∙◌, subst, inl, inr, arith}
use Rattle.record.specs.Statements.{reply_by, drop_by, prepare_by, commit_by}
use Rattle.record.specs.declared.Record.{Record}
use Rattle.register.specs.Sets.{Set, added}
use Rattle.replica.specs.Words.{bit}
use Rattle.replica.specs.declared.Replica.{Replica}
use Rattle.protocol.specs.Setup.{Setup}
use Rattle.protocol.specs.Service.{Service, Book, Known}
use Rattle.protocol.specs.Rules.{Said}
use Rattle.protocol.proofs.Books.{Grown, grown_refl, grown_same, answer_alike}
use Rattle.protocol.proofs.Saying.{signer_of, added_cases, added_other, Grows, added_grows, quorum_grows, started_grows, once_more}
use Rattle.protocol.proofs.Invariant.{Bounds, Based, Line, Reply, Prepare, Commit, Change, Merged, Ready, Fact, Competing, Good}

module _ (u : Setup) (h h' : Set) (g : Grows h h') (B B' : Book) (w : Grown B B') where
  known_later : {l : ℕ} → Known B l → Known B' l
  known_later {l} k = (k.0, w l k.0 k.1)

  pub based_later : {v b x : ℕ} → Based u h v b x → Based u h' v b x
  based_later {v} {b} A =
      record { base_word = A.base_word; started = started_grows u h h' g v (b, A.base_word) A.started; below = A.below }

  -- replica i said no DROP of the view below its length that it had not said
  line_later :
      {i v b n x : ℕ} → ((l : ℕ) → l < n → Said h' (drop_by i v l) → Said h (drop_by i v l)) → Line u h B i v b n x
      → Line u h' B' i v b n x
  line_later {v = v} own L =
      record {
        known = λ l q. known_later (L.known l q);
        small = L.small;
        based = based_later L.based;
        skipped = λ l q e. quorum_grows u h h' g (commit_by 0 v l 1) (L.skipped l q e);
        kept = λ l d q e. quorum_grows u h h' g (commit_by 0 v l 0) (L.kept l (own l q d) q e);
      }

  pub reply_later :
      (V : Service) {i v n v' n' t s x a : ℕ} → t ≤ v → (v < v') ⊎ ((v ≡ v') × (n ≤ n'))
      → ((l : ℕ) → l ≤ s → Said h' (drop_by i t l) → Said h (drop_by i t l)) → Reply u V h B i v n t s x a
      → Reply u V h' B' i v' n' t s x a
  reply_later V {t = t} {s = s} {x = x} q p own R =
      record {
        now = λ e. omega (arith, R.now, q, p);
        stamped = λ l q. known_later (R.stamped l q);
        right = R.right ∙ answer_alike V B B' x x s (λ l q. grown_same B B' w l (R.stamped l q)) (λ l q. refl);
        base = R.base;
        base_word = R.base_word;
        started = started_grows u h h' g t (R.base, R.base_word) R.started;
        below = R.below;
        above = λ l q k e. quorum_grows u h h' g (commit_by 0 t l 1) (R.above l q k e);
        dropped = λ l d q e. quorum_grows u h h' g (commit_by 0 t l 0) (R.dropped l (own l q d) q e);
      }

  prepare_later : {t l d : ℕ} → Prepare u h t l d → Prepare u h' t l d
  prepare_later {t = t} {l = l} P =
      record {
        dropped = λ e. quorum_grows u h h' g (drop_by 0 t l) (P.dropped e);
        base = P.base;
        base_word = P.base_word;
        started = started_grows u h h' g t (P.base, P.base_word) P.started;
        from = P.from;
      }

  pub commit_later :
      {v v' x x' t l d : ℕ} → t ≤ v → (v < v') ⊎ ((v ≡ v') × (bit x l ≡ true → bit x' l ≡ true)) → Commit u h B v x t l d
      → Commit u h' B' v' x' t l d
  commit_later {t = t} {l = l} {d = d} p q C =
      record {
        prepared = quorum_grows u h h' g (prepare_by 0 t l d) C.prepared;
        known = known_later C.known;
        sealed = λ e f. elim q [ inl k ↦ absurd (omega arith) | inr k ↦ k.1 (C.sealed (e ∙ sym k.0) f) ];
      }

  -- replica i said no REPLY and no COMMIT of no-op in a view that it left which it had not said
  pub change_later :
      {i t t' v last n x : ℕ} → t ≤ t'
      → ((v' s x' a : ℕ) → v' < v → v ≤ t → Said h' (reply_by i v' s x' a) → Said h (reply_by i v' s x' a))
      → ((v' l : ℕ) → v' < v → v ≤ t → Said h' (commit_by i v' l 1) → Said h (commit_by i v' l 1)) → Change h i t v last n x
      → Change h' i t' v last n x
  change_later q own_replies own_commits C =
      record {
        past = omega (arith, C.past);
        replies = λ v' s x' a k e. C.replies v' s x' a k (own_replies v' s x' a k C.past e);
        commits = λ v' l k e. C.commits v' l k (own_commits v' l k C.past e);
      }

  pub merged_later : {v n x : ℕ} → Merged u h B v n x → Merged u h' B' v n x
  merged_later M =
      record {
        top = M.top;
        base = M.base;
        base_word = M.base_word;
        older = M.older;
        started = started_grows u h h' g M.top (M.base, M.base_word) M.started;
        order = M.order;
        known = λ l q. known_later (M.known l q);
        below = M.below;
        above = λ l q e. quorum_grows u h h' g (prepare_by 0 M.top l 1) (M.above l q e);
        signs = M.signs;
        many = M.many;
        covers = λ j q e.
            let P = M.covers j q e in
            record { last = P.last; reach = P.reach; word = P.word; said = g _ P.said; under = P.under; within = P.within; bits = P.bits };
      }

  ready_later :
      {v v' t t' t'' n x : ℕ} {m m' : Bool} → t ≤ t'
      → (t'' ≤ t → (t'' ≡ t → v < t → m ≡ true) → t'' ≡ t' → v' < t' → m' ≡ true) → Ready u h B v t m t'' n x
      → Ready u h' B' v' t' m' t'' n x
  ready_later q f E =
      record { past = omega (arith, E.past); marked = f E.past E.marked; merged = merged_later E.merged }

pub record Turn (h h' : Set) (i : ℕ) (r r' : Replica) : Type 0 where
  pub grows : Grows h h'
  pub view : (r.view < r'.view) ⊎ ((r.view ≡ r'.view) × (r.length ≤ r'.length) × ((l : ℕ) → bit r.sealed l ≡ true → bit r'.sealed l ≡ true))
  pub target : r.target ≤ r'.target
  pub mark :
      (t : ℕ) → t ≤ r.target → (t ≡ r.target → r.view < r.target → r.mark ≡ true) → t ≡ r'.target → r'.view < r'.target → r'.mark ≡ true
  pub drops : (v s l : ℕ) → (v ≡ r.view → s < r.length) → l ≤ s → Said h' (drop_by i v l) → Said h (drop_by i v l)
  pub replies : (v s w a : ℕ) → v < r.target → Said h' (reply_by i v s w a) → Said h (reply_by i v s w a)
  pub commits : (v l : ℕ) → v < r.target → Said h' (commit_by i v l 1) → Said h (commit_by i v l 1)

-- the replica stays as it is
pub stays :
    (h h' : Set) (i : ℕ) (r : Replica) → Grows h h'
    → ((v s l : ℕ) → (v ≡ r.view → s < r.length) → l ≤ s → Said h' (drop_by i v l) → Said h (drop_by i v l))
    → ((v s w a : ℕ) → v < r.target → Said h' (reply_by i v s w a) → Said h (reply_by i v s w a))
    → ((v l : ℕ) → v < r.target → Said h' (commit_by i v l 1) → Said h (commit_by i v l 1)) → Turn h h' i r r
stays h h' i r g d p c =
    record {
      grows = g;
      view = inr (refl, omega arith, λ l e. e);
      target = omega arith;
      mark = λ t k f. f;
      drops = d;
      replies = p;
      commits = c;
    }

pub record OtherKind (k : ℕ) : Type 0 where
  pub reply : k ≡ 1 → ⊥
  pub drop : k ≡ 3 → ⊥
  pub commit : k ≡ 6 → ⊥

-- a turn by a statement x of such a kind
pub by_other_kind :
    (h : Set) (i : ℕ) (r r' : Replica) (x : Record) → OtherKind x.kind
    → (r.view ≡ r'.view) × (r.length ≤ r'.length) × ((l : ℕ) → bit r.sealed l ≡ true → bit r'.sealed l ≡ true) → r.target ≤ r'.target
    → ((t : ℕ) → t ≤ r.target → (t ≡ r.target → r.view < r.target → r.mark ≡ true) → t ≡ r'.target → r'.view < r'.target → r'.mark ≡ true)
    → Turn h (added h x) i r r'
by_other_kind h i r r' x A view target mark =
    record {
      grows = added_grows h x;
      view = inr view;
      target = target;
      mark = mark;
      drops = λ v s l n p. added_other h x (drop_by i v l) A.drop;
      replies = λ v s w a p. added_other h x (reply_by i v s w a) A.reply;
      commits = λ v l p. added_other h x (commit_by i v l 1) A.commit;
    }

module _ (u : Setup) (V : Service) (h h' : Set) (B B' : Book) (w : Grown B B') (i : ℕ) (r r' : Replica) (T : Turn h h' i r r') where
  -- the line where the turn leaves it as it was
  pub line_kept :
      r'.view ≡ r.view → r'.base ≡ r.base → r'.length ≡ r.length → r'.word ≡ r.word
      → Line u h B i r.view r.base r.length r.word → Line u h' B' i r'.view r'.base r'.length r'.word
  line_kept ev eb el ew L =
      subst (λ (x : Replica). Line u h' B' i x.view x.base x.length x.word)
      (λ k. record {
        view = sym ev k;
        target = r'.target;
        base = sym eb k;
        length = sym el k;
        word = sym ew k;
        sealed = r'.sealed;
        mark = r'.mark;
      })
      (line_later u h h' T.grows B B' w (λ l p. T.drops r.view l l (λ _. p) (omega arith)) L)

  fact_later : (x : Record) → Fact u V h B i r x → Fact u V h' B' i r' x
  fact_later x F =
      let g = T.grows in
      record {
        past = λ k. omega (arith, F.past k, T.view);
        reply = λ k.
            let A = F.reply k in
            reply_later u h h' g B B' w V (F.past (omega arith)).old
            (elim T.view [ inl p ↦ inl p | inr p ↦ inr (p.0, p.1) ])
            (λ l p. T.drops x.view x.slot l A.now p) A;
        prepare = λ k. prepare_later u h h' g B B' w (F.prepare k);
        commit = λ k.
            commit_later u h h' g B B' w (F.past (omega arith)).old
            (elim T.view [ inl p ↦ inl p | inr p ↦ inr (p.0, p.2 x.slot) ]) (F.commit k);
        change = λ k.
            change_later u h h' g B B' w T.target (λ v s y a p q. T.replies v s y a (omega arith))
            (λ v l p q. T.commits v l (omega arith)) (F.change k);
        entry = λ k. let E = F.entry k in ready_later u h h' g B B' w T.target (λ p f. T.mark x.view p f) E;
      }

abbrev Silent : Set → Set → ℕ → Type 0
Silent h h' j = (y : Record) → y.signer ≡ j → Said h' y → Said h y

pub good_later :
    (u : Setup) (V : Service) (h h' : Set) (B B' : Book) (j : ℕ) (r : Replica) → Grows h h' → Grown B B' → Silent h h' j
    → Good u V h B j r → Good u V h' B' j r
good_later u V h h' B B' j r g w O G =
    let T = stays h h' j r g (λ v s l n p. O (drop_by j v l) refl) (λ v s x a p. O (reply_by j v s x a) refl) (λ v l p. O (commit_by j v l 1) refl) in
    record {
      bounds = G.bounds;
      line = line_kept u V h h' B B' w j r r T refl refl refl refl G.line;
      facts = λ x s e. fact_later u V h h' B B' w j r r T x (G.facts x s (O x s e));
      once = λ x y s e f k. G.once x y s (O x s e) (O y (sym k.signers ∙ s) f) k;
    }

-- a statement of another is none of j's
pub silent_other : (x : Record) (h : Set) (j : ℕ) → (x.signer ≡ j → ⊥) → Silent h (added h x) j
silent_other x h j n y p e = elim (added_cases h x y e) [ inl q ↦ absurd (n (signer_of q ∙ p)) | inr q ↦ q ]

-- replica i says x and becomes r', or only becomes r'
module _ (u : Setup) (V : Service) (h : Set) (B : Book) (i : ℕ) (r r' : Replica) (G : Good u V h B i r) where
  pub speak_good :
      (x : Record) → Turn h (added h x) i r r' → Bounds r'.view r'.target r'.sealed
      → Line u (added h x) B i r'.view r'.base r'.length r'.word → Fact u V (added h x) B i r' x
      → ((y : Record) → Said h y → Competing x y → x ≡ y) → Good u V (added h x) B i r'
  speak_good x T N L F new =
      record {
        bounds = N;
        line = L;
        facts = λ y s e. elim (added_cases h x y e) [
          | inl q ↦ subst (Fact u V (added h x) B i r') q F
          | inr q ↦ fact_later u V h (added h x) B B (grown_refl B) i r r' T y (G.facts y s q)
        ];
        once = once_more h i x new G.once;
      }

  pub turn_good :
      Turn h h i r r' → Bounds r'.view r'.target r'.sealed → Line u h B i r'.view r'.base r'.length r'.word
      → Good u V h B i r'
  turn_good T N L =
      record {
        bounds = N;
        line = L;
        facts = λ y s e. fact_later u V h h B B (grown_refl B) i r r' T y (G.facts y s e);
        once = G.once;
      }
