-- The register and the stamped operations along a life.
--   Effect x m  — after the call with the meaning m the register of the state x holds what it held and what the call entered, and nothing else; and stamped operations stay stamped
use Rattle.std.proofs.Common.{◌≡◌, ℕ, zero, suc, ◌<◌, ◌≤◌, Bool, true, false, cond, ◌⊎◌, List, [], ◌∷◌, take, is_ok, Some, None, Option, slice_get, sym, refl, ap, ◌∙◌, subst, inl, inr, arith}
use Rattle.std.proofs.lemmas.Bool.{both_ways, or_cases, or_left, or_right}
use Rattle.std.proofs.ByRecursion.{All-weaker}
use Rattle.refusal.specs.Grounds.{Answer}
use Rattle.record.specs.Same.{same}
use Rattle.record.specs.declared.Record.{Record}
use Rattle.record.proofs.Same.{same_decides, same_refl}
use Rattle.quorum.specs.Quorums.{said, signed_by}
use Rattle.protocol.specs.Setup.{Setup, replicas, quorum_size}
use Rattle.protocol.specs.Service.{Service, book}
use Rattle.protocol.specs.State.{State, Action, opened, register_answer, answer_to, held_with}
use Rattle.protocol.specs.Stamp.{stamp}
use Rattle.protocol.specs.Deliver.{deliver}
use Rattle.protocol.specs.Find.{find}
use Rattle.protocol.specs.Drop.{drop}
use Rattle.protocol.specs.Decide.{decide}
use Rattle.protocol.specs.Prepare.{prepare}
use Rattle.protocol.specs.Commit.{commit}
use Rattle.protocol.specs.Settle.{settle}
use Rattle.protocol.specs.Reply.{reply}
use Rattle.protocol.specs.Leave.{leave}
use Rattle.protocol.specs.Forge.{forge}
use Rattle.protocol.specs.Lead.{lead}
use Rattle.protocol.specs.Start.{start}
use Rattle.protocol.specs.Enter.{enter}
use Rattle.protocol.specs.Rules.{Said}
use Rattle.protocol.specs.Call.{Call, Outcome, Meaning, Stamp, Deliver, Find, Drop, Decide, Prepare, Commit, Settle, Reply, Leave, Forge, Lead, Start, Enter, AskAnswer, AskNoOp, acting, meaning}
use Rattle.protocol.specs.Life.{Life, run, outcomes, EnteredBy, state_at}
use Rattle.protocol.specs.Law.{Entered, Signers}
use Rattle.protocol.proofs.Quorums.{QuorumSaid}
use Rattle.protocol.proofs.Books.{Grown, grown_refl, book_push}
use Rattle.protocol.proofs.Signing.{count_of_list, list_of_count, different}
use Rattle.protocol.proofs.Stepping.{entered_held}
use Rattle.refusal.proofs.Granted.{both_granted}

pub record Effect (x : State) (m : Meaning) : Type 0 where
  pub held : (r : Record) → (Said x.held r) ⊎ (m.enters ≡ Some r) → Said m.after.held r
  pub only : (r : Record) → Said m.after.held r → (Said x.held r) ⊎ (m.enters ≡ Some r)
  pub grown : Grown (book x.stamped) (book m.after.stamped)

module _ (x : State) where
  -- what the register holds after a granted call that says o
  held_with_all :
      (o : Option Record) → is_ok (register_answer x o) ≡ true → (r : Record) → (Said x.held r) ⊎ (o ≡ Some r)
      → Said (held_with x o) r
  held_with_all None ok r (inl h) = h
  held_with_all None ok r (inr e) = cc
  held_with_all (Some q) ok r (inl h) =
      ap (λ s. s r) (entered_held x.held x.free q ok) ∙ or_left (x.held r) (same q r) h
  held_with_all (Some q) ok r (inr e) =
      let t : q ≡ r = cc in
      ap (λ s. s r) (entered_held x.held x.free q ok)
      ∙ or_right (x.held r) (same q r) (subst (λ (z : Record). same q z ≡ true) t (same_refl q))

  held_with_only :
      (o : Option Record) → is_ok (register_answer x o) ≡ true → (r : Record) → Said (held_with x o) r
      → (Said x.held r) ⊎ (o ≡ Some r)
  held_with_only None ok r h = inl h
  held_with_only (Some q) ok r h =
      elim (or_cases (x.held r) (same q r) (sym (ap (λ s. s r) (entered_held x.held x.free q ok)) ∙ h)) [
        | inl s ↦ inl s
        | inr s ↦ inr (ap Some ((same_decides q r).0 s))
      ]

  -- a call that changes nothing
  nothing_new : (o : Outcome) (g : Answer) → Effect x (record { outcome = o; own = g; after = x; enters = None })
  nothing_new o g =
      record {
        held = λ r h. elim h [ inl s ↦ s | inr e ↦ cc ];
        only = λ r h. inl h;
        grown = grown_refl (book x.stamped);
      }

  -- a call that changes the state to y and enters s if b, else nothing
  effect_if :
      (b : Bool) (o : Outcome) (g : Answer) (y : State) (s : Option Record)
      → (b ≡ true → Effect x (record { outcome = o; own = g; after = y; enters = s }))
      → Effect x (record { outcome = o; own = g; after = cond b y x; enters = cond b s None })
  effect_if true o g y s h = h refl
  effect_if false o g y s h = nothing_new o g

  -- a call that does what a says
  acts : (a : Action) → Grown (book x.stamped) (book a.stamped) → Effect x (acting x a)
  acts a g =
      effect_if (is_ok (answer_to x a)) _ _ _ a.says
      (λ e.
      let ok = (both_granted a.grounds (register_answer x a.says) e).1 in
      record { held = held_with_all a.says ok; only = held_with_only a.says ok; grown = g })

  -- a call that stamps nothing
  stamps_nothing : (a : Action) → a.stamped ≡ x.stamped → Effect x (acting x a)
  stamps_nothing a e = acts a (subst (λ (ops : List ℕ). Grown (book x.stamped) (book ops)) (sym e) (grown_refl (book x.stamped)))

module _ (u : Setup) (V : Service) where
  effect : (x : State) (c : Call) → Effect x (meaning u V x c)
  effect x (Stamp op) = acts x (stamp x op) (book_push x.stamped op)
  effect x (Deliver i s) = stamps_nothing x (deliver u V x i s) refl
  effect x (Find i) = stamps_nothing x (find u x i) refl
  effect x (Drop i) = stamps_nothing x (drop u x i) refl
  effect x (Decide i s d) = stamps_nothing x (decide u x i s d) refl
  effect x (Prepare i s d) = stamps_nothing x (prepare u x i s d) refl
  effect x (Commit i s d) = stamps_nothing x (commit u x i s d) refl
  effect x (Settle i s d) = stamps_nothing x (settle u x i s d) refl
  effect x (Reply i s) = stamps_nothing x (reply u V x i s) refl
  effect x (Leave i t) = stamps_nothing x (leave u x i t) refl
  effect x (Forge r) = stamps_nothing x (forge u x r) refl
  effect x (Lead i ps n w) = stamps_nothing x (lead u x i ps n w) refl
  effect x (Start i ps n w) = stamps_nothing x (start u x i ps n w) refl
  effect x (Enter i n w v) = stamps_nothing x (enter u x i n w v) refl
  effect x (AskAnswer b v s w a) = nothing_new x _ _
  effect x (AskNoOp b v s) = nothing_new x _ _

  -- ---- what the register holds after calls

  held_after_calls :
      (cs : List Call) (x : State) (r : Record) → (Said x.held r) ⊎ EnteredBy u V x cs r → Said (run u V x cs).held r
  held_after_calls [] x r (inl h) = h
  held_after_calls [] x r (inr e) = absurd e
  held_after_calls (c ∷ cs) x r (inl h) =
      held_after_calls cs (meaning u V x c).after r (inl ((effect x c).held r (inl h)))
  held_after_calls (c ∷ cs) x r (inr (inl e)) =
      held_after_calls cs (meaning u V x c).after r (inl ((effect x c).held r (inr e)))
  held_after_calls (c ∷ cs) x r (inr (inr e)) = held_after_calls cs (meaning u V x c).after r (inr e)

  only_by_calls :
      (cs : List Call) (x : State) (r : Record) → Said (run u V x cs).held r → (Said x.held r) ⊎ EnteredBy u V x cs r
  only_by_calls [] x r h = inl h
  only_by_calls (c ∷ cs) x r h = elim (only_by_calls cs (meaning u V x c).after r h) [
    | inl s ↦ elim ((effect x c).only r s) [ inl t ↦ inl t | inr e ↦ inr (inl e) ]
    | inr e ↦ inr (inr e)
  ]

  -- ---- what every call keeps, along a life

  module _ (P : State → Type 0) (keeps : (x : State) (c : Call) → P x → P (meaning u V x c).after) where
    pub kept_after : (cs : List Call) (x : State) → P x → P (run u V x cs)
    kept_after [] x h = h
    kept_after (c ∷ cs) x h = kept_after cs (meaning u V x c).after (keeps x c h)

    pub kept_on :
        (cs : List Call) (x : State) (j k : ℕ) → j ≤ k → P (run u V x (take j cs)) → P (run u V x (take k cs))
    kept_on cs x zero k le h = kept_after (take k cs) x h
    kept_on [] x (suc j) zero le h = absurd (omega arith)
    kept_on [] x (suc j) (suc k) le h = h
    kept_on (c ∷ cs) x (suc j) zero le h = absurd (omega arith)
    kept_on (c ∷ cs) x (suc j) (suc k) le h = kept_on cs (meaning u V x c).after j k (omega arith) h

  -- what came of the call in the place k
  pub outcome_at :
      (k : ℕ) (cs : List Call) (x : State) (c : Call) (o : Outcome) → slice_get cs k ≡ Some c
      → slice_get (outcomes u V x cs) k ≡ Some o
      → (meaning u V (run u V x (take k cs)) c).outcome ≡ o
  outcome_at k [] x c o e f = cc
  outcome_at zero (d ∷ cs) x c o e f =
      let same : d ≡ c = cc in
      subst (λ (z : Call). (meaning u V x z).outcome ≡ o) same (cc)
  outcome_at (suc k) (d ∷ cs) x c o e f = outcome_at k cs (meaning u V x d).after c o e f

-- ---- a life, step by step

held_of_entered : (y : Life) (k : ℕ) (r : Record) → Entered y k r → Said (state_at y k).held r
held_of_entered y k r e = held_after_calls y.bench y.service (take k y.calls) (opened y.places) r (inr e)

pub entered_of_held : (y : Life) (k : ℕ) (r : Record) → Said (state_at y k).held r → Entered y k r
entered_of_held y k r h = elim (only_by_calls y.bench y.service (take k y.calls) (opened y.places) r h) [
  | inl n ↦ absurd (both_ways false refl n)
  | inr e ↦ e
]

pub held_on : (y : Life) (j k : ℕ) → j ≤ k → (r : Record) → Said (state_at y j).held r → Said (state_at y k).held r
held_on y j k le r h =
    kept_on y.bench y.service (λ x. Said x.held r) (λ x c t. (effect y.bench y.service x c).held r (inl t)) y.calls
    (opened y.places) j k le h

pub stamped_on : (y : Life) (j k : ℕ) → j ≤ k → Grown (book (state_at y j).stamped) (book (state_at y k).stamped)
stamped_on y j k le =
    let b = book (state_at y j).stamped in
    kept_on y.bench y.service (λ x. Grown b (book x.stamped))
    (λ x c g l o e. (effect y.bench y.service x c).grown l o (g l o e)) y.calls (opened y.places) j k le (grown_refl b)

-- ---- signers

pub quorum_of_signers : (y : Life) (k : ℕ) (r : Record) → Signers y k r → QuorumSaid y.bench (state_at y k).held r
quorum_of_signers y k r s =
    let each = All-weaker _ (λ i. (i < replicas y.bench) × (said (state_at y k).held r i ≡ true))
    (λ i t. (t.0, held_of_entered y k (signed_by r i) t.1)) s.who s.each in
    omega (arith, s.enough, count_of_list (replicas y.bench) (said (state_at y k).held r) s.who s.different each)

pub signers_of_quorum : (y : Life) (k : ℕ) (r : Record) → QuorumSaid y.bench (state_at y k).held r → Signers y k r
signers_of_quorum y k r q =
    let l = list_of_count (replicas y.bench) (said (state_at y k).held r) (quorum_size y.bench) q in
    record {
      who = l.who;
      enough = l.enough;
      different = different (replicas y.bench) (said (state_at y k).held r) (quorum_size y.bench) l;
      each = All-weaker _ _ (λ i t. (t.0, entered_of_held y k (signed_by r i) t.1)) l.who l.each;
    }
