-- Every move that the rules allow, with a statement that keeps the layout if with any, keeps the invariant, and a bench opens in it.
use Rattle.std.proofs.Common.{◌≡◌, ℕ, ◌<◌, Bool, true, false, cond, eqb, [], ◌∷◌, length, length-append, sym, refl, ap, ◌∙◌, subst, inl, inr, arith}
use Rattle.std.proofs.lemmas.Bool.{both_ways, eqb-true, eqb-false}
use Rattle.record.specs.Layout.{Layout, keeps_layout}
use Rattle.record.specs.Statements.{entry_by}
use Rattle.record.specs.declared.Record.{Record}
use Rattle.record.proofs.Layouts.{layout_from}
use Rattle.register.specs.Sets.{Set, nothing, added}
use Rattle.quorum.specs.Quorums.{said}
use Rattle.replica.specs.Words.{bit}
use Rattle.replica.specs.Replicas.{initial, delivered, committed, settled, left, started, entered}
use Rattle.replica.specs.declared.Replica.{Replica}
use Rattle.replica.proofs.Words.{bit_above, one_past_over}
use Rattle.merge.specs.Merges.{merge}
use Rattle.protocol.specs.Setup.{Setup, foreign}
use Rattle.protocol.specs.Service.{Service, Known}
use Rattle.protocol.specs.Model.{Model, stamps, placed, Move, stamping, forges, becomes, says, apply, InLayout}
use Rattle.protocol.specs.Rules.{Acts, Allowed, Said, act, rest, stamp, deliver, find, drop, decide, prepare, commit, settle, reply, leave, forge, lead, start, enter}
use Rattle.protocol.proofs.Starting.{Started}
use Rattle.protocol.proofs.Books.{book_push, grown_refl, stamped_below}
use Rattle.protocol.proofs.Counting.{Few, member}
use Rattle.protocol.proofs.Saying.{added_cases, added_grows}
use Rattle.protocol.proofs.Invariant.{Inv, Good}
use Rattle.protocol.proofs.Later.{good_later, silent_other}
use Rattle.protocol.proofs.Speaking.{plain_good, deliver_good, reply_good}
use Rattle.protocol.proofs.Voting.{prepare_good, commit_good, settle_good}
use Rattle.protocol.proofs.Moving.{leave_good, start_good, enter_good}
use Rattle.protocol.proofs.Merging.{started_bounds, merged}

-- a model as a bench opens
abbrev pub opening : Model
opening = record { stamped = []; held = nothing; replica = λ _. initial }

pub opening_inv : (u : Setup) (V : Service) → Few u → Inv u V opening
opening_inv u V few =
    record {
      few = few;
      short = omega arith;
      layout = λ x e. absurd (both_ways false refl e);
      good = λ i f.
          record {
            bounds = omega arith;
            line =
                record {
                  known = λ l p. absurd (omega arith);
                  small = omega arith;
                  based = record { base_word = 0; started = inl (refl, refl, refl); below = λ l p. refl };
                  skipped = λ l p e. absurd (both_ways (bit 0 l) (bit_above 0 l 0 (omega arith) p) e);
                  kept = λ l e. absurd (both_ways false refl e);
                };
            facts = λ x s e. absurd (both_ways false refl e);
            once = λ x y s e. absurd (both_ways false refl e);
          };
    }

placed_all :
    (P : ℕ → Replica → Type 0) (f : ℕ → Replica) (i : ℕ) (r : Replica) → P i r → ((j : ℕ) → (i ≡ j → ⊥) → P j (f j)) → (j : ℕ)
    → P j (placed f i r j)
placed_all P f i r p q j = go (eqb i j) refl
  where
    go : (b : Bool) → eqb i j ≡ b → P j (cond b r (f j))
    go true e = subst (λ (x : ℕ). P x r) (eqb-true i j e) p
    go false e = q j (eqb-false i j e)

layout_more : (h : Set) (x : Record) → Layout x → ((y : Record) → Said h y → Layout y) → (y : Record) → Said (added h x) y → Layout y
layout_more h x v f y e = elim (added_cases h x y e) [ inl q ↦ subst Layout q v | inr q ↦ f y q ]

module _ (u : Setup) (V : Service) (m : Model) (I : Inv u V m) where
  stamping_inv : (op : ℕ) → length m.stamped < 64 → Inv u V (apply m (stamping op))
  stamping_inv op p =
      record {
        few = I.few;
        short = omega (arith, length-append m.stamped (op ∷ []));
        layout = I.layout;
        good = λ i f.
            good_later u V m.held m.held (stamps m) (stamps (apply m (stamping op))) i (m.replica i) (λ y e. e)
            (book_push m.stamped op) (λ y q e. e) (I.good i f);
      }

  forges_inv : (x : Record) → foreign u x.signer ≡ true → keeps_layout x ≡ true → Inv u V (apply m (forges x))
  forges_inv x p v =
      record {
        few = I.few;
        short = I.short;
        layout = layout_more m.held x (layout_from x v) I.layout;
        good = λ i f.
            good_later u V m.held (added m.held x) (stamps m) (stamps m) i (m.replica i)
            (added_grows m.held x) (grown_refl (stamps m))
            (silent_other x m.held i (λ e. both_ways (foreign u i) f (ap (foreign u) (sym e) ∙ p))) (I.good i f);
      }

  becomes_inv : (i : ℕ) (r : Replica) → Good u V m.held (stamps m) i r → Inv u V (apply m (becomes i r))
  becomes_inv i r G =
      record {
        few = I.few;
        short = I.short;
        layout = I.layout;
        good = placed_all (λ (j : ℕ) (x : Replica). foreign u j ≡ false → Good u V m.held (stamps m) j x) m.replica i r (λ _. G)
            (λ j n. I.good j);
      }

  -- replica i speaks: what is left to show is that it keeps what holds of it
  says_inv :
      (i : ℕ) (r : Replica) (x : Record) → x.signer ≡ i → keeps_layout x ≡ true → Good u V (added m.held x) (stamps m) i r
      → Inv u V (apply m (says i r x))
  says_inv i r x e v G =
      record {
        few = I.few;
        short = I.short;
        layout = layout_more m.held x (layout_from x v) I.layout;
        good = placed_all (λ (j : ℕ) (y : Replica). foreign u j ≡ false → Good u V (added m.held x) (stamps m) j y) m.replica i r (λ _. G)
            (λ j n f.
            good_later u V m.held (added m.held x) (stamps m) (stamps m) j (m.replica j) (added_grows m.held x) (grown_refl (stamps m))
            (silent_other x m.held j (λ t. n (sym e ∙ t))) (I.good j f));
      }

  pub slot_low : (l : ℕ) → Known (stamps m) l → l < 64
  slot_low l k = omega (arith, stamped_below m.stamped l k.0 k.1, I.short)

  -- an honest replica i, which is r, acts
  acts_inv : (i : ℕ) (a : Move) → foreign u i ≡ false → Acts u V m i (m.replica i) a → InLayout a → Inv u V (apply m a)
  acts_inv i a f (deliver w p d) v =
      let r = m.replica i in
      says_inv i (delivered r) _ refl v
      (deliver_good u V m.held (stamps m) i r (I.good i f) w _ (slot_low r.length (p r.length (omega arith))) p d refl)
  acts_inv i a f (find w e p) v =
      says_inv i (m.replica i) _ refl v
      (plain_good u V m.held (stamps m) i (m.replica i) (I.good i f) _ (omega arith) (λ k. absurd (omega arith)) (λ k. omega arith))
  acts_inv i a f (drop w e p) v =
      says_inv i (m.replica i) _ refl v
      (plain_good u V m.held (stamps m) i (m.replica i) (I.good i f) _ (omega arith) (λ k. (refl, refl)) (λ k. omega arith))
  acts_inv i a f (decide s d w O e q n) v =
      says_inv i (m.replica i) _ refl v
      (plain_good u V m.held (stamps m) i (m.replica i) (I.good i f) _ (omega arith) (λ k. absurd (omega arith)) (λ k. omega arith))
  acts_inv i a f (prepare s d w O e q n) v =
      says_inv i (m.replica i) _ refl v
      (prepare_good u V m.held (stamps m) i (m.replica i) (I.good i f) w s d I.layout O q n)
  acts_inv i a f (commit s d w O q) v =
      says_inv i (committed (m.replica i) s d) _ refl v
      (commit_good u V m.held (stamps m) i (m.replica i) (I.good i f) w s d (slot_low s O.known) O q)
  acts_inv i a f (settle s d w O q) v =
      becomes_inv i (settled (m.replica i) s d)
      (settle_good u V m.held (stamps m) i (m.replica i) (I.good i f) w s d (slot_low s O.known) O q)
  acts_inv i a f (reply s w p q z) v =
      says_inv i (m.replica i) _ refl v
      (reply_good u V m.held (stamps m) i (m.replica i) (I.good i f) w s _ p q z refl)
  acts_inv i a f (leave t p q) v =
      says_inv i (left (m.replica i) t) _ refl v
      (leave_good u V m.held (stamps m) i (m.replica i) (I.good i f) t _ _ p q (omega arith)
      (λ l e. (e, omega (arith, one_past_over (m.replica i).sealed l (I.good i f).bounds.small e))))
  acts_inv i a f (lead ps b w e C) v =
      says_inv i (m.replica i) _ refl v
      (plain_good u V m.held (stamps m) i (m.replica i) (I.good i f) _ (omega arith) (λ k. absurd (omega arith)) (λ k. absurd (omega arith)))
  acts_inv i a f (start ps b w k e C) v =
      says_inv i (started (m.replica i)) _ refl v
      (start_good u V m.held (stamps m) i (m.replica i) (I.good i f) (merge b ps).0 (merge b ps).1
      w k (merged u V m I (m.replica i).target ps b C (omega (arith, w))))
  acts_inv i a f (enter t n w p q Q) v =
      let E : Started u m.held t (n, w) = inr (omega arith, Q) in
      let b = started_bounds u V m I t (n, w) E in
      let r = member u I.few (said m.held (entry_by 0 t n w)) Q in
      becomes_inv i (entered t n w)
      (enter_good u V m.held (stamps m) i (m.replica i) (I.good i f) t n w p q
      (omega (arith, (I.layout (entry_by r.who t n w) r.says).view)) E b.0 b.1)

  pub allowed_inv : (a : Move) → Allowed u V m a → InLayout a → Inv u V (apply m a)
  allowed_inv a rest v = I
  allowed_inv a (stamp op p) v = stamping_inv op p
  allowed_inv a (forge x p) v = forges_inv x p v
  allowed_inv b (act i a f p) v = acts_inv i a f p v
