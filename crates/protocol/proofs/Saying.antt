-- What is said after one more statement, and what stays true of all that was said.
--   Grows h h'  — the set h' has all that h has
use Rattle.std.proofs.Common.{◌≡◌, refl, ℕ, ◌⊎◌, sym, ap, ◌∙◌, subst, inl, inr, arith}
use Rattle.std.proofs.lemmas.Bool.{or_left, or_cases}
use Rattle.record.specs.Layout.{Layout}
use Rattle.record.specs.Statements.{prepare_by, view_change_by, entry_by}
use Rattle.record.specs.declared.Record.{Record}
use Rattle.record.proofs.Same.{same_decides}
use Rattle.record.specs.Same.{same}
use Rattle.register.specs.Sets.{Set, added}
use Rattle.quorum.specs.Quorums.{said}
use Rattle.protocol.specs.Setup.{Setup}
use Rattle.protocol.specs.Rules.{Said}
use Rattle.protocol.proofs.Quorums.{QuorumSaid}
use Rattle.protocol.proofs.Starting.{Started}
use Rattle.protocol.proofs.Counting.{many_mono}
use Rattle.protocol.proofs.Invariant.{Unique, Competing, Once}

-- the fields of equal statements
pub signer_of : {x y : Record} → x ≡ y → x.signer ≡ y.signer
signer_of e = ap (λ (z : Record). z.signer) e

pub view_of : {x y : Record} → x ≡ y → x.view ≡ y.view
view_of e = ap (λ (z : Record). z.view) e

pub slot_of : {x y : Record} → x ≡ y → x.slot ≡ y.slot
slot_of e = ap (λ (z : Record). z.slot) e

pub added_cases : (h : Set) (x y : Record) → Said (added h x) y → (x ≡ y) ⊎ Said h y
added_cases h x y e = elim (or_cases (h y) (same x y) e) [ inl p ↦ inr p | inr p ↦ inl ((same_decides x y).0 p) ]

-- a statement of another kind is none that was added
pub added_other : (h : Set) (x y : Record) → (x.kind ≡ y.kind → ⊥) → Said (added h x) y → Said h y
added_other h x y n e = elim (added_cases h x y e) [ inl t ↦ absurd (n (ap (λ (z : Record). z.kind) t)) | inr t ↦ t ]

abbrev pub Grows : Set → Set → Type 0
Grows h h' = (y : Record) → Said h y → Said h' y

pub added_grows : (h : Set) (x : Record) → Grows h (added h x)
added_grows h x y e = or_left (h y) (same x y) e

pub quorum_grows : (u : Setup) (h h' : Set) → Grows h h' → (x : Record) → QuorumSaid u h x → QuorumSaid u h' x
quorum_grows u h h' g x q = many_mono u (said h x) (said h' x) (λ i. g _) q

pub started_grows : (u : Setup) (h h' : Set) → Grows h h' → (v : ℕ) (b : ℕ × ℕ) → Started u h v b → Started u h' v b
started_grows u h h' g v b (inl e) = inl e
started_grows u h h' g v b (inr e) = inr (e.0, quorum_grows u h h' g (entry_by 0 v b.0 b.1) e.1)

with_fields :
    (y : Record) (k l d w n : ℕ) → y.kind ≡ k → y.last ≡ l → y.verdict ≡ d → y.word ≡ w → y.result ≡ n
    → y ≡ record { kind = k; signer = y.signer; view = y.view; last = l; slot = y.slot; verdict = d; word = w; result = n }
with_fields y k l d w n ek el ed ew en i =
    record {
      kind = ek i;
      signer = y.signer;
      view = y.view;
      last = el i;
      slot = y.slot;
      verdict = ed i;
      word = ew i;
      result = en i;
    }

-- a PREPARE that keeps the layout is made of its signer, view, slot and verdict
pub as_prepare : (y : Record) → Layout y → y.kind ≡ 5 → y ≡ prepare_by y.signer y.view y.slot y.verdict
as_prepare y l e =
    with_fields y 5 0 y.verdict 0 0 e (l.no_last (λ k. omega arith)) refl (l.no_word (omega arith) (omega arith)) (l.no_result (λ k. omega arith))

-- and a VIEW-CHANGE of its signer, view, last view, reach and word
pub as_view_change : (y : Record) → Layout y → y.kind ≡ 7 → y ≡ view_change_by y.signer y.view y.last y.slot y.word
as_view_change y l e =
    with_fields y 7 y.last 0 y.word 0 e refl (l.no_verdict_above (omega arith)) refl (l.no_result (λ k. omega arith))

competing_sym : (x y : Record) → Competing x y → Competing y x
competing_sym x y r =
    record {
      unique = subst Unique r.kinds r.unique;
      kinds = sym r.kinds;
      signers = sym r.signers;
      views = sym r.views;
      slots = λ e. sym (r.slots (r.kinds ∙ e));
    }

-- one content only, also after one more statement with which none competes
pub once_more : (h : Set) (i : ℕ) (x : Record) → ((y : Record) → Said h y → Competing x y → x ≡ y) → Once h i → Once (added h x) i
once_more h i x new old y z s e f r = elim (added_cases h x y e) [
  | inl p ↦ elim (added_cases h x z f) [
    | inl q ↦ sym p ∙ q
    | inr q ↦ sym p ∙ new z q (subst (λ (w : Record). Competing w z) (sym p) r)
  ]
  | inr p ↦ elim (added_cases h x z f) [
    | inl q ↦ sym (new y p (subst (λ (w : Record). Competing w y) (sym q) (competing_sym y z r))) ∙ q
    | inr q ↦ old y z s p q r
  ]
]
