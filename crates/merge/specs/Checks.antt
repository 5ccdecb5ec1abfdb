-- What picks must be for a merge, as the grounds that are tried and as the facts that a grant tells.
-- Throughout, s is the register's set, m the membership, and v the view change: its members, how many slots are stamped, and its target.
--   first_fault g t k ps      — refused on the ground g at the first place whose pick fails the test t; the first of ps stands at the place k
--   Computes g t              — what g says of a call's answer, to some picks and one more, is that it is the test t's
--   layout_grounds ps         — refused at the first pick that breaks the layout
--   signs ps i                — whether i is the signer of one of ps
--   fits v t before p         — p is a VIEW-CHANGE for v's target by one of its members that signs none of the picks before it; and, if its last is t, its reach is at most the number of stamped slots
--   prepared_below s m t w k  — for each bit l below k of the word w, a quorum said PREPARE of no-op for slot l in view t; shut
--   prepared s m t w          — the same for all 64 bits
--   backed s m t p            — p is in the register; and, if its last is t, its word is prepared in view t
--   certified s m t b         — as a test, whether view t starts from the base b: view 0 from length 0 and word 0, a later view from a line for which a quorum said ENTRY
--   pick_grounds v ps         — refused unless there are as many picks as a quorum, then at the first pick that does not fit
--   base_grounds s m t b      — refused unless view t starts from the base b
--   backing_grounds s m t ps  — refused at the first pick that is not backed
--   merge_grounds s v ps b    — the grounds against merging the picks ps over the base b, in order
--   Certified s m t b         — view t starts from the base b, as a fact
--   signers ps                — the signers of ps, in their order
--   Picked s v t p            — p is a good pick for the target where t is the greatest last
--   Checked s v ps b          — ps are good picks for the target over the base b
use Rattle.std.specs.Prelude.{◌≡◌, ℕ, zero, suc, ◌+◌, ◌<◌, ◌≤◌, Bool, true, cond, not, ◌&&◌, ◌||◌, ◌⊎◌, List, [], ◌∷◌, length, map, take, Ok, ◌==◌, nat_eq, nat_le, nat_lt, ◌≢◌, AllPairs}
use Rattle.std.specs.Borrow.{Bor}
use Rattle.std.specs.List.{AllByRecursion, list_any}
use Rattle.refusal.specs.Grounds.{Answer, unless, and_then}
use Rattle.refusal.specs.declared.Ground.{Ground}
use Rattle.refusal.specs.declared.Ground.TheVariants.{Layout, Picks, BaseNotCertified, StatementsMissing}
use Rattle.record.specs.Layout.{keeps_layout}
use Rattle.record.specs.Statements.{prepare_by, entry_by}
use Rattle.record.specs.declared.Record.{Record}
use Rattle.register.specs.Sets.{Set}
use Rattle.quorum.specs.Quorums.{quorum, Quorum}
use Rattle.quorum.specs.declared.Membership.{Membership}
use Rattle.replica.specs.Words.{bit}
use Rattle.merge.specs.Merges.{top}
use Rattle.merge.specs.declared.view_change.ViewChange.{ViewChange}

abbrev pub first_fault : Ground → (ℕ → Record → Bool) → ℕ → List Record → Answer
first_fault g t k [] = Ok tt
first_fault g t k (p ∷ ps) = unless (t k p) g k (first_fault g t (k + 1) ps)

abbrev pub Computes : (Bor (List Record) → Bor Record → Bool → Type 0) → (List Record → Record → Bool) → Type 0
Computes g t = (before : Bor (List Record)) (pick : Bor Record) (b : Bool) → g before pick b → b ≡ t before.now pick.now

abbrev pub layout_grounds : List Record → Answer
layout_grounds ps = first_fault Layout (λ _ p. keeps_layout p) 0 ps

abbrev pub signs : List Record → ℕ → Bool
signs ps i = list_any (λ p. nat_eq p.signer i) ps

abbrev pub fits : ViewChange → ℕ → List Record → Record → Bool
fits v t before p =
    (p.kind == 7)
    && nat_lt p.signer v.members.replicas
    && not (signs before p.signer)
    && p.view == v.target
    && (not (p.last == t) || nat_le p.slot v.stamped)

unfoldable pub prepared_below : Set → Membership → (t w k : ℕ) → Bool
prepared_below s m t w zero = true
prepared_below s m t w (suc k) =
    (not (bit w k) || quorum s m (prepare_by 0 t k 1)) && prepared_below s m t w k

abbrev pub prepared : Set → Membership → (t w : ℕ) → Bool
prepared s m t w = prepared_below s m t w 64

abbrev pub backed : Set → Membership → ℕ → Record → Bool
backed s m t p = s p && (not (p.last == t) || prepared s m t p.word)

abbrev pub certified : Set → Membership → ℕ → ℕ × ℕ → Bool
certified s m t b = cond (t == 0) (b.0 == 0 && b.1 == 0) (quorum s m (entry_by 0 t b.0 b.1))

abbrev pub pick_grounds : ViewChange → List Record → Answer
pick_grounds v ps =
    unless (length ps == v.members.quorum) Picks 0 (first_fault Picks (λ k p. fits v (top ps) (take k ps) p) 0 ps)

abbrev pub base_grounds : Set → Membership → ℕ → ℕ × ℕ → Answer
base_grounds s m t b = unless (certified s m t b) BaseNotCertified 0 (Ok tt)

abbrev pub backing_grounds : Set → Membership → ℕ → List Record → Answer
backing_grounds s m t ps = first_fault StatementsMissing (λ _ p. backed s m t p) 0 ps

abbrev pub merge_grounds : Set → ViewChange → List Record → ℕ × ℕ → Answer
merge_grounds s v ps b =
    and_then (pick_grounds v ps)
    (and_then (base_grounds s v.members (top ps) b) (backing_grounds s v.members (top ps) ps))

abbrev pub Certified : Set → Membership → ℕ → ℕ × ℕ → Type 0
Certified s m t b = ((t ≡ 0) × (b.0 ≡ 0) × (b.1 ≡ 0)) ⊎ ((0 < t) × Quorum s m (entry_by 0 t b.0 b.1))

abbrev pub signers : List Record → List ℕ
signers ps = map (λ p. p.signer) ps

pub record Picked (s : Set) (v : ViewChange) (t : ℕ) (p : Record) : Type 0 where
  pub kind : p.kind ≡ 7
  pub signer : p.signer < v.members.replicas
  pub view : p.view ≡ v.target
  pub in_register : s p ≡ true
  pub reach : p.last ≡ t → p.slot ≤ v.stamped
  -- each bit of the word is a no-op that a quorum prepared
  pub bits : p.last ≡ t → (l : ℕ) → l < 64 → bit p.word l ≡ true → Quorum s v.members (prepare_by 0 t l 1)

pub record Checked (s : Set) (v : ViewChange) (ps : List Record) (b : ℕ × ℕ) : Type 0 where
  pub number : length ps ≡ v.members.quorum
  pub different : AllPairs (λ i j. i ≢ j) (signers ps)
  pub each : AllByRecursion (Picked s v (top ps)) ps
  pub base : Certified s v.members (top ps) b
