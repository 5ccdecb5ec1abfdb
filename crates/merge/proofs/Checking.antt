-- What a grant tells of the picks.
use Rattle.std.proofs.Common.{◌≡◌, ℕ, zero, suc, ◌+◌, ◌<◌, Bool, true, false, eqb, List, [], ◌∷◌, length, get_or, take, is_ok, Ok, subst, inl, inr, arith}
use Rattle.std.specs.List.{IsDistinct}
use Rattle.std.proofs.lemmas.Map.Made.{AllPairs-from_IsDistinct}
use Rattle.std.proofs.ByRecursion.{All-map, all_from_every}
use Rattle.std.proofs.lemmas.Bool.{or_parts, eqb-true, eq-eqb, cases_eq}
use Rattle.std.proofs.lemmas.Bool.Decides.{nat_tests}
use Rattle.refusal.proofs.Granted.{unless_granted, both_granted}
use Rattle.refusal.specs.declared.Ground.{Ground}
use Rattle.refusal.specs.declared.Ground.TheVariants.{Picks, BaseNotCertified, StatementsMissing}
use Rattle.record.specs.declared.Record.{Record}
use Rattle.register.specs.Sets.{Set}
use Rattle.quorum.specs.declared.Membership.{Membership}
use Rattle.merge.specs.Merges.{top}
use Rattle.merge.specs.declared.view_change.ViewChange.{ViewChange}
use Rattle.merge.proofs.Prepares.{prepared_decides}
use Rattle.merge.specs.Checks.{first_fault, signs, fits, prepared, backed, certified, pick_grounds, base_grounds, backing_grounds, merge_grounds, Certified, signers, Picked, Checked}

-- where there is no first fault, each pick passes the test at its place j
passes_at : (g : Ground) (t : ℕ → Record → Bool) (k : ℕ) (ps : List Record) → is_ok (first_fault g t k ps) ≡ true → (i j : ℕ) → j ≡ k + i → (d : Record) → i < length ps → t j (get_or ps i d) ≡ true
passes_at g t k [] h i j e d l = absurd (omega arith)
passes_at g t k (p ∷ ps) h zero j e d l =
    let same : k ≡ j = omega arith in
    subst (λ (x : ℕ). t x p ≡ true) same (unless_granted (t k p) g k _ h).0
passes_at g t k (p ∷ ps) h (suc i) j e d l =
    passes_at g t (k + 1) ps (unless_granted (t k p) g k _ h).1 i j (omega arith) d (omega arith)

each_passes : (g : Ground) (t : ℕ → Record → Bool) (ps : List Record) → is_ok (first_fault g t 0 ps) ≡ true → (i : ℕ) (d : Record) → i < length ps → t i (get_or ps i d) ≡ true
each_passes g t ps h i = passes_at g t 0 ps h i i (omega arith)

-- picks of which none is signed by the signer of one before it
different_from : (ps : List Record) → ((i : ℕ) (d : Record) → i < length ps → signs (take i ps) (get_or ps i d).signer ≡ false) → IsDistinct eqb (signers ps)
unfolding IsDistinct
different_from [] h = tt
different_from (p ∷ ps) h =
    let parts = λ (i : ℕ) (d : Record) (l : i < length ps). or_parts (eqb p.signer (get_or ps i d).signer) _ (h (suc i) d (omega arith)) in (
      All-map (λ (j : ℕ). eqb p.signer j ≡ false) (λ (o : Record). o.signer) ps (all_from_every _ ps (λ i d _ l. (parts i d l).0)),
      different_from ps (λ i d l. (parts i d l).1),
    )

fresh : (v : ViewChange) (t : ℕ) (before : List Record) (p : Record) → fits v t before p ≡ true → signs before p.signer ≡ false
fresh v t before p h = grind (arith, nat_tests)

certified_from : (s : Set) (m : Membership) (t : ℕ) (b : ℕ × ℕ) → certified s m t b ≡ true → Certified s m t b
certified_from s m t b h = elim (cases_eq t 0) [
  | inl e ↦ inl (grind (arith, nat_tests))
  | inr e ↦ inr (grind (arith, nat_tests))
]

module _ (s : Set) (v : ViewChange) where
  picked_from : (t : ℕ) (before : List Record) (p : Record) → fits v t before p ≡ true → backed s v.members t p ≡ true → Picked s v t p
  picked_from t before p f b =
      record {
        kind = grind (arith, nat_tests);
        signer = grind (arith, nat_tests);
        view = grind (arith, nat_tests);
        in_register = grind (arith, nat_tests);
        reach = λ e. grind (arith, nat_tests);
        bits = λ e l lt h.
            let all : prepared s v.members t p.word ≡ true = grind (arith, nat_tests) in
            (prepared_decides s v.members t p.word 64).0 all l lt h;
      }

  pub checked_from : (ps : List Record) (b : ℕ × ℕ) → is_ok (merge_grounds s v ps b) ≡ true → Checked s v ps b
  checked_from ps b h =
      let t = top ps in
      let a = both_granted (pick_grounds v ps) _ h in
      let c = both_granted (base_grounds s v.members t b) (backing_grounds s v.members t ps) a.1 in
      let d = unless_granted (eqb (length ps) v.members.quorum) Picks 0 _ a.0 in
      let fit = each_passes Picks (λ k p. fits v t (take k ps) p) ps d.1 in
      let back = each_passes StatementsMissing (λ _ p. backed s v.members t p) ps c.1 in
      record {
        number = eqb-true (length ps) v.members.quorum d.0;
        different = AllPairs-from_IsDistinct (λ i j. (eqb-true i j, eq-eqb i j)) (signers ps) (different_from ps (λ i e l. fresh v t (take i ps) (get_or ps i e) (fit i e l)));
        each = all_from_every _ ps (λ i e _ l. picked_from t (take i ps) (get_or ps i e) (fit i e l) (back i e l));
        base = certified_from s v.members t b (unless_granted (certified s v.members t b) BaseNotCertified 0 (Ok tt) c.0).0;
      }
