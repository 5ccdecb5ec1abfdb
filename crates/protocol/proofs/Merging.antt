-- The merge of good picks is a merge as the invariant has it.
--   Pick u m v t n w p  — all that a merge with the line n, w for view v, from view t, needs to know of its pick p
use Rattle.std.proofs.Common.{◌≡◌, ℕ, ◌^◌, ◌<◌, ◌≤◌, true, ◌⊎◌, List, [], ◌∷◌, length, sym, ap, ◌∙◌, subst, inl, inr, arith, pow_pos, pow_mono, lt_of_lt_of_le}
use Rattle.std.proofs.ByRecursion.{All-weaker, All-map}
use Rattle.std.proofs.lemmas.Bool.{both_ways, cases_lt, cases_Bool}
use Rattle.std.proofs.lemmas.List.{length-map}
use Rattle.std.specs.List.{AllByRecursion}
use Rattle.record.specs.Layout.{Layout}
use Rattle.record.specs.Statements.{prepare_by, view_change_by, entry_by}
use Rattle.record.specs.declared.Record.{Record}
use Rattle.quorum.specs.Quorums.{said}
use Rattle.replica.specs.Words.{bit}
use Rattle.replica.proofs.Words.{bit_above}
use Rattle.merge.specs.Merges.{top, merged_length, merged_word, merge}
use Rattle.merge.specs.Checks.{signers, Picked}
use Rattle.merge.proofs.Lines.{top_over, top_below, length_base, length_picks, length_least, word_below, word_base, word_picks, word_from}
use Rattle.protocol.specs.Setup.{Setup, replicas, change_to}
use Rattle.protocol.specs.Service.{Service, Known}
use Rattle.protocol.specs.Model.{Model, stamps}
use Rattle.protocol.specs.Rules.{Said, Merging}
use Rattle.protocol.proofs.Quorums.{QuorumSaid}
use Rattle.protocol.proofs.Starting.{Started}
use Rattle.protocol.proofs.Books.{known_below, all_stamped}
use Rattle.protocol.proofs.Counting.{member}
use Rattle.protocol.proofs.Signing.{among, among_passes, count_among}
use Rattle.protocol.proofs.Saying.{as_view_change}
use Rattle.protocol.proofs.Invariant.{Inv, Merged, Covers}
use Rattle.protocol.proofs.Agreement.{started_merged, prepare_from}

record Pick (u : Setup) (m : Model) (v t n w : ℕ) (p : Record) : Type 0 where
  picked : Picked m.held (change_to u (length m.stamped) v) t p
  layout : Layout p
  under : p.last ≤ t
  within : p.last ≡ t → p.slot ≤ n
  bits : p.last ≡ t → (l : ℕ) → bit p.word l ≡ true → bit w l ≡ true

module _ (u : Setup) (V : Service) (m : Model) (I : Inv u V m) where
  -- what a view starts from lies in the slots that are stamped
  pub started_bounds : (v : ℕ) (b : ℕ × ℕ) → Started u m.held v b → ((l : ℕ) → l < b.0 → Known (stamps m) l) × (b.1 < 2 ^ b.0)
  started_bounds v b (inl p) = (λ l q. absurd (omega (arith, p.1)), omega (arith, p.2, pow_pos b.0))
  started_bounds v b (inr p) =
      let M = started_merged u V m I v b p.0 (inr p) in
      let r = member u I.few (said m.held (entry_by 0 v b.0 b.1)) p.1 in
      (M.known, (I.layout (entry_by r.who v b.0 b.1) r.says).word)

  module _ (v : ℕ) (ps : List Record) (b : ℕ × ℕ) (C : Merging u m v ps b) where
    n : ℕ
    n = merged_length (top ps) b.0 ps

    w : ℕ
    w = merged_word (top ps) b.1 ps

    each : AllByRecursion (Pick u m v (top ps) n w) ps
    unfolding n w
    each = picks ps C.each (top_over ps) (length_picks (top ps) b.0 ps) (word_picks (top ps) b.1 ps)
      where
        picks : (qs : List Record) → AllByRecursion (Picked m.held (change_to u (length m.stamped) v) (top ps)) qs
            → AllByRecursion (λ p. p.last ≤ top ps) qs → AllByRecursion (λ p. p.last ≡ top ps → p.slot ≤ n) qs
            → AllByRecursion (λ p. p.last ≡ top ps → (l : ℕ) → bit p.word l ≡ true → bit w l ≡ true) qs
            → AllByRecursion (Pick u m v (top ps) n w) qs
        picks [] a c d e = tt
        picks (q ∷ qs) a c d e = (
          record { picked = a.0; layout = I.layout q a.0.in_register; under = c.0; within = d.0; bits = e.0 },
          picks qs a.1 c.1 d.1 e.1,
        )

    -- the merged word keeps the merged length
    pub merge_small : (merge b ps).1 < 2 ^ (merge b ps).0
    unfolding n w
    merge_small =
        word_below (top ps) b.1 n ps (lt_of_lt_of_le (started_bounds (top ps) b C.base).1 (pow_mono (length_base (top ps) b.0 ps)))
        (All-weaker _ _ (λ p P e. lt_of_lt_of_le P.layout.word (pow_mono (P.within e))) ps each)

    -- a no-op of the merge is one of the base, or a quorum prepared it
    from : (l : ℕ) → bit w l ≡ true → (bit b.1 l ≡ true) ⊎ QuorumSaid u m.held (prepare_by 0 (top ps) l 1)
    unfolding w
    from l = word_from (top ps) b.1 l _ ps (All-weaker _ _ (λ p P e h. P.picked.bits e l (low p P h) h) ps each)
      where
        low : (p : Record) → Pick u m v (top ps) n w p → bit p.word l ≡ true → l < 64
        low p P h = elim (cases_lt l 64) [
          | inl k ↦ k
          | inr k ↦ absurd (both_ways (bit p.word l) (bit_above p.slot l p.word P.layout.word (omega (arith, P.layout.slot_field))) h)
        ]

    below_word : (l : ℕ) → l < b.0 → bit w l ≡ bit b.1 l
    unfolding w
    below_word l q = elim (cases_Bool (bit w l)) [
      | inl t ↦ elim (from l t) [
        | inl y ↦ t ∙ sym y
        | inr F ↦ absurd (omega (arith, prepare_from u V m I (top ps) l 1 b F C.base))
      ]
      | inr t ↦ elim (cases_Bool (bit b.1 l)) [
        | inl y ↦ absurd (both_ways (bit w l) t (word_base (top ps) b.1 l ps y))
        | inr y ↦ t ∙ sym y
      ]
    ]

    -- all slots of the merge are stamped
    pub merge_stamped : (merge b ps).0 ≤ length m.stamped
    unfolding n
    merge_stamped = length_least (top ps) b.0 (length m.stamped) ps base (All-weaker _ _ (λ p P. P.picked.reach) ps each)
      where
        base : b.0 ≤ length m.stamped
        base = all_stamped m.stamped b.0 (started_bounds (top ps) b C.base).0

    covering : (p : Record) → Pick u m v (top ps) n w p → Covers m.held v (top ps) n w p.signer
    covering p P =
        record {
          last = p.last;
          reach = p.slot;
          word = p.word;
          said =
              subst (Said m.held)
              (as_view_change p P.layout P.picked.kind ∙ ap (λ (t : ℕ). view_change_by p.signer t p.last p.slot p.word) P.picked.view)
              P.picked.in_register;
          under = P.under;
          within = P.within;
          bits = P.bits;
        }

    pub merged : 0 < v → Merged u m.held (stamps m) v (merge b ps).0 (merge b ps).1
    unfolding n w
    merged pos =
        let covering_all : AllByRecursion (λ j. Covers m.held v (top ps) n w j) (signers ps) =
        All-map (λ j. Covers m.held v (top ps) n w j) (λ (p : Record). p.signer) ps (All-weaker _ _ covering ps each) in
        let low : AllByRecursion (λ j. j < replicas u) (signers ps) =
        All-map (λ j. j < replicas u) (λ (p : Record). p.signer) ps (All-weaker _ _ (λ p P. P.picked.signer) ps each) in
        let counted = count_among (replicas u) (signers ps) C.different low in
        record {
          top = top ps;
          base = b.0;
          base_word = b.1;
          older = top_below v ps pos (All-weaker _ _ (λ p P. omega (arith, P.layout.last P.picked.kind, P.picked.view)) ps each);
          started = C.base;
          order = length_base (top ps) b.0 ps;
          known = λ l q. known_below m.stamped l (omega (arith, merge_stamped));
          below = below_word;
          above = λ l q t. elim (from l t) [
            | inl y ↦ absurd (both_ways (bit b.1 l) (bit_above b.0 l b.1 (started_bounds (top ps) b C.base).1 q) y)
            | inr F ↦ F
          ];
          signs = among (signers ps);
          many = omega (arith, C.number, counted, length-map ps (λ (p : Record). p.signer));
          covers = λ j q e. among_passes _ (signers ps) covering_all j e;
        }
