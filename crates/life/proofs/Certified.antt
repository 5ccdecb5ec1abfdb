-- A certificate call that was lent the first bytes of sixteen zeros is made as the rules have it.
--   zeros     — the bytes of a buffer before a call
--   Blank ws  — the bytes ws are all 0
use Rattle.std.proofs.Common.{◌≡◌, ℕ, ◌+◌, ◌-◌, ◌<◌, ◌≤◌, true, false, Ok, Err, Result, Bool, List, ◌++◌, length, length-append, get_or, take, drop, replicate, min, nat_le, refl, sym, ap, ◌∙◌, subst, inl, inr, arith}
use Rattle.std.specs.List.{fold}
use Rattle.std.proofs.lemmas.Bool.{cases_lt}
use Rattle.std.proofs.lemmas.Bool.Decides.{nat_tests}
use Rattle.std.proofs.lemmas.List.{get_or-take, get_or-drop, get_or_append_left, get_or-append_right, get_or_past, get_or-replicate, length-take, length-take-le, append_assoc}
use Rattle.refusal.specs.Grounds.{Answer, unless}
use Rattle.refusal.specs.declared.Ground.TheVariants.{BufferLength}
use Rattle.refusal.specs.declared.Refusal.{Refusal}
use Rattle.quorum.specs.Quorums.{said, Witnesses}
use Rattle.quorum.specs.declared.Membership.{Membership}
use Rattle.protocol.specs.Setup.{members}
use Rattle.protocol.specs.State.{addition_to}
use Rattle.protocol.specs.Call as rules
use Rattle.service.specs.declared.Service as service
use Rattle.register.specs.declared.Register as register
use Rattle.bench.specs.Setups.{setup_of}
use Rattle.bench.specs.States.{state_of, meaning_of}
use Rattle.bench.specs.Certificates.{Written, Certifies, asked_outcome}
use Rattle.bench.specs.declared.open.Bench.{Bench}
use Rattle.life.specs.Calls.{without_witnesses, certificate_outcome}
use Rattle.life.specs.Making.{Backed, Makes}
use Rattle.life.specs.declared.call.Outcome.{Outcome}
use Rattle.life.specs.declared.call.Outcome.TheVariants.{Yes}

abbrev zeros : List ℕ
zeros = replicate 16 0

record Blank (ws : List ℕ) : Type 0 where
  each : (k : ℕ) → ◌≡◌ {A = ℕ} (get_or ws k 0) 0

blank_zeros : Blank zeros
blank_zeros =
    record {
      each =
          λ k. elim (cases_lt k 16) [
            | inl l ↦ get_or-replicate 16 k 0 0 l
            | inr l ↦ get_or_past zeros k 0 l
          ];
    }

blank_take : (m : ℕ) (ws : List ℕ) → Blank ws → Blank (take m ws)
blank_take m ws b =
    record {
      each =
          λ k. elim (cases_lt k m) [
            | inl l ↦ get_or-take m ws k 0 l ∙ b.each k
            | inr l ↦ get_or_past (take m ws) k 0 (omega (arith, length-take m ws))
          ];
    }

blank_drop : (m : ℕ) (ws : List ℕ) → Blank ws → Blank (drop m ws)
blank_drop m ws b = record { each = λ k. get_or-drop m ws k 0 ∙ b.each (m + k) }

blank_append : (vs ws : List ℕ) → Blank vs → Blank ws → Blank (vs ++ ws)
blank_append vs ws a b =
    record {
      each =
          λ k. elim (cases_lt k (length vs)) [
            | inl l ↦ get_or_append_left vs ws 0 k l ∙ a.each k
            | inr l ↦ get_or-append_right vs ws (length vs) k 0 refl l ∙ b.each (k - length vs)
          ];
    }

module _ (k : Membership) (p : ℕ → Bool) where
  -- the first bytes of witnesses, a quorum of them, and zeros after them, are witnesses too
  witnesses_blank :
      (found ws : List ℕ) → k.quorum ≤ length found → Witnesses k.replicas k.quorum p found → Blank ws
      → Witnesses k.replicas k.quorum p (take k.quorum found ++ ws)
  witnesses_blank found ws h W b =
      let q = k.quorum in
      let size = length-take-le q found h in
      let same : (j : ℕ) → j < q → get_or found j 0 ≡ get_or (take q found ++ ws) j 0 =
      λ j l. sym (get_or_append_left (take q found) ws 0 j (omega (arith, size)) ∙ get_or-take q found j 0 l) in
      record {
        below = λ j l. subst (λ (i : ℕ). i < k.replicas) (same j l) (W.below j l);
        pass = λ j l. ap p (sym (same j l)) ∙ W.pass j l;
        different = λ i j l m e. W.different i j l m (same i (omega arith) ∙ e ∙ sym (same j m));
        others = λ j l. get_or-append_right (take q found) ws q j 0 size l ∙ b.each (j - q);
      }

  -- where the first m zeros were lent, what was written there and the rest of the zeros are witnesses
  backed_lent : (m : ℕ) (c : List ℕ) → Written k p (take m zeros) c → Backed k p (c ++ drop m zeros)
  backed_lent m c W =
      let q = k.quorum in
      let rest = drop q (take m zeros) in
      let joined : c ++ drop m zeros ≡ take q W.found ++ (rest ++ drop m zeros) =
      ap (λ (ws : List ℕ). ws ++ drop m zeros) W.bytes ∙ append_assoc (take q W.found) rest (drop m zeros) in
      subst (Backed k p) (sym joined) (
        omega (arith, length-take-le q W.found W.enough, length-append (take q W.found) (rest ++ drop m zeros)),
        witnesses_blank W.found (rest ++ drop m zeros) W.enough W.witnesses
            (blank_append rest (drop m zeros) (blank_drop q (take m zeros) (blank_take m zeros blank_zeros))
            (blank_drop m zeros blank_zeros)),
      )

told_of_certificate : (a : Result Bool Refusal) (w : List ℕ) → without_witnesses (certificate_outcome a w) ≡ asked_outcome a
told_of_certificate (Ok true) w = refl
told_of_certificate (Ok false) w = refl
told_of_certificate (Err e) w = refl

yes_of_certificate : (a : Result Bool Refusal) (w v : List ℕ) → certificate_outcome a w ≡ Yes v → (a ≡ Ok true) × (w ≡ v)
yes_of_certificate (Ok true) w v e = (refl, cc)
yes_of_certificate (Ok false) w v e = cc
yes_of_certificate (Err f) w v e = cc

-- sixteen bytes are lent exactly where there is room for sixteen
pub room_lent : (room m : ℕ) → m ≡ min room 16 → nat_le 16 (length (take m zeros)) ≡ nat_le 16 room
room_lent room m e = let s : length (take m zeros) ≡ min m 16 = length-take m zeros in grind (arith, nat_tests)

-- the call c, which offers the first m zeros, asks for what the call d asks for, which offers this room
pub makes_certificate :
    {R S : Type 0} (g : register.Ghosts R) (h : service.Ghosts S) (z : Bench R S) (c d : rules.Call) (room m : ℕ)
    (own : Answer) (certified : Bool) (a : Result Bool Refusal) (ws : List ℕ) (o : Outcome)
    → Certifies g h z c (take m zeros) a ws → m ≡ min room 16 → o ≡ certificate_outcome a (ws ++ drop m zeros)
    → meaning_of g h z c ≡ rules.asking (state_of g z) (unless (nat_le 16 (length (take m zeros))) BufferLength 0 own) certified
    → meaning_of g h z d ≡ rules.asking (state_of g z) (unless (nat_le 16 room) BufferLength 0 own) certified
    → rules.asks_for d ≡ rules.asks_for c → Makes g h z d o z
makes_certificate g h z c d room m own certified a ws o C e f offers asks same =
    let x = state_of g z in
    let lent : meaning_of g h z c ≡ meaning_of g h z d =
    offers ∙ ap (λ (t : Bool). rules.asking x (unless t BufferLength 0 own) certified) (room_lent room m e) ∙ sym asks in
    record {
      outcome =
          ap without_witnesses f
          ∙ told_of_certificate a (ws ++ drop m zeros)
          ∙ C.outcome
          ∙ ap (λ (y : rules.Meaning). y.outcome) lent;
      after = sym (ap (λ (y : rules.Meaning). y.after) asks);
      memory = sym (ap (λ (y : rules.Meaning). fold g.stores (g.memory z.register.now) (addition_to x y.enters)) asks);
      witnesses =
          λ w r y q. let s = yes_of_certificate a (ws ++ drop m zeros) w (sym f ∙ y) in
          let passes = said x.held r in
          subst (Backed (members (setup_of z.setup)) passes) s.1
          (backed_lent (members (setup_of z.setup)) passes m ws (C.yes r (sym same ∙ q) s.0));
      keeps = record { setup = refl; register = refl; service = refl; kind = refl };
    }
