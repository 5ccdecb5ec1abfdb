-- The test of the layout tells whether its rules hold.
use Rattle.std.proofs.Common.{◌≡◌, Bool, true, false, cond, ◌&&◌, eqb, leb, Decides, refl, arith, pow_pos}
use Rattle.std.proofs.lemmas.Bool.{and_parts}
use Rattle.std.proofs.lemmas.Bool.Decides.{nat_tests}
use Rattle.record.specs.Layout.{Layout, keeps_layout, shared_rule, by_kind, reply_rule, gap_rule, verdict_rule, change_rule, line_rule}
use Rattle.record.specs.declared.Record.{Record}

-- what follows from the rule of each kind follows from the rule of r's kind
split : (P : Type 0) (b₁ b₂ b₃ b₄ b₅ x₁ x₂ x₃ x₄ x₅ : Bool) → (b₁ ≡ true → x₁ ≡ true → P) → (b₂ ≡ true → x₂ ≡ true → P) → (b₃ ≡ true → x₃ ≡ true → P) → (b₄ ≡ true → x₄ ≡ true → P) → (b₅ ≡ true → x₅ ≡ true → P) → cond b₁ x₁ (cond b₂ x₂ (cond b₃ x₃ (cond b₄ x₄ (cond b₅ x₅ false)))) ≡ true → P
split P true b₂ b₃ b₄ b₅ x₁ x₂ x₃ x₄ x₅ p₁ p₂ p₃ p₄ p₅ h = p₁ refl h
split P false true b₃ b₄ b₅ x₁ x₂ x₃ x₄ x₅ p₁ p₂ p₃ p₄ p₅ h = p₂ refl h
split P false false true b₄ b₅ x₁ x₂ x₃ x₄ x₅ p₁ p₂ p₃ p₄ p₅ h = p₃ refl h
split P false false false true b₅ x₁ x₂ x₃ x₄ x₅ p₁ p₂ p₃ p₄ p₅ h = p₄ refl h
split P false false false false true x₁ x₂ x₃ x₄ x₅ p₁ p₂ p₃ p₄ p₅ h = p₅ refl h
split P false false false false false x₁ x₂ x₃ x₄ x₅ p₁ p₂ p₃ p₄ p₅ h = grind arith

module _ (r : Record) (shared : shared_rule r ≡ true) where
  from_reply : eqb r.kind 1 ≡ true → reply_rule r ≡ true → Layout r
  from_reply k a = grind (arith, nat_tests)

  from_gap : (leb 2 r.kind && leb r.kind 3) ≡ true → gap_rule r ≡ true → Layout r
  from_gap k a = let p = pow_pos r.slot in grind (arith, nat_tests)

  from_verdict : (leb 4 r.kind && leb r.kind 6) ≡ true → verdict_rule r ≡ true → Layout r
  from_verdict k a = let p = pow_pos r.slot in grind (arith, nat_tests)

  from_change : eqb r.kind 7 ≡ true → change_rule r ≡ true → Layout r
  from_change k a = grind (arith, nat_tests)

  from_line : (leb 8 r.kind && leb r.kind 9) ≡ true → line_rule r ≡ true → Layout r
  from_line k a = grind (arith, nat_tests)

pub layout_from : (r : Record) → keeps_layout r ≡ true → Layout r
unfolding keeps_layout
layout_from r h =
    let p = and_parts (shared_rule r) (by_kind r) h in
    split (Layout r) (eqb r.kind 1) (leb 2 r.kind && leb r.kind 3) (leb 4 r.kind && leb r.kind 6) (eqb r.kind 7) (leb 8 r.kind && leb r.kind 9) (reply_rule r) (gap_rule r) (verdict_rule r) (change_rule r) (line_rule r) (from_reply r p.0) (from_gap r p.0) (from_verdict r p.0) (from_change r p.0) (from_line r p.0) p.1

pub layout_to : (r : Record) → Layout r → keeps_layout r ≡ true
unfolding keeps_layout
layout_to r l = grind (arith, nat_tests)

pub layout_decides : (r : Record) → Decides (keeps_layout r) (Layout r)
layout_decides r = (layout_from r, layout_to r)
