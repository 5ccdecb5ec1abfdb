-- The fields of a curve are no wider than in its LOAD, so every answer has 64 bits. The trait's law takes its proof from here.
--   InBits c      — the offset and the slope of the curve c have the bits of a LOAD
--   rating_short  — whatever operations the service was fed since it was cleared, it answers 64 bits; proved
use Rattle.std.proofs.Common.{ℕ, ◌-◌, ◌*◌, ◌^◌, ◌<◌, Bool, true, false, cond, List, [], ◌∷◌, Option, Some, None, ◌==◌, ◌&&◌, nat_le, arith}
use Rattle.std.specs.List.{AllByRecursion}
use Rattle.std.proofs.lemmas.Nat.{mul-lt}
use Rattle.service.specs.Operations.{after, field}
use Rattle.rating.specs.Curves.{Curves, holds, flow, deciding, without}
use Rattle.rating.specs.Operations.{curve_of, stage_of, rating_operation}
use Rattle.rating.specs.Rating.{curves_after, flow_by, curves_answer, rating_next, rating_answer}
use Rattle.rating.specs.declared.curve.Curve.{Curve}
use Rattle.rating.specs.declared.operation.Operation.{Operation}
use Rattle.rating.specs.declared.operation.Operation.TheVariants.{Load, Read}

pub record InBits (c : Curve) : Type 0 where
  pub offset : c.offset < 2 ^ 20
  pub slope : c.slope < 2 ^ 11

abbrev AllInBits : Curves → Type 0
AllInBits cs = AllByRecursion InBits cs

-- the operations that bits can stand for
abbrev Fits : Option Operation → Type 0
Fits (Some (Load c)) = InBits c
Fits (Some (Read s)) = s < 2 ^ 14
Fits None = Unit {0}

kept_if : {A : Type 0} (P : A → Type 0) (b : Bool) (x y : A) → P x → P y → P (cond b x y)
kept_if P true x y p q = p
kept_if P false x y p q = q

operation_fits : (op : ℕ) → Fits (rating_operation op)
operation_fits op =
    let c = curve_of op in
    let s = stage_of op in
    let curve : InBits c = record { offset = omega arith; slope = omega arith } in
    let stage : s < 2 ^ 14 = omega arith in
    let is_read = field 62 2 op == 2 && field 0 48 op == 0 in
    kept_if Fits (field 62 2 op == 1 && nat_le c.low c.high) (Some (Load c)) (cond is_read (Some (Read s)) None) curve
    (kept_if Fits is_read (Some (Read s)) None stage tt)

without_in_bits : (n : ℕ) (cs : Curves) → AllInBits cs → AllInBits (without n cs)
without_in_bits n [] h = tt
without_in_bits n (c ∷ cs) h =
    kept_if AllInBits (c.number == n) cs (c ∷ without n cs) h.1 (h.0, without_in_bits n cs h.1)

after_in_bits : (cs : Curves) (o : Option Operation) → Fits o → AllInBits cs → AllInBits (curves_after cs o)
after_in_bits cs (Some (Load c)) f h = (f, without_in_bits c.number cs h)
after_in_bits cs (Some (Read s)) f h = h
after_in_bits cs None f h = h

all_in_bits : (cs : Curves) (ops : List ℕ) → AllInBits cs → AllInBits (after rating_next cs ops)
all_in_bits cs [] h = h
all_in_bits cs (op ∷ ops) h =
    all_in_bits (rating_next cs op) ops (after_in_bits cs (rating_operation op) (operation_fits op) h)

flow_short : (s : ℕ) (c : Curve) → s < 2 ^ 14 → InBits c → flow c s < 2 ^ 64
flow_short s c h b =
    let d = s - c.low in
    let rise : c.slope * d < 2 ^ 11 * 2 ^ 14 = mul-lt c.slope d (2 ^ 11) (2 ^ 14) b.slope (omega arith) in
    omega arith

flow_by_short : (s : ℕ) (cs : Curves) → s < 2 ^ 14 → AllInBits cs → flow_by s (deciding s cs) < 2 ^ 64
flow_by_short s [] h b = omega arith
flow_by_short s (c ∷ cs) h b =
    kept_if (λ o. flow_by s o < 2 ^ 64) (holds c s) (Some c) (deciding s cs) (flow_short s c h b.0) (flow_by_short s cs h b.1)

curves_answer_short : (cs : Curves) (o : Option Operation) → Fits o → AllInBits cs → curves_answer cs o < 2 ^ 64
curves_answer_short cs (Some (Load c)) f b = omega arith
curves_answer_short cs (Some (Read s)) f b = flow_by_short s cs f b
curves_answer_short cs None f b = omega arith

pub rating_short : (ops : List ℕ) (op : ℕ) → rating_answer (after rating_next [] ops) op < 2 ^ 64
rating_short ops op = curves_answer_short (after rating_next [] ops) (rating_operation op) (operation_fits op) (all_in_bits [] ops tt)
