-- The operations of the rating service.
--   curve_of op          — the curve in the fields of a LOAD
--   stage_of op          — the stage in the field of a READ
--   rating_operation op  — the operation that the 64 bits op stand for, if any
use Rattle.std.specs.Prelude.{ℕ, cond, ◌&&◌, Some, None, Option, ◌==◌, nat_le}
use Rattle.service.specs.Operations.{field}
use Rattle.rating.specs.declared.curve.Curve.{Curve}
use Rattle.rating.specs.declared.operation.Operation.{Operation}
use Rattle.rating.specs.declared.operation.Operation.TheVariants.{Load, Read}

abbrev pub curve_of : ℕ → Curve
curve_of op =
    record {
      number = field 59 3 op;
      low = field 45 14 op;
      high = field 31 14 op;
      offset = field 11 20 op;
      slope = field 0 11 op;
    }

abbrev pub stage_of : ℕ → ℕ
stage_of op = field 48 14 op

-- kind 1 is LOAD, and its low is not above its high; kind 2 is READ, and its 48 lowest bits are 0
abbrev pub rating_operation : ℕ → Option Operation
rating_operation op =
    cond (field 62 2 op == 1 && nat_le (curve_of op).low (curve_of op).high) (Some (Load (curve_of op)))
    (cond (field 62 2 op == 2 && field 0 48 op == 0) (Some (Read (stage_of op))) None)
