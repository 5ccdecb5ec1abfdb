-- What the rating service means. Its state is the list of its curves, the one loaded last first.
--   curves_of s         — the state that the service s is in
--   flow_by s c         — the answer to a READ at the stage s, where c is the curve that decides, if any
--   curves_after cs o   — the curves after the operation o
--   curves_answer cs o  — the answer to the operation o
--   rating_next         — the curves after 64 bits
--   rating_answer       — the answer to 64 bits
use Rattle.std.specs.Prelude.{ℕ, Some, None, Option}
use Rattle.service.specs.Operations.{out_of_range, malformed}
use Rattle.rating.specs.Curves.{Curves, flow, deciding, loaded}
use Rattle.rating.specs.Operations.{rating_operation}
use Rattle.rating.specs.declared.curve.Curve.{Curve}
use Rattle.rating.specs.declared.operation.Operation.{Operation}
use Rattle.rating.specs.declared.operation.Operation.TheVariants.{Load, Read}
use Rattle.rating.specs.declared.state.Rating.{Rating}

abbrev pub curves_of : Rating → Curves
curves_of s = s.curves.items

abbrev pub curves_after : Curves → Option Operation → Curves
curves_after cs (Some (Load c)) = loaded c cs
curves_after cs (Some (Read s)) = cs
curves_after cs None = cs

abbrev pub flow_by : ℕ → Option Curve → ℕ
flow_by s (Some c) = flow c s
flow_by s None = out_of_range

abbrev pub curves_answer : Curves → Option Operation → ℕ
curves_answer cs (Some (Load c)) = 0
curves_answer cs (Some (Read s)) = flow_by s (deciding s cs)
curves_answer cs None = malformed

abbrev pub rating_next : Curves → ℕ → Curves
rating_next cs op = curves_after cs (rating_operation op)

abbrev pub rating_answer : Curves → ℕ → ℕ
rating_answer cs op = curves_answer cs (rating_operation op)
