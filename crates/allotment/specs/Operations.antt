-- The operations of the allotment service.
--   account_of op           — the account in the fields of a GRANT or a DRAW
--   amount_of op            — the amount in them
--   allotment_operation op  — the operation that the 64 bits op stand for, if any
use Rattle.std.specs.Prelude.{ℕ, cond, ◌&&◌, Some, None, Option, ◌==◌}
use Rattle.service.specs.Operations.{field}
use Rattle.allotment.specs.declared.operation.Operation.{Operation}
use Rattle.allotment.specs.declared.operation.Operation.TheVariants.{Grant, Draw}

abbrev pub account_of : ℕ → ℕ
account_of op = field 58 4 op

abbrev pub amount_of : ℕ → ℕ
amount_of op = field 26 32 op

-- kind 1 is GRANT, kind 2 is DRAW, and the 26 lowest bits are 0
abbrev pub allotment_operation : ℕ → Option Operation
allotment_operation op =
    cond (field 62 2 op == 1 && field 0 26 op == 0) (Some (Grant (account_of op) (amount_of op)))
    (cond (field 62 2 op == 2 && field 0 26 op == 0) (Some (Draw (account_of op) (amount_of op))) None)
