-- The call no-op: whether a no-op is certified, that is, whether a quorum said COMMIT of no-op there. It changes nothing.
--   no_op_grounds x b v s  — the grounds, where the witness buffer has b bytes
use Rattle.std.specs.Prelude.{ℕ, ◌&&◌, Ok, nat_le}
use Rattle.refusal.specs.Grounds.{Answer, unless}
use Rattle.refusal.specs.declared.Ground.TheVariants.{BufferLength, ArgumentRange}
use Rattle.protocol.specs.Service.{is_stamped}
use Rattle.protocol.specs.State.{State}

abbrev pub no_op_grounds : State → (b v s : ℕ) → Answer
no_op_grounds x b v s =
    unless (nat_le 16 b) BufferLength 0
    (unless (nat_le v 63 && is_stamped x.stamped s) ArgumentRange 0 (Ok tt))
