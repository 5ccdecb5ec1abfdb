-- The call answer: whether an answer is certified, that is, whether a quorum said that REPLY. It changes nothing.
--   answer_grounds x b v s w  — the grounds, where the witness buffer has b bytes
use Rattle.std.specs.Prelude.{ℕ, ◌^◌, ◌&&◌, Ok, nat_le, nat_lt}
use Rattle.refusal.specs.Grounds.{Answer, unless}
use Rattle.refusal.specs.declared.Ground.TheVariants.{BufferLength, ArgumentRange}
use Rattle.protocol.specs.Service.{is_stamped}
use Rattle.protocol.specs.State.{State}

abbrev pub answer_grounds : State → (b v s w : ℕ) → Answer
answer_grounds x b v s w =
    unless (nat_le 16 b) BufferLength 0
    (unless (nat_le v 63 && is_stamped x.stamped s && nat_lt w (2 ^ s)) ArgumentRange 0 (Ok tt))
