-- The call open: f, the foreign mask, and an empty register.
--   open_grounds u b  — the grounds against opening a bench u, where b tells whether the register is empty
-- After a grant the state is `opened`.
use Rattle.std.specs.Prelude.{◌^◌, Bool, ◌&&◌, Ok, count_ones, nat_le, nat_lt}
use Rattle.refusal.specs.Grounds.{Answer, unless}
use Rattle.refusal.specs.declared.Ground.TheVariants.{FaultBound, ForeignMask, RegisterNotEmpty}
use Rattle.protocol.specs.Setup.{Setup, replicas}

abbrev pub open_grounds : Setup → Bool → Answer
open_grounds u b =
    unless (nat_le 1 u.f && nat_le u.f 5) FaultBound 0
    (unless (nat_lt u.mask (2 ^ replicas u) && nat_le (count_ones u.mask) u.f) ForeignMask 0
    (unless b RegisterNotEmpty 0 (Ok tt)))
