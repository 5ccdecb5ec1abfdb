-- The grounds on which a call is refused, and refusals.
--   ground_number g  — the number of the ground g
--   refused g p      — the refusal on the ground g at the place p
--   text r           — how the refusal r is printed
--   Answer           — what a call answers that hands nothing back: a grant or a refusal
--   unless t g p a   — refused on the ground g at the place p unless the test t passes; then the result a
--   and_then a b     — the result b where a is a grant, else a's refusal, as `?` has it
use Rattle.std.specs.Prelude.{ℕ, Bool, cond, List, ◌++◌, Ok, Err, codes, decimal, Result}
use Rattle.refusal.specs.declared.Ground.{Ground}
use Rattle.refusal.specs.declared.Ground.TheVariants.{BufferLength, Layout, FaultBound, ForeignMask, RegisterNotEmpty, ReplicaNumber, Honesty, ArgumentRange, Mode, NotLeader, SlotOrView, Barred, Picks, BaseNotCertified, StatementsMissing, ViewStartMissing, SlotsExhausted, RegisterFull}
use Rattle.refusal.specs.declared.Refusal.{Refusal}

abbrev pub ground_number : Ground → ℕ
ground_number BufferLength = 1
ground_number Layout = 2
ground_number FaultBound = 3
ground_number ForeignMask = 4
ground_number RegisterNotEmpty = 5
ground_number ReplicaNumber = 6
ground_number Honesty = 7
ground_number ArgumentRange = 8
ground_number Mode = 9
ground_number NotLeader = 10
ground_number SlotOrView = 11
ground_number Barred = 12
ground_number Picks = 13
ground_number BaseNotCertified = 14
ground_number StatementsMissing = 15
ground_number ViewStartMissing = 16
ground_number SlotsExhausted = 17
ground_number RegisterFull = 18

abbrev pub refused : (ground : Ground) (place : ℕ) → Refusal
refused g p = record { ground = g; place = p }

abbrev pub text : Refusal → List ℕ
text r = codes "refused on ground " ++ (decimal (ground_number r.ground) ++ (codes " at place " ++ decimal r.place))

abbrev pub Answer : Type 0
Answer = Result (Unit {0}) Refusal

abbrev pub unless : {A : Type 0} → Bool → Ground → ℕ → Result A Refusal → Result A Refusal
unless t g p a = cond t a (Err (refused g p))

abbrev pub and_then : {A : Type 0} → Answer → Result A Refusal → Result A Refusal
and_then (Ok _) b = b
and_then (Err e) b = Err e
