-- Modes of a replica, and the activities that each allows.
--   mode_of r      — at work while r's target is its view, leaving while its target is above it
--   allows m s     — whether a replica in the mode m may be at the activity s
--   in_mode r s a  — refused on the ground of the mode unless r's mode allows the activity s; then the result a
use Rattle.std.specs.Prelude.{Bool, true, false, cond, nat_lt, Result}
use Rattle.refusal.specs.Grounds.{unless}
use Rattle.refusal.specs.declared.Refusal.{Refusal}
use Rattle.refusal.specs.declared.Ground.TheVariants as ground
use Rattle.replica.specs.declared.Mode.{Mode}
use Rattle.replica.specs.declared.Mode.TheVariants.{AtWork, Leaving}
use Rattle.replica.specs.declared.Activity.{Activity}
use Rattle.replica.specs.declared.Activity.TheVariants.{Work, Start}
use Rattle.replica.specs.declared.Replica.{Replica}

abbrev pub mode_of : Replica → Mode
mode_of r = cond (nat_lt r.view r.target) Leaving AtWork

abbrev pub allows : Mode → Activity → Bool
allows AtWork Start = false
allows Leaving Work = false
allows m s = true

abbrev pub in_mode : {A : Type 0} → Replica → Activity → Result A Refusal → Result A Refusal
in_mode r s a = unless (allows (mode_of r) s) ground.Mode 0 a
