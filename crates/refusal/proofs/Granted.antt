-- What a grant tells of the answers that it is made of.
use Rattle.std.proofs.Common.{◌≡◌, ℕ, Bool, true, false, is_ok, Ok, Err, refl}
use Rattle.std.proofs.lemmas.Bool.{both_ways}
use Rattle.refusal.specs.Grounds.{Answer, unless, and_then}
use Rattle.refusal.specs.declared.Ground.{Ground}

pub unless_granted : (t : Bool) (g : Ground) (p : ℕ) (a : Answer) → is_ok (unless t g p a) ≡ true → (t ≡ true) × (is_ok a ≡ true)
unless_granted true g p a h = (refl, h)
unless_granted false g p a h = absurd (both_ways false refl h)

pub both_granted : (a b : Answer) → is_ok (and_then a b) ≡ true → (is_ok a ≡ true) × (is_ok b ≡ true)
both_granted (Ok _) b h = (refl, h)
both_granted (Err e) b h = absurd (both_ways false refl h)
