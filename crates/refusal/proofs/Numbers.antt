-- Grounds are told apart by their numbers.
use Rattle.std.proofs.Common.{◌≡◌, rules}
use Rattle.refusal.specs.Grounds.{ground_number}
use Rattle.refusal.specs.declared.Ground.{Ground}

pub same_ground : (g h : Ground) → ground_number g ≡ ground_number h → g ≡ h
same_ground g h e = search rules
