-- Places that are records.
--   is_there x y    — the place y holds x
--   look_alike x y  — x and y agree in signer, slot and result
--   in_places n ys  — the statements in the first n of the places ys
--   room n ys       — how many of ys come after the first n
use Rattle.std.specs.Prelude.{ℕ, ◌-◌, Bool, ◌&&◌, ◌==◌, List, length, take}
use Rattle.record.specs.Same.{same}
use Rattle.record.specs.declared.Record.{Record}
use Rattle.register.specs.Sets.{Set}
use Rattle.register.specs.Stored.{stored}

abbrev pub is_there : Record → Record → Bool
is_there x y = same y x

abbrev pub look_alike : Record → Record → Bool
look_alike x y = x.signer == y.signer && x.slot == y.slot && x.result == y.result

abbrev pub in_places : ℕ → List Record → Set
in_places n ys = stored is_there (take n ys)

abbrev pub room : ℕ → List Record → ℕ
room n ys = length ys - n
