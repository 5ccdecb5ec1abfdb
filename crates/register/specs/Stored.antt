-- The statements stored in a list of places, whatever a place is.
--   stored m ys  — the set of the statements x that one of ys holds, where the test m x says whether a place holds x
use Rattle.std.specs.Prelude.{Bool, ◌&&◌, List}
use Rattle.std.specs.List.{list_any}
use Rattle.record.specs.Layout.{keeps_layout}
use Rattle.record.specs.declared.Record.{Record}
use Rattle.register.specs.Sets.{Set}

abbrev pub stored : {X : Type 0} → (Record → X → Bool) → List X → Set
stored m ys = λ x. keeps_layout x && list_any (m x) ys
