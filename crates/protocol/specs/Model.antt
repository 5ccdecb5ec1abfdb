-- A bench as the argument for safety sees it, without its storage, and how it moves.
--   Model         — the operations stamped, all that was said, and each replica by its number
--   stamps m      — the book of the operations stamped
--   placed f i r  — the replicas f, with r for replica i
--   Move          — what a call does to a model: nothing, it stamps an operation, a foreign replica's statement is entered, replica i becomes r, or replica i becomes r and says x
--   apply m a     — the model m after the move a
--   InLayout a    — the statement that the move a enters, if any, keeps the layout
use Rattle.std.specs.Prelude.{◌≡◌, ℕ, cond, true, List, [], ◌∷◌, ◌++◌, ◌==◌}
use Rattle.record.specs.Layout.{keeps_layout}
use Rattle.record.specs.declared.Record.{Record}
use Rattle.register.specs.Sets.{Set, added}
use Rattle.replica.specs.declared.Replica.{Replica}
use Rattle.protocol.specs.Service.{Book, book}

pub record Model : Type 0 where
  pub stamped : List ℕ
  pub held : Set
  pub replica : ℕ → Replica

abbrev pub stamps : Model → Book
stamps m = book m.stamped

abbrev pub placed : (ℕ → Replica) → ℕ → Replica → ℕ → Replica
placed f i r j = cond (i == j) r (f j)

pub data Move : Type 0 where
  rests : Move
  stamping : (operation : ℕ) → Move
  forges : (x : Record) → Move
  becomes : (i : ℕ) (r : Replica) → Move
  says : (i : ℕ) (r : Replica) (x : Record) → Move

abbrev pub apply : Model → Move → Model
apply m rests = m
apply m (stamping op) = record m { stamped = m.stamped ++ op ∷ [] }
apply m (forges x) = record m { held = added m.held x }
apply m (becomes i r) = record m { replica = placed m.replica i r }
apply m (says i r x) = record m { held = added m.held x; replica = placed m.replica i r }

abbrev pub InLayout : Move → Type 0
InLayout (forges x) = keeps_layout x ≡ true
InLayout (says i r x) = keeps_layout x ≡ true
InLayout a = Unit {0}
