-- Stores of records, of any type. Throughout, g tells which records a store has, how much room is left, and what appending does.
--   store_held g s             — the statements that the store s has
--   StoreEnters g old r a new  — r was entered into the store old, which is new now, and the answer was a: where r is added it is appended, else the store is as it was
use Rattle.std.specs.Prelude.{◌≡◌, MatchBool}
use Rattle.refusal.specs.Grounds.{Answer}
use Rattle.record.specs.declared.Record.{Record}
use Rattle.register.specs.Sets.{Set, adds, EnteredInto}
use Rattle.register.specs.Stored.{stored}
use Rattle.registers.specs.Places.{is_there}
use Rattle.registers.specs.declared.store.Store.{Ghosts}

module _ {S : Type 0} (g : Ghosts S) where
  abbrev pub store_held : S → Set
  store_held s = stored is_there (g.records s)

  pub record StoreEnters (old : S) (r : Record) (a : Answer) (new : S) : Type 0 where
    pub entered : EnteredInto (store_held old) (g.room old) r a (store_held new) (g.room new)
    pub store : MatchBool (adds (store_held old) (g.room old) r) (g.Appends old r new) (new ≡ old)
