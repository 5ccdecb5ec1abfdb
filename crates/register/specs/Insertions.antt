-- Entering a record r into a register of any type, and what that comes to by members and places. Throughout, the register was old and is new now, and g tells what a register of its type holds, how many places are free, and what its memory is.
--   memory_after g old r       — the memory after r is entered: where r is added, it is stored, else the memory is as it was
--   Enters g old r a new       — entering r answered a, and set, free places and memory are what that makes of them
--   InsertGranted g old r new  — entering r was granted: r is a member now; every member stayed one, nothing else became one, and a place was used exactly if r was no member
--   Inserted g old r a new     — a says whether r was new, where it is granted. Where it is refused, r was no member, and set and places are as they were
--   Inserts g old r a new      — the same, and the memory is what entering makes of it
use Rattle.std.specs.Prelude.{◌≡◌, ◌+◌, Bool, true, false, cond, not, ◌⊎◌, Ok, Err, Result}
use Rattle.std.specs.List.{fold}
use Rattle.refusal.specs.Grounds.{Answer}
use Rattle.refusal.specs.declared.Refusal.{Refusal}
use Rattle.record.specs.declared.Record.{Record}
use Rattle.register.specs.Sets.{EnteredInto, entering, addition}
use Rattle.register.specs.declared.Register.{Ghosts}

module _ {R : Type 0} (g : Ghosts R) (old : R) (r : Record) where
  abbrev pub memory_after : g.Memory
  memory_after = fold g.stores (g.memory old) (addition (g.held old) (g.free old) r)

  pub record Enters (a : Answer) (new : R) : Type 0 where
    pub entered : EnteredInto (g.held old) (g.free old) r a (g.held new) (g.free new)
    pub memory : g.memory new ≡ memory_after

  pub record InsertGranted (new : R) : Type 0 where
    pub member : g.held new r ≡ true
    pub stayed : (x : Record) → g.held old x ≡ true → g.held new x ≡ true
    pub no_other : (x : Record) → g.held new x ≡ true → (g.held old x ≡ true) ⊎ (x ≡ r)
    pub places : g.free new + cond (g.held old r) 0 1 ≡ g.free old

  abbrev pub Inserted : Result Bool Refusal → R → Type 0
  Inserted (Ok was_new) new = (was_new ≡ not (g.held old r)) × InsertGranted new
  Inserted (Err e) new =
      (g.held old r ≡ false)
      × (g.held new ≡ g.held old)
      × (g.free new ≡ g.free old)
      × (entering (g.held old) (g.free old) r ≡ Err e)

  pub record Inserts (a : Result Bool Refusal) (new : R) : Type 0 where
    pub inserted : Inserted a new
    pub memory : g.memory new ≡ memory_after
