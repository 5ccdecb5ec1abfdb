-- The spare sheet: a register with places of its own, laid over another. Throughout, g tells what a register of the lower one's type holds, how many places are free, and what its memory is.
--   Sheet                   — the records in the used places of a sheet, in order
--   sheet_held t            — the statements in the used places of the sheet t
--   sheet_free t            — how many of the 16 places of t are not used
--   sheet_after t r         — t after r is entered: a new statement stands in its next place, all else is as it was
--   together s t            — the members of s and those of t
--   spare_held g s          — the statements that the register with a sheet s holds
--   spare_free g s          — how many free places s has
--   SheetMemory M           — the memory of a register with a sheet: the memory M below, the free places there, and the records of the sheet
--   spare_memory g s        — the memory of s
--   spare_stores g m r      — the memory m, with r: below while a place is free there, else in the sheet's next place
--   BelowFirst g old r new  — how r was entered into old, which is new now. What the sheet holds is not entered below; what the register below grants is not kept in the sheet
use Rattle.std.specs.Prelude.{◌≡◌, ℕ, ◌+◌, ◌-◌, cond, ◌||◌, List, [], ◌∷◌, ◌++◌, ◌==◌, is_ok}
use Rattle.arrayvec.specs.ArrayVec.{ArrayVec, array_vec_len}
use Rattle.record.specs.declared.Record.{Record}
use Rattle.register.specs.Sets.{Set, adds, entering, held_after, free_after}
use Rattle.register.specs.Stored.{stored}
use Rattle.register.specs.declared.Register.{Ghosts}
use Rattle.registers.specs.Places.{is_there}
use Rattle.registers.specs.declared.sheet.SpareSheet.{SpareSheet}

abbrev pub Sheet : Type 0
Sheet = ArrayVec Record

abbrev pub sheet_held : Sheet → Set
sheet_held t = stored is_there t.items

abbrev pub sheet_free : Sheet → ℕ
sheet_free t = 16 - array_vec_len t

abbrev pub sheet_after : Sheet → Record → Sheet
sheet_after t r = record { items = cond (adds (sheet_held t) (sheet_free t) r) (t.items ++ r ∷ []) t.items }

abbrev pub together : Set → Set → Set
together s t = λ x. s x || t x

pub record SheetMemory (M : Type 0) : Type 0 where
  pub below : M
  pub free : ℕ
  pub sheet : List Record

module _ {R : Type 0} (g : Ghosts R) where
  abbrev pub spare_held : SpareSheet R → Set
  spare_held s = together (g.held s.below) (sheet_held s.sheet)

  abbrev pub spare_free : SpareSheet R → ℕ
  spare_free s = g.free s.below + sheet_free s.sheet

  abbrev pub spare_memory : SpareSheet R → SheetMemory g.Memory
  spare_memory s = record { below = g.memory s.below; free = g.free s.below; sheet = s.sheet.items }

  abbrev pub spare_stores : SheetMemory g.Memory → Record → SheetMemory g.Memory
  spare_stores m r =
      cond (m.free == 0) (record m { sheet = m.sheet ++ r ∷ [] })
      (record m { below = g.stores m.below r; free = m.free - 1 })

  pub record BelowFirst (old : SpareSheet R) (r : Record) (new : SpareSheet R) : Type 0 where
    pub held :
        g.held new.below
        ≡ cond (sheet_held old.sheet r) (g.held old.below) (held_after (g.held old.below) (g.free old.below) r)
    pub free :
        g.free new.below
        ≡ cond (sheet_held old.sheet r) (g.free old.below) (free_after (g.held old.below) (g.free old.below) r)
    pub sheet :
        new.sheet
        ≡ cond (is_ok (entering (g.held old.below) (g.free old.below) r)) old.sheet (sheet_after old.sheet r)
