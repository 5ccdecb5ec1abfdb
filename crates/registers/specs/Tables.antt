-- A table: lent places that are records, the first of which are used.
--   table_records t   — the records in its used places
--   table_held t      — the statements in its used places
--   table_free t      — how many places are not used
--   TableMemory       — which memory is lent, the records in it, and how many places of it are used
--   table_memory t    — the memory of t
--   table_stores m r  — the memory m, with r at the lowest free place
--   with_first rs ys  — the places ys with the statements rs in the first of them
use Rattle.std.specs.Prelude.{ℕ, ◌+◌, List, ◌++◌, length, take, drop, slice_set}
use Rattle.std.specs.Borrow.{GName}
use Rattle.record.specs.declared.Record.{Record}
use Rattle.register.specs.Sets.{Set}
use Rattle.registers.specs.Places.{in_places, room}
use Rattle.registers.specs.declared.table.Table.{Table}

abbrev pub table_records : Table → List Record
table_records t = take t.used t.places.now

abbrev pub table_held : Table → Set
table_held t = in_places t.used t.places.now

abbrev pub table_free : Table → ℕ
table_free t = room t.used t.places.now

pub record TableMemory : Type 0 where
  pub lent : GName
  pub places : List Record
  pub used : ℕ

abbrev pub table_memory : Table → TableMemory
table_memory t = record { lent = t.places.ghost_name; places = t.places.now; used = t.used }

abbrev pub table_stores : TableMemory → Record → TableMemory
table_stores m r = record { lent = m.lent; places = slice_set m.places m.used r; used = m.used + 1 }

abbrev pub with_first : List Record → List Record → List Record
with_first rs ys = rs ++ drop (length rs) ys
