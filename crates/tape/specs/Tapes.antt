-- A tape: lent bytes, packed records end to end, the first of which are used.
--   has_bytes x y     — the place y, 20 bytes, holds x
--   parts n b         — the first n places of the bytes b
--   used_parts n b    — those of them that b has room for
--   on_tape n b       — the statements in the first n places
--   room_on n b       — how many places b has after the first n
--   replaced n b c    — b with the bytes c at the place n
--   tape_held t       — the statements in the used places of the tape t
--   tape_free t       — how many places of t are not used
--   TapeMemory        — which memory is lent, the bytes in it, and how many places of it are used
--   tape_memory t     — the memory of t
--   tape_stores m r   — the memory m, with r packed at the lowest free place
--   with_packed rs b  — b with the statements rs packed at its start, end to end
use Rattle.std.specs.Prelude.{ℕ, ◌+◌, ◌-◌, ◌*◌, min, Bool, List, ◌++◌, length, map, take, drop}
use Rattle.std.specs.Borrow.{GName}
use Rattle.std.specs.List.{flat_map, range_with_len}
use Rattle.std.specs.Str.{bytes_eq}
use Rattle.record.specs.Packed.{packed}
use Rattle.record.specs.Tapes.{places, place}
use Rattle.record.specs.declared.Record.{Record}
use Rattle.register.specs.Sets.{Set}
use Rattle.register.specs.Stored.{stored}
use Rattle.tape.specs.declared.Tape.{Tape}

abbrev pub has_bytes : Record → List ℕ → Bool
has_bytes x y = bytes_eq y (packed x)

abbrev pub parts : ℕ → List ℕ → List (List ℕ)
parts n b = map (λ i. place i b) (range_with_len 0 n)

abbrev pub used_parts : ℕ → List ℕ → List (List ℕ)
used_parts n b = parts (min n (places b)) b

abbrev pub on_tape : ℕ → List ℕ → Set
on_tape n b = stored has_bytes (used_parts n b)

abbrev pub room_on : ℕ → List ℕ → ℕ
room_on n b = places b - n

abbrev pub replaced : ℕ → List ℕ → List ℕ → List ℕ
replaced n b c = take (20 * n) b ++ (c ++ drop (20 * n + 20) b)

abbrev pub tape_held : Tape → Set
tape_held t = on_tape t.used t.bytes.now

abbrev pub tape_free : Tape → ℕ
tape_free t = room_on t.used t.bytes.now

pub record TapeMemory : Type 0 where
  pub lent : GName
  pub bytes : List ℕ
  pub used : ℕ

abbrev pub tape_memory : Tape → TapeMemory
tape_memory t = record { lent = t.bytes.ghost_name; bytes = t.bytes.now; used = t.used }

abbrev pub tape_stores : TapeMemory → Record → TapeMemory
tape_stores m r = record { lent = m.lent; bytes = replaced m.used m.bytes (packed r); used = m.used + 1 }

abbrev pub with_packed : List Record → List ℕ → List ℕ
with_packed rs b = flat_map packed rs ++ drop (20 * length rs) b
