-- Reading a tape.
--   IsPart b i o  — o is the 20 bytes at position i of the tape b, or nothing where it has not got so many
--   Begins b a    — a is what making a reader of the tape b answers
--   Reads s r t   — the reader s hands out r and is then t
use Rattle.std.specs.Borrow.{Bor}
use Rattle.std.specs.Prelude.{◌≡◌, ℕ, ◌+◌, ◌<◌, ◌≤◌, true, false, List, Some, None, Ok, Err, Option, Result}
use Rattle.refusal.specs.Grounds.{refused}
use Rattle.refusal.specs.declared.Ground.TheVariants.{BufferLength}
use Rattle.refusal.specs.declared.Refusal.{Refusal}
use Rattle.record.specs.Tapes.{whole, places, place}
use Rattle.record.specs.declared.tape.Part.{Part}
use Rattle.record.specs.declared.tape.Reader.{Reader}

abbrev pub IsPart : List ℕ → ℕ → Option (Bor (List ℕ)) → Type 0
IsPart b i (Some y) = (i < places b) × (y.now ≡ place i b)
IsPart b i None = places b ≤ i

abbrev pub Begins : List ℕ → Result Reader Refusal → Type 0
Begins b (Ok s) = (whole b ≡ true) × (s.tape.now ≡ b) × (s.position ≡ 0)
Begins b (Err e) = (whole b ≡ false) × (e ≡ refused BufferLength 0)

abbrev pub Reads : Reader → Option Part → Reader → Type 0
Reads s (Some p) t =
    (s.position < places s.tape.now)
    × (p.position ≡ s.position)
    × (p.bytes.now ≡ place s.position s.tape.now)
    × (t.tape.now ≡ s.tape.now)
    × (t.position ≡ s.position + 1)
Reads s None t = (places s.tape.now ≤ s.position) × (t.tape.now ≡ s.tape.now) × (t.position ≡ s.position)
