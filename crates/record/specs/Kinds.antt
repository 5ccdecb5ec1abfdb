-- The kinds of statements.
--   kind_number k   — the number of the kind k in a record
--   kind_text k     — how the kind k is printed
--   unknown_text e  — how a number that is no kind's is printed
--   Named n a       — a is what looking for the kind with the number n answers: that kind, or n where no kind has it
use Rattle.std.specs.Prelude.{◌≡◌, ◌≢◌, ℕ, List, ◌++◌, Result, Ok, Err, codes, decimal}
use Rattle.record.specs.declared.kind.Kind.{Kind}
use Rattle.record.specs.declared.kind.Kind.TheVariants.{Reply, Find, Drop, Decision, Prepare, Commit, ViewChange, ViewStart, Entry}
use Rattle.record.specs.declared.kind.UnknownKind.{UnknownKind}

abbrev pub kind_number : Kind → ℕ
kind_number Reply = 1
kind_number Find = 2
kind_number Drop = 3
kind_number Decision = 4
kind_number Prepare = 5
kind_number Commit = 6
kind_number ViewChange = 7
kind_number ViewStart = 8
kind_number Entry = 9

abbrev pub kind_text : Kind → List ℕ
kind_text Reply = codes "REPLY"
kind_text Find = codes "FIND"
kind_text Drop = codes "DROP"
kind_text Decision = codes "DECISION"
kind_text Prepare = codes "PREPARE"
kind_text Commit = codes "COMMIT"
kind_text ViewChange = codes "VIEW-CHANGE"
kind_text ViewStart = codes "VIEW-START"
kind_text Entry = codes "ENTRY"

abbrev pub unknown_text : UnknownKind → List ℕ
unknown_text e = codes "no kind of statement has the number " ++ decimal e.0

abbrev pub Named : ℕ → Result Kind UnknownKind → Type 0
Named n (Ok k) = kind_number k ≡ n
Named n (Err e) = (e.0 ≡ n) × ((k : Kind) → kind_number k ≢ n)
