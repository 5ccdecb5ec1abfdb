-- A replica, and what each call makes of it.
--   initial          — a replica as a bench opens with it: every number is 0, and the mark is clear
--   reach r          — the greater of r's length and one past its highest sealed bit
--   longer n         — the length of a line of length n after one more verdict; a line of 64 is full, and stays
--   delivered r      — r with an operation appended to its line
--   committed r s d  — r after it said COMMIT of the verdict d on slot s: a no-op sets the slot's sealed bit
--   settled r s d    — r with the verdict d on slot s of its line, appended if s is the length; a no-op sets the slot's sealed bit
--   left r t         — r on its way to the view t, with the mark cleared
--   started r        — r with the mark set: it said ENTRY for its target
--   entered v n w    — a replica that entered the view v with the line of length n and word w
use Rattle.std.specs.Prelude.{ℕ, ◌+◌, max, true, false, cond, ◌==◌, nat_lt}
use Rattle.replica.specs.declared.Replica.{Replica}
use Rattle.replica.specs.declared.Verdict.{Verdict}
use Rattle.replica.specs.Words.{one_past}
use Rattle.replica.specs.Verdicts.{with_verdict, sealed_with}

abbrev pub initial : Replica
initial = record { view = 0; target = 0; base = 0; length = 0; word = 0; sealed = 0; mark = false }

abbrev pub reach : Replica → ℕ
reach r = max r.length (one_past r.sealed)

abbrev pub longer : ℕ → ℕ
longer n = cond (nat_lt n 64) (n + 1) n

abbrev pub delivered : Replica → Replica
delivered r = record r { length = longer r.length }

abbrev pub committed : Replica → ℕ → Verdict → Replica
committed r s d = record r { sealed = sealed_with r.sealed s d }

abbrev pub settled : Replica → ℕ → Verdict → Replica
settled r s d =
    record (committed r s d) {
      length = cond (s == r.length) (longer r.length) r.length;
      word = with_verdict r.word s d;
    }

abbrev pub left : Replica → ℕ → Replica
left r t = record r { target = t; mark = false }

abbrev pub started : Replica → Replica
started r = record r { mark = true }

abbrev pub entered : ℕ → ℕ → ℕ → Replica
entered v n w = record initial { view = v; target = v; base = n; length = n; word = w }
