-- The first 32 bits of a record.
--   head_of r        — the fields of r before its word, as one number
--   with_head h w a  — the record whose first 32 bits are h, with the word w and the result a; h's lowest four bits are not looked at
use Rattle.std.specs.Prelude.{ℕ, ◌+◌, ◌*◌, ◌/◌, ◌%◌, ◌^◌}
use Rattle.record.specs.declared.Record.{Record}

abbrev pub head_of : Record → ℕ
head_of r =
    r.kind * 2 ^ 28 + r.signer * 2 ^ 24 + r.view * 2 ^ 18 + r.last * 2 ^ 12 + r.slot * 2 ^ 5 + r.verdict * 2 ^ 4

abbrev pub with_head : ℕ → ℕ → ℕ → Record
with_head h w a =
    record {
      kind = h / 2 ^ 28;
      signer = h / 2 ^ 24 % 16;
      view = h / 2 ^ 18 % 64;
      last = h / 2 ^ 12 % 64;
      slot = h / 2 ^ 5 % 128;
      verdict = h / 2 ^ 4 % 2;
      word = w;
      result = a;
    }
