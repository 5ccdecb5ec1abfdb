-- The 20 bytes of a record.
--   fields r       — the fields of r from the most significant bit down
--   packed r       — the 20 bytes of r
--   Packs r b      — r keeps the layout, and b are its bytes
--   packing r      — what packing r answers
--   Unpacks p b a  — a is what unpacking b, which stands at the place p, answers: the record that packs to b, or a refusal if there is none
use Rattle.std.specs.Prelude.{◌≡◌, ℕ, true, cond, List, [], ◌∷◌, Ok, Err, Result}
use Rattle.refusal.specs.declared.Ground.TheVariants.{Layout}
use Rattle.refusal.specs.declared.Refusal.{Refusal}
use Rattle.refusal.specs.Grounds.{refused}
use Rattle.record.specs.Bytes.{be, Field, of_width, joined}
use Rattle.record.specs.Layout.{keeps_layout}
use Rattle.record.specs.declared.Record.{Record}

abbrev pub fields : Record → List Field
fields r =
    of_width 4 r.kind
    ∷ of_width 4 r.signer
    ∷ of_width 6 r.view
    ∷ of_width 6 r.last
    ∷ of_width 7 r.slot
    ∷ of_width 1 r.verdict
    ∷ of_width 4 0
    ∷ of_width 64 r.word
    ∷ of_width 64 r.result
    ∷ []

unfoldable pub packed : Record → List ℕ
packed r = be 20 (joined 0 (fields r))

pub record Packs (r : Record) (b : List ℕ) : Type 0 where
  pub layout : keeps_layout r ≡ true
  pub bytes : packed r ≡ b

abbrev pub packing : Record → Result (List ℕ) Refusal
packing r = cond (keeps_layout r) (Ok (packed r)) (Err (refused Layout 0))

abbrev pub Unpacks : ℕ → List ℕ → Result Record Refusal → Type 0
Unpacks p b (Ok r) = Packs r b
Unpacks p b (Err e) = (e ≡ refused Layout p) × ((r : Record) → Packs r b → ⊥)
