-- The examples that the worked checks are about.
--   a_reply             — the REPLY of signer 2, view 0, slot 1, word 0, result 6200
--   a_view_change       — the VIEW-CHANGE of signer 3, target 1, last 0, reach 2, word 1
--   load c l h o s      — the bits of LOAD curve c: stages l to h, offset o, slope s
--   low_curve           — the bits of LOAD curve 0: stages 0 to 2000, offset 0, slope 3
--   high_curve          — the bits of LOAD curve 1: stages 2000 to 5000, offset 6200, slope 5
--   read_at s           — the bits of READ at the stage s
--   flow_after a b s    — what a fresh rating service answers to READ at the stage s after the operations a and b
--   flows_after a b     — these answers at 2000, 2001 and 5001 millimetres
--   grant m, draw m     — the bits of GRANT and DRAW of the amount m, on account 0
--   balance_after os o  — what a fresh allotment service answers to the operation o after the operations os
--   three_picks a b c   — the VIEW-CHANGE statements of the signers 0, 1 and 2, target 1, last 0, with the reaches and words a, b and c
use Rattle.std.specs.Prelude.{ℕ, List, [], ◌∷◌}
use Rattle.record.specs.Bytes.{of_width, joined}
use Rattle.record.specs.Statements.{view_change_by}
use Rattle.record.specs.declared.Record.{Record}
use Rattle.service.specs.Operations.{after}
use Rattle.rating.specs.Rating.{rating_next, rating_answer}
use Rattle.allotment.specs.Balances.{no_balances, allotment_next, allotment_answer}

abbrev pub a_reply : Record
a_reply = record { kind = 1; signer = 2; view = 0; last = 0; slot = 1; verdict = 0; word = 0; result = 6200 }

abbrev pub a_view_change : Record
a_view_change = record { kind = 7; signer = 3; view = 1; last = 0; slot = 2; verdict = 0; word = 1; result = 0 }

abbrev load : ℕ → ℕ → ℕ → ℕ → ℕ → ℕ
load curve low high offset slope =
    joined 0 (of_width 2 1 ∷ of_width 3 curve ∷ of_width 14 low ∷ of_width 14 high ∷ of_width 20 offset ∷ of_width 11 slope ∷ [])

abbrev pub low_curve : ℕ
low_curve = load 0 0 2000 0 3

abbrev pub high_curve : ℕ
high_curve = load 1 2000 5000 6200 5

abbrev pub read_at : ℕ → ℕ
read_at stage = joined 0 (of_width 2 2 ∷ of_width 14 stage ∷ of_width 48 0 ∷ [])

abbrev pub flow_after : ℕ → ℕ → ℕ → ℕ
flow_after a b stage = rating_answer (after rating_next [] (a ∷ b ∷ [])) (read_at stage)

abbrev pub flows_after : ℕ → ℕ → List ℕ
flows_after a b = flow_after a b 2000 ∷ flow_after a b 2001 ∷ flow_after a b 5001 ∷ []

abbrev pub grant : ℕ → ℕ
grant amount = joined 0 (of_width 2 1 ∷ of_width 4 0 ∷ of_width 32 amount ∷ of_width 26 0 ∷ [])

abbrev pub draw : ℕ → ℕ
draw amount = joined 0 (of_width 2 2 ∷ of_width 4 0 ∷ of_width 32 amount ∷ of_width 26 0 ∷ [])

abbrev pub balance_after : List ℕ → ℕ → ℕ
balance_after ops op = allotment_answer (after allotment_next no_balances ops) op

abbrev pub three_picks : (a b c : ℕ × ℕ) → List Record
three_picks a b c =
    view_change_by 0 1 0 a.0 a.1 ∷ view_change_by 1 1 0 b.0 b.1 ∷ view_change_by 2 1 0 c.0 c.1 ∷ []
