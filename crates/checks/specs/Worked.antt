-- The worked checks, in one table.
--   WorkedChecks    — every example comes to the figures stated here
--   worked_figures  — what the examples of the services come to when they are run
--   worked_run      — those figures, and the lines that the examples of merges come to
use Rattle.std.specs.Prelude.{◌≡◌, ℕ, ◌^◌, List, [], ◌∷◌, ◌++◌, replicate, Ok}
use Rattle.record.specs.Packed.{packing, Packs}
use Rattle.record.specs.declared.Record.{Record}
use Rattle.merge.specs.Merges.{merge}
use Rattle.checks.specs.Examples.{a_reply, a_view_change, low_curve, high_curve, flow_after, grant, draw, balance_after, three_picks}

pub record WorkedChecks : Type 0 where
  -- the bytes of a REPLY
  pub reply_packs :
      packing a_reply ≡ Ok (0x12 ∷ 0x00 ∷ 0x00 ∷ 0x20 ∷ (replicate 8 0 ++ (0x00 ∷ 0x00 ∷ 0x00 ∷ 0x00 ∷ 0x00 ∷ 0x00 ∷ 0x18 ∷ 0x38 ∷ [])))
  -- the first bytes of a VIEW-CHANGE, and the rest: its word, and no result
  pub view_change_packs :
      packing a_view_change ≡ Ok (0x73 ∷ 0x04 ∷ 0x00 ∷ 0x40 ∷ (0x00 ∷ 0x00 ∷ 0x00 ∷ 0x00 ∷ 0x00 ∷ 0x00 ∷ 0x00 ∷ 0x01 ∷ replicate 8 0))
  -- with 0x41 as the fourth byte no record has these bytes
  pub filling_bit_breaks :
      (r : Record) → Packs r (0x73 ∷ 0x04 ∷ 0x00 ∷ 0x41 ∷ (0x00 ∷ 0x00 ∷ 0x00 ∷ 0x00 ∷ 0x00 ∷ 0x00 ∷ 0x00 ∷ 0x01 ∷ replicate 8 0)) → ⊥
  -- at 2000 millimetres both curves hold, and the one loaded last decides
  pub low_then_high : flow_after low_curve high_curve 2000 ≡ 6200
  pub high_then_low : flow_after high_curve low_curve 2000 ≡ 6000
  -- at 2001 only the high curve holds, and at 5001 none does, either way
  pub beside : (flow_after low_curve high_curve 2001 ≡ 6205) × (flow_after high_curve low_curve 2001 ≡ 6205)
  pub above : (flow_after low_curve high_curve 5001 ≡ 2 ^ 63) × (flow_after high_curve low_curve 5001 ≡ 2 ^ 63)
  -- a grant, a draw of all of it, and a draw of what is not there
  pub granted : balance_after [] (grant 100) ≡ 100
  pub drawn : balance_after (grant 100 ∷ []) (draw 100) ≡ 0
  pub overdrawn : balance_after (grant 100 ∷ draw 100 ∷ []) (draw 1) ≡ 2 ^ 63
  -- three picks over the base 0 and 0, without a no-op and with one in slot 1
  pub merged : merge (0, 0) (three_picks (0, 0) (0, 0) (1, 0)) ≡ (1, 0)
  pub merged_no_op : merge (0, 0) (three_picks (2, 2) (1, 0) (0, 0)) ≡ (2, 2)

abbrev worked_figures : List (List ℕ)
worked_figures =
    (6200 ∷ 6205 ∷ 2 ^ 63 ∷ [])
    ∷ (6000 ∷ 6205 ∷ 2 ^ 63 ∷ [])
    ∷ (100 ∷ 0 ∷ 2 ^ 63 ∷ [])
    ∷ []

abbrev pub worked_run : List (List ℕ) × List (ℕ × ℕ)
worked_run = (worked_figures, (1, 0) ∷ (2, 2) ∷ [])
