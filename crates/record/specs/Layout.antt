-- Which records keep the layout.
--   Layout r        — r keeps the layout, field by field
--   keeps_layout r  — the same as a test; shut, so that what stands above need not look inside
--   shared_rule r   — the rule that all kinds share: the ranges of signer and view; only VIEW-CHANGE has a last, only REPLY a result
--   by_kind r       — the rule of r's kind
--   reply_rule r    — the rule of REPLY
--   gap_rule r      — the rule of FIND and DROP
--   verdict_rule r  — the rule of DECISION, PREPARE and COMMIT
--   change_rule r   — the rule of VIEW-CHANGE
--   line_rule r     — the rule of VIEW-START and ENTRY
-- The kinds are 1 REPLY, 2 FIND, 3 DROP, 4 DECISION, 5 PREPARE, 6 COMMIT, 7 VIEW-CHANGE, 8 VIEW-START and 9 ENTRY.
use Rattle.std.specs.Prelude.{◌≡◌, ◌^◌, ◌<◌, ◌≤◌, Bool, false, cond, ◌&&◌, ◌||◌, ◌==◌, ◌≢◌, nat_le, nat_lt}
use Rattle.record.specs.declared.Record.{Record}

pub record Layout (r : Record) : Type 0 where
  pub kind_from : 1 ≤ r.kind
  pub kind_to : r.kind ≤ 9
  pub signer : r.signer < 16
  pub view : r.view < 64
  -- a change of view leads to a view from 1 on
  pub view_change : 7 ≤ r.kind → 1 ≤ r.view
  -- a VIEW-CHANGE has a last view below its view, no other kind has one
  pub last : r.kind ≡ 7 → r.last < r.view
  pub no_last : (r.kind ≢ 7) → r.last ≡ 0
  -- the slot field is a slot, 0 to 63, or in a change of view a length or a reach, 0 to 64
  pub slot : r.kind ≤ 6 → r.slot ≤ 63
  pub slot_field : r.slot ≤ 64
  -- DECISION, PREPARE and COMMIT have a verdict, no other kind has one
  pub verdict : r.verdict ≤ 1
  pub no_verdict_below : r.kind < 4 → r.verdict ≡ 0
  pub no_verdict_above : 6 < r.kind → r.verdict ≡ 0
  -- a word has no bit at or above the slot; the kinds from FIND to COMMIT have none
  pub word : r.word < 2 ^ r.slot
  pub no_word : 2 ≤ r.kind → r.kind ≤ 6 → r.word ≡ 0
  -- a REPLY has a result of 64 bits, no other kind has one
  pub result : r.result < 2 ^ 64
  pub no_result : (r.kind ≢ 1) → r.result ≡ 0

abbrev pub reply_rule : Record → Bool
reply_rule r = nat_le r.slot 63 && nat_lt r.word (2 ^ r.slot) && r.verdict == 0 && nat_lt r.result (2 ^ 64)

abbrev pub gap_rule : Record → Bool
gap_rule r = nat_le r.slot 63 && r.word == 0 && r.verdict == 0

abbrev pub verdict_rule : Record → Bool
verdict_rule r = nat_le r.slot 63 && r.word == 0 && nat_le r.verdict 1

abbrev pub change_rule : Record → Bool
change_rule r = nat_le r.slot 64 && nat_lt r.last r.view && nat_lt r.word (2 ^ r.slot) && r.verdict == 0

abbrev pub line_rule : Record → Bool
line_rule r = nat_le r.slot 64 && nat_le 1 r.view && nat_lt r.word (2 ^ r.slot) && r.verdict == 0

abbrev pub by_kind : Record → Bool
by_kind r =
    cond (r.kind == 1) (reply_rule r)
    (cond (nat_le 2 r.kind && nat_le r.kind 3) (gap_rule r)
    (cond (nat_le 4 r.kind && nat_le r.kind 6) (verdict_rule r)
    (cond (r.kind == 7) (change_rule r)
    (cond (nat_le 8 r.kind && nat_le r.kind 9) (line_rule r) false))))

abbrev pub shared_rule : Record → Bool
shared_rule r = nat_lt r.signer 16 && nat_lt r.view 64 && (r.kind == 7 || r.last == 0) && (r.kind == 1 || r.result == 0)

unfoldable pub keeps_layout : Record → Bool
keeps_layout r = shared_rule r && by_kind r
