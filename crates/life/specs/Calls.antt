-- Calls, turns and outcomes of code, as the rules have them.
--   call_of c                — the call c, as the rules have it
--   calls_of ts              — the calls of the turns ts, in order
--   without_witnesses o      — the outcome o as the rules have it, without its witnesses
--   outcome_in t             — the outcome that stands in the turn t, if one does, likewise
--   granted_or_refused a     — a grant or a refusal as an outcome
--   certificate_outcome a w  — the outcome of a certificate call that answered a and left the bytes w
use Rattle.std.specs.Prelude.{ℕ, Bool, true, false, List, map, Ok, Err, Option, Result, option_map}
use Rattle.refusal.specs.Grounds.{Answer}
use Rattle.refusal.specs.declared.Refusal.{Refusal}
use Rattle.protocol.specs.Call as rules
use Rattle.life.specs.declared.call.Call.{Call}
use Rattle.life.specs.declared.call.Call.TheVariants as call
use Rattle.life.specs.declared.call.Outcome.{Outcome}
use Rattle.life.specs.declared.call.Outcome.TheVariants.{Granted, Yes, No, Refused}
use Rattle.life.specs.declared.call.Turn.{Turn}

abbrev pub call_of : Call → rules.Call
call_of (call.Stamp op) = rules.Stamp op
call_of (call.Deliver i s) = rules.Deliver i s
call_of (call.Find i) = rules.Find i
call_of (call.Drop i) = rules.Drop i
call_of (call.Decide i s d) = rules.Decide i s d
call_of (call.Prepare i s d) = rules.Prepare i s d
call_of (call.Commit i s d) = rules.Commit i s d
call_of (call.Settle i s d) = rules.Settle i s d
call_of (call.Reply i s) = rules.Reply i s
call_of (call.Leave i t) = rules.Leave i t
call_of (call.Forge r) = rules.Forge r
call_of (call.Lead i ps n w) = rules.Lead i ps.now n w
call_of (call.Start i ps n w) = rules.Start i ps.now n w
call_of (call.Enter i n w v) = rules.Enter i n w v
call_of (call.Answer b v s w a) = rules.AskAnswer b v s w a
call_of (call.NoOp b v s) = rules.AskNoOp b v s

abbrev pub calls_of : List Turn → List rules.Call
calls_of ts = map (λ t. call_of t.call) ts

abbrev pub without_witnesses : Outcome → rules.Outcome
without_witnesses Granted = rules.Granted
without_witnesses (Yes w) = rules.Yes
without_witnesses No = rules.No
without_witnesses (Refused e) = rules.Refused e

abbrev pub outcome_in : Turn → Option rules.Outcome
outcome_in t = option_map without_witnesses t.outcome

abbrev pub granted_or_refused : Answer → Outcome
granted_or_refused (Ok _) = Granted
granted_or_refused (Err e) = Refused e

abbrev pub certificate_outcome : Result Bool Refusal → List ℕ → Outcome
certificate_outcome (Ok true) w = Yes w
certificate_outcome (Ok false) w = No
certificate_outcome (Err e) w = Refused e
