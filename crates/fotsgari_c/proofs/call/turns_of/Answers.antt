use Rattle.std.proofs.Common.{◌≡◌, rules, [], ◌∷◌, ◌++◌, Ok, Err, sym, ap, ◌∙◌, inr}
use Rattle.std.proofs.Math.Numerals.{suc-eq-add-one}
use Rattle.std.proofs.lemmas.List.{map-append}
use Rattle.life.specs.Calls.{call_of, calls_of}
use Rattle.life.specs.declared.call.Turn.{Turn}
use Rattle.fotsgari_c.specs.Calls.{meant}
use Rattle.fotsgari_c.proofs.Reading.{each_stops, each_more}
use Rattle.fotsgari_c.proofs.call.turns_of.Goals as goal

pub returns-in_err-read : goal.returns-in_err-read
returns-in_err-read c =
    let e = c.in_err-read.field-0.0 in
    let was : c.read.result ≡ Err e = c.in_err-read.was in
    let is : c.from_residual.result ≡ Err e = search rules in
    rw is (inr (each_stops _ c.args.calls.now c.loop-call.call-index _ _ e c.loop-call-test.true c.loop-call.invariant (sym c.read.ensures ∙ ap meant was)))

pub loop-call-preserved : goal.loop-call-preserved
loop-call-preserved c =
    let k = c.in_ok-read.field-0 in
    let was : c.read.result ≡ Ok k = c.in_ok-read.was in
    let turn : Turn = c.from-turn.result in
    let items : c.push.new.self.items ≡ c.loop-call.turns.items ++ turn ∷ [] = search rules in
    let is : turn.call ≡ k = ap (λ (t : Turn). t.call) c.from-turn.ensures in
    let calls : calls_of c.push.new.self.items ≡ calls_of c.loop-call.turns.items ++ call_of k ∷ [] =
    rw (items, map-append (λ (t : Turn). call_of t.call) c.loop-call.turns.items (turn ∷ []), is) in
    rw (sym (suc-eq-add-one c.loop-call.call-index), calls)
    (each_more _ c.args.calls.now c.loop-call.call-index _ _ _ c.loop-call-test.true c.loop-call.invariant (sym c.read.ensures ∙ ap meant was))
