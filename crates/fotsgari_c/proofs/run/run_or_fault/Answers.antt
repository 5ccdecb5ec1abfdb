use Rattle.std.proofs.Common.{◌≡◌, rules, sym, ◌∙◌}
use Rattle.std.proofs.lemmas.List.{length-map}
use Rattle.life.specs.Calls.{call_of}
use Rattle.life.specs.declared.call.Turn.{Turn}
use Rattle.fotsgari_c.proofs.Reading.{each_length}
use Rattle.fotsgari_c.proofs.run.run_or_fault.Goals as goal

pub run_turns-requires : goal.run_turns-requires
run_turns-requires g c =
    let turns = c.in_ok-turns.turns.items in
    let same = each_length _ c.args.calls.now _ c.in_ok-turns.ensures in
    let is : c.deref_mut.result.now ≡ turns = search rules in
    rw is (c.if-outcomes-calls.false ∙ sym same ∙ length-map turns (λ (t : Turn). call_of t.call))
