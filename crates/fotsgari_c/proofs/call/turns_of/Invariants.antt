use Rattle.std.proofs.Common.{◌≡◌, take, Ok}
use Rattle.life.specs.Calls.{calls_of}
use Rattle.fotsgari_c.specs.Calls.{read_all}
use Rattle.fotsgari_c.proofs.call.turns_of.Given as goal

abbrev pub invariant-loop-call : goal.invariant-loop-call
invariant-loop-call l = read_all l.records (take l.call-index l.calls) ≡ Ok (calls_of l.turns.items)
