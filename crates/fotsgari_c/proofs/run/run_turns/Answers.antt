use Rattle.std.proofs.Common.{◌≡◌, ap, ◌∙◌, rules}
use Rattle.record.specs.Tapes.{places}
use Rattle.tape.specs.Tapes.{TapeMemory, tape_held, tape_free}
use Rattle.tape.proofs.Places.{stored_at_start}
use Rattle.protocol.specs.State.{opened}
use Rattle.protocol.specs.Life.{additions}
use Rattle.bench.specs.States.{service_of}
use Rattle.life.specs.Calls.{calls_of}
use Rattle.fotsgari_c.proofs.run.run_turns.Goals as goal

pub returns : goal.returns
returns g c =
    let empty = c.new-register.result in
    let register = c.run_life.new.register in
    let lent = empty.bytes.ghost_name in
    let rs =
    additions (record { f = c.args.f; mask = c.args.foreign })
    (service_of g.S.Service c.args.service.now) (opened (places c.args.tape.now))
    (calls_of c.args.turns.now) in
    let added = rw (c.new-register.ensures.free, c.new-register.ensures.bytes, c.new-register.ensures.used) at c.in_ok-kept.ensures.memory in
    let memory = added ∙ stored_at_start lent c.args.tape.now rs in
    let same : register.bytes.ghost_name ≡ lent = ap (λ (m : TapeMemory). m.lent) memory in
    record {
      after = c.run_life.new.turns;
      kept = c.in_ok-kept.kept;
      held = tape_held register;
      free = tape_free register;
      runs = rw (c.new-register.ensures.held, c.new-register.ensures.free) at c.in_ok-kept.ensures.life;
      tape = (search rules) ∙ ap (λ (m : TapeMemory). m.bytes) memory;
      outcomes = c.tell.ensures;
      status = c.status_of.ensures;
    }
