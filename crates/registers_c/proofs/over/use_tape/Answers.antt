use Rattle.std.proofs.Common.{rules, ◌≡◌, ap, ◌∙◌}
use Rattle.record.specs.Tapes.{places}
use Rattle.register.specs.Sets.{nothing}
use Rattle.tape.specs.Tapes.{TapeMemory}
use Rattle.tape.proofs.Places.{stored_at_start}
use Rattle.registers_c.specs.Requests.{additions_of}
use Rattle.registers_c.proofs.over.use_tape.Goals as goal

pub returns-clause-tape : goal.returns-clause-tape
returns-clause-tape c =
    let empty = c.new.ensures in
    let lent = c.new.result.bytes.ghost_name in
    let rs = additions_of nothing (places c.args.tape.now) c.args.requests.now in
    let memory = rw (empty.held, empty.free, empty.bytes, empty.used) at c.use_register.ensures.memory ∙ stored_at_start lent c.args.tape.now rs in
    let same : c.use_register.new.register.bytes.ghost_name ≡ lent = ap (λ (m : TapeMemory). m.lent) memory in
    (search rules) ∙ ap (λ (m : TapeMemory). m.bytes) memory
