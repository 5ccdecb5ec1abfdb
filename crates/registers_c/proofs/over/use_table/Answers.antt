use Rattle.std.proofs.Common.{rules, ◌≡◌, length, ap, ◌∙◌}
use Rattle.register.specs.Sets.{nothing}
use Rattle.registers.specs.Tables.{TableMemory}
use Rattle.registers.proofs.Memory.{stored_first}
use Rattle.registers_c.specs.Requests.{additions_of}
use Rattle.registers_c.proofs.Making.{adds_at_most}
use Rattle.registers_c.proofs.over.use_table.Goals as goal

pub returns-clause-table : goal.returns-clause-table
returns-clause-table c =
    let empty = c.new.ensures in
    let lent = c.new.result.places.ghost_name in
    let n = length c.args.table.now in
    let rs = additions_of nothing n c.args.requests.now in
    let memory = rw (empty.held, empty.free, empty.places, empty.used) at c.use_register.ensures.memory ∙ stored_first lent c.args.table.now rs (adds_at_most nothing n c.args.requests.now) in
    let same : c.use_register.new.register.places.ghost_name ≡ lent = ap (λ (m : TableMemory). m.lent) memory in
    (search rules) ∙ ap (λ (m : TableMemory). m.places) memory
