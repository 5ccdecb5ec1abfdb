use Rattle.registers_c.proofs.over.use_sheets.Goals as goal

pub returns : goal.returns
returns c =
    let table = c.new-table.ensures in
    let first = c.new.ensures in
    let second = c.new-2.ensures in
    record {
      held = _;
      free = _;
      uses = rw (second.held, second.free, first.held, first.free, table.held, table.free) at c.use_register.ensures.uses;
    }
