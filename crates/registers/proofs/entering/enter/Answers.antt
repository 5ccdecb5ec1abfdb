use Rattle.std.proofs.Common.{rules}
use Rattle.registers.proofs.Stores.{appending_enters}
use Rattle.registers.proofs.entering.enter.Goals as goal

pub returns : goal.returns
returns g c =
    record {
      entered =
          appending_enters _ _ _ _ _ (search rules) (search rules) (search rules) c.append.ensures.records c.append.ensures.room;
      store = search rules;
    }
