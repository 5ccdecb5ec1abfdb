use Rattle.std.proofs.Common.{◌≡◌, false, is_ok, rules}
use Rattle.registers.specs.Sheets.{sheet_held}
use Rattle.registers.proofs.Together.{entered_second, refused_below, memory_above}
use Rattle.registers.proofs.sheet.SpareSheetRegister.enter.Goals as goal

pub returns : goal.returns
returns g c =
    let R = g.R.Register in
    let absent : sheet_held c.args.self.now.sheet c.args.r.now ≡ false = search rules in
    let refused : is_ok c.enter.result ≡ false = search rules in
    record {
      entered = search (rules, entered_second);
      memory = memory_above R _ _ _ _ c.enter.ensures.entered absent refused c.enter-2.ensures.store c.enter.ensures.memory;
      order = refused_below R _ _ _ _ c.enter.ensures.entered absent refused c.enter-2.ensures.store;
    }
