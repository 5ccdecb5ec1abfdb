use Rattle.std.proofs.Common.{◌≡◌, ◌<◌, true, false, rules}
use Rattle.record.specs.Layout.{keeps_layout}
use Rattle.record.specs.Packed.{packed}
use Rattle.record.specs.Tapes.{places}
use Rattle.tape.specs.Tapes.{tape_held, replaced}
use Rattle.tape.proofs.Places.{put_enters, put_is_stored}
use Rattle.tape.proofs.TapeRegister.enter.Goals as goal

pub returns : goal.returns
returns c =
    let t = c.args.self.now in
    let r = c.args.r.now in
    let kept : keeps_layout r ≡ true = search rules in
    let absent : tape_held t r ≡ false = search rules in
    let room : t.used < places t.bytes.now = search rules in
    let written : c.write_part.new.bytes ≡ replaced t.used t.bytes.now (packed r) = search rules in
    record {
      entered = put_enters t.used t.bytes.now r room kept absent _ written;
      memory = put_is_stored t.used t.bytes.now r room kept absent _ written t.bytes.ghost_name;
    }
