use Rattle.tape.proofs.Places.{used_chunks}
use Rattle.tape.proofs.Tape.parts.Goals as goal

pub returns : goal.returns
returns c = used_chunks _ _ _ c.args.self.now.fits c.as_chunks.ensures.front
