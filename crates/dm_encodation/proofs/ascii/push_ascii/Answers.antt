use Rattle.dm_encodation.proofs.AsciiWords.{ascii_done}
use Rattle.dm_encodation.proofs.ascii.push_ascii.Goals as goal

pub returns : goal.returns
returns g c = ascii_done _ c.loop-piece.rest.now _ c.in_default.ensures.words c.loop-piece.invariant
