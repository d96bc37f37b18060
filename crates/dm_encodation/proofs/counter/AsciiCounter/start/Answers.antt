use Rattle.std.proofs.Common.{refl}
use Rattle.dm_encodation.proofs.AsciiWords.{counts_none}
use Rattle.dm_encodation.proofs.counter.AsciiCounter.start.Goals as goal

pub returns : goal.returns
returns c = counts_none _ refl refl
