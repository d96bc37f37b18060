use Rattle.std.proofs.Common.{arith}
use Rattle.dm_encodation.proofs.Prefixes.{fits_none}
use Rattle.dm_encodation.proofs.counting.greatest_prefix.Goals as goal

pub loop-index-init : goal.loop-index-init
loop-index-init c = search (arith, fits_none)
