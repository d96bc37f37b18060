use Rattle.std.proofs.Common.{arith}
use Rattle.dm_encodation.proofs.Prefixes.{fits_front}
use Rattle.dm_encodation.proofs.counting.fit.Goals as goal

pub returns : goal.returns
returns c = fits_front c.args.scheme c.args.room c.min-most.result c.args.bytes.now c.greatest_prefix.result
    (omega arith) (λ lt. omega arith) c.greatest_prefix.ensures
