-- What holds of every size, by computing at each.
use Rattle.std.proofs.Common.{arith}
use Rattle.dm_size.specs.{declared.size.Size.Size, declared.size.Size.TheVariants.Side10, Sizes.row, Sizes.SizeIsSound}

-- what holds of every size, by computing at each
pub sound : (s : Size) → SizeIsSound s
unfolding row
sound Side10 = grind arith
sound _ = grind arith
