use Rattle.std.proofs.Common.{arith}
use Rattle.std.proofs.Math.Nat.{mul-le-mul}
use Rattle.dm_finder_frame.proofs.GridPlaces.{most_mapping}
use Rattle.dm_finder_frame.proofs.unframing.modules_of.Goals as goal

pub modules_in-requires : goal.modules_in-requires
modules_in-requires c =
    let most = most_mapping c.args.grid.now.size in (omega arith, mul-le-mul most most)
