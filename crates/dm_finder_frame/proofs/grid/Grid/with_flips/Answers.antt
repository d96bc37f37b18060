use Rattle.std.proofs.Common.{rules, add-one, slice_index_or}
use Rattle.dm_finder_frame.proofs.Flips.{next_flip}
use Rattle.dm_finder_frame.proofs.grid.Grid.with_flips.Goals as goal

pub loop-row-preserved : goal.loop-row-preserved
loop-row-preserved k c = search (rules, slice_index_or, next_flip, add-one)
