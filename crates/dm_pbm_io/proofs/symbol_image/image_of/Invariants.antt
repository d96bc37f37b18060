use Rattle.std.proofs.Common.{◌+◌}
use Rattle.dm_size.specs.Sizes.{side}
use Rattle.dm_finder_frame.specs.Frame.{square_of}
use Rattle.dm_pbm_io.specs.inner.Streaming.{IsDrawnTo}
use Rattle.dm_pbm_io.proofs.symbol_image.image_of.Given as goal

abbrev pub invariant-loop-row : goal.invariant-loop-row
invariant-loop-row g l = IsDrawnTo (square_of l.grid) (side l.grid.size + 2) l.row l.pixels.items
