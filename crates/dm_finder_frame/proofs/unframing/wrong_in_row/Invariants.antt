use Rattle.std.proofs.Common.{◌≡◌, ◌≤◌, ◌*◌}
use Rattle.dm_size.specs.Sizes.{side}
use Rattle.dm_finder_frame.specs.inner.Filled.{wrong_among}
use Rattle.dm_finder_frame.proofs.unframing.wrong_in_row.Given as goal

abbrev pub invariant-loop-column : goal.invariant-loop-column
invariant-loop-column l = record {
  counted : l.wrong ≡ wrong_among l.grid (l.row * side l.grid.size) l.column;
  most : l.wrong ≤ l.column;
}
