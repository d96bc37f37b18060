use Rattle.std.specs.Prelude.{◌%◌}
use Rattle.std.proofs.Common.{◌≡◌, ◌≤◌, ◌+◌, ◌*◌}
use Rattle.dm_size.specs.Sizes.{region, side}
use Rattle.dm_finder_frame.specs.inner.Filled.{wrong_among}
use Rattle.dm_finder_frame.proofs.unframing.wrong_count.Given as goal

abbrev pub invariant-loop-row : goal.invariant-loop-row
invariant-loop-row l = record {
  counted : l.wrong ≡ wrong_among l.grid 0 (l.row * side l.grid.size);
  most : l.wrong ≤ l.row * side l.grid.size;
  place : l.place ≡ l.row % (region l.grid.size + 2);
}
