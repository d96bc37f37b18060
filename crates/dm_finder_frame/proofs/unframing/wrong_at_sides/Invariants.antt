use Rattle.std.proofs.Common.{◌≡◌, ◌≤◌, ◌+◌, ◌*◌}
use Rattle.dm_size.specs.Sizes.{side, region}
use Rattle.dm_finder_frame.specs.inner.Filled.{wrong_among}
use Rattle.dm_finder_frame.proofs.unframing.wrong_at_sides.Given as goal

abbrev pub invariant-loop-b : goal.invariant-loop-b
invariant-loop-b l = record {
  counted : l.wrong ≡ wrong_among l.grid (l.fn.row * side l.grid.size) (l.b * (region l.grid.size + 2));
  most : l.wrong ≤ 2 * l.b;
}
