use Rattle.std.proofs.Common.{◌≡◌, take}
use Rattle.dm_finder_frame.specs.Frame.{flipped}
use Rattle.dm_finder_frame.proofs.grid.Grid.with_flips.Given as goal

abbrev pub invariant-loop-row : goal.invariant-loop-row
invariant-loop-row g l = record {
  size : l.grid.size ≡ l.self.size;
  flipped : l.grid ≡ flipped l.self (take l.row-index l.flips);
}
