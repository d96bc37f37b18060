use Rattle.std.proofs.Common.{◌≡◌, ◌*◌, take}
use Rattle.dm_size.specs.Sizes.{side}
use Rattle.dm_finder_frame.proofs.grid.LentGrid.copy.Given as goal

abbrev pub invariant-loop-row : goal.invariant-loop-row
invariant-loop-row g l = l.modules.items ≡ take (l.row * side l.self.size) l.self.modules
