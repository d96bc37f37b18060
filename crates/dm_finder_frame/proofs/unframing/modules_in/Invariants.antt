use Rattle.std.proofs.Common.{◌≡◌, ◌*◌}
use Rattle.dm_size.specs.Sizes.{mapping}
use Rattle.dm_finder_frame.specs.{Frame.matrix_module, inner.Filled.first_modules}
use Rattle.dm_finder_frame.proofs.unframing.modules_in.Given as goal

abbrev pub invariant-loop-row : goal.invariant-loop-row
invariant-loop-row g l = l.modules.items ≡ first_modules (mapping l.grid.size) (matrix_module l.grid)
    (l.row * mapping l.grid.size)
