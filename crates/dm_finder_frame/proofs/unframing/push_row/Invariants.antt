use Rattle.std.proofs.Common.{◌≡◌, ◌+◌, ◌*◌}
use Rattle.dm_size.specs.Sizes.{mapping, region}
use Rattle.dm_finder_frame.specs.{Frame.matrix_module, inner.Filled.first_modules}
use Rattle.dm_finder_frame.proofs.unframing.push_row.Given as goal

abbrev pub invariant-loop-b : goal.invariant-loop-b
invariant-loop-b g l = l.modules.items ≡ first_modules (mapping l.grid.size) (matrix_module l.grid)
    (l.row * mapping l.grid.size + l.b * region l.grid.size)
