use Rattle.std.proofs.Common.{◌≡◌, ◌+◌, ◌*◌}
use Rattle.dm_size.specs.Sizes.{side, region}
use Rattle.dm_finder_frame.specs.{Frame.grid_module, inner.Filled.first_modules}
use Rattle.dm_finder_frame.proofs.framing.push_inner_row.Given as goal

abbrev pub invariant-loop-b : goal.invariant-loop-b
invariant-loop-b g l = l.modules.items ≡ first_modules (side l.fn.size) (grid_module l.fn.size l.fn.matrix)
    (l.fn.row * side l.fn.size + l.b * (region l.fn.size + 2))
