use Rattle.std.proofs.Common.{◌≡◌, ◌+◌, ◌*◌}
use Rattle.dm_size.specs.Sizes.{region, side}
use Rattle.dm_finder_frame.specs.{Frame.grid_module, inner.Filled.first_modules}
use Rattle.dm_finder_frame.proofs.framing.push_band.Given as goal

abbrev pub invariant-loop-place : goal.invariant-loop-place
invariant-loop-place g l = l.modules.items ≡ first_modules (side l.fn.size) (grid_module l.fn.size l.fn.matrix)
    ((l.fn.band * (region l.fn.size + 2) + l.place + 1) * side l.fn.size)
