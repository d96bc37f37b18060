use Rattle.std.proofs.Common.{◌≡◌, ◌+◌, ◌*◌}
use Rattle.dm_size.specs.Sizes.{region, side}
use Rattle.dm_finder_frame.specs.{Frame.grid_module, inner.Filled.first_modules}
use Rattle.dm_finder_frame.proofs.framing.frame.Given as goal

abbrev pub invariant-loop-band : goal.invariant-loop-band
invariant-loop-band g l = l.modules.items ≡ first_modules (side l.size) (grid_module l.size l.matrix)
    (l.band * (region l.size + 2) * side l.size)
