use Rattle.std.proofs.Common.{◌≢◌, ℕ, ◌<◌, slice_index_or}
use Rattle.dm_size.specs.{declared.size.Size.Size, Sizes.side}
use Rattle.dm_size.proofs.size.Size.of_side.Given as goal

-- no size so far has this side
abbrev pub invariant-loop-size : goal.invariant-loop-size
invariant-loop-size l = (k : ℕ) (d : Size) → k < l.size-index → side (slice_index_or l.size-items k d) ≢ l.fn.side
