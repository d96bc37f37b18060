use Rattle.std.proofs.Common.{◌<◌, ℕ}
use Rattle.dm_check_blocks.specs.inner.Remainders.{row_at, HoldsData}
use Rattle.dm_check_blocks.proofs.symbol.read_blocks.Given as goal

abbrev pub invariant-loop-block : goal.invariant-loop-block
invariant-loop-block l = (b : ℕ) → b < l.block → HoldsData l.size b l.words (row_at l.windows b)
