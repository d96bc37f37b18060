use Rattle.std.proofs.Common.{◌≡◌, ◌<◌, ℕ, get_or}
use Rattle.dm_size.specs.Sizes.{data_words}
use Rattle.dm_check_blocks.specs.inner.Remainders.{row_at, HoldsChecks}
use Rattle.dm_check_blocks.proofs.symbol.write_blocks.Given as goal

abbrev pub invariant-loop-block : goal.invariant-loop-block
invariant-loop-block l = record {
  written : (b : ℕ) → b < l.block → HoldsChecks l.size b l.words (row_at l.windows b);
  kept : (p : ℕ) → p < data_words l.size → get_or l.words p 0 ≡ get_or l.fn.words p 0;
}
