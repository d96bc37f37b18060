use Rattle.std.proofs.Common.{◌≡◌, ◌<◌, ◌≤◌, ℕ, get_or, length}
use Rattle.dm_check_blocks.specs.Blocks.{position}
use Rattle.dm_check_blocks.proofs.symbol.data_of_block.Given as goal

abbrev pub invariant-loop-i : goal.invariant-loop-i
invariant-loop-i l = record {
  size : length l.data ≡ 336;
  read : (j : ℕ) → j < l.i → get_or l.data j 0 ≡ get_or l.words (position l.size l.block j) 0;
  zeros : (j : ℕ) → l.i ≤ j → get_or l.data j 0 ≡ 0;
}
