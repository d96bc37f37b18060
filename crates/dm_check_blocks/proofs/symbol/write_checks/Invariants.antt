use Rattle.std.proofs.Common.{◌≡◌, ◌≢◌, ◌<◌, ◌⊎◌, ◌+◌, ◌%◌, ℕ, get_or}
use Rattle.dm_size.specs.Sizes.{data_words, blocks, block_data}
use Rattle.dm_check_blocks.specs.Blocks.{position}
use Rattle.dm_check_blocks.proofs.symbol.write_checks.Given as goal

abbrev pub invariant-loop-k : goal.invariant-loop-k
invariant-loop-k l = record {
  written : (j : ℕ) → j < l.k → get_or l.words
      (position l.size l.block (block_data l.size + j)) 0 ≡ get_or l.checks j 0;
  others : (p : ℕ) → (p < data_words l.size) ⊎ (p % blocks l.size ≢ l.block) →
      get_or l.words p 0 ≡ get_or l.initial.words p 0;
}
