use Rattle.std.proofs.Common.{◌≡◌, ◌<◌, ℕ, get_or, length}
use Rattle.dm_gf256.specs.Field.{product}
use Rattle.dm_check_blocks.proofs.multiples.doubled.Given as goal

abbrev pub invariant-loop-k : goal.invariant-loop-k
invariant-loop-k g l = record {
  size : length l.twice ≡ g.row.ROW;
  done : (j : ℕ) → j < l.k → get_or l.twice j 0 ≡ product 2 (get_or l.row j 0);
}
