use Rattle.std.proofs.Common.{◌≡◌, ◌<◌, ℕ, get_or, length}
use Rattle.dm_gf256.specs.Field.{product}
use Rattle.dm_check_blocks.specs.inner.Remainders.{row_at}
use Rattle.dm_check_blocks.proofs.multiples.multiples_of.Given as goal

abbrev pub invariant-loop-factor : goal.invariant-loop-factor
invariant-loop-factor g l = record {
  count : length l.rows ≡ 16;
  size : (f : ℕ) → f < 16 → length (row_at l.rows f) ≡ g.row.ROW;
  done : (f k : ℕ) → f < l.factor → k < g.row.ROW → get_or (row_at l.rows f) k 0 ≡ product f (get_or l.row k 0);
}
