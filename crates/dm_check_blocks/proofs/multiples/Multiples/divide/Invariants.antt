use Rattle.std.proofs.Common.{◌≡◌, ◌+◌, ◌<◌, ◌≤◌, ℕ, length}
use Rattle.std.specs.{Prelude.slice_range, List.All}
use Rattle.dm_gf256.specs.Field.{power, value}
use Rattle.dm_check_blocks.specs.inner.Remainders.{row_at}
use Rattle.dm_check_blocks.proofs.multiples.Multiples.divide.Given as goal

abbrev pub invariant-loop-at : goal.invariant-loop-at
invariant-loop-at g l = record {
  values : (w k : ℕ) → w < length l.windows → 1 ≤ k → k ≤ l.self.checks →
      value (slice_range (row_at l.windows w) l.at (l.count + l.self.checks)) (power 2 k) ≡
      value (slice_range (row_at l.fn.windows w) 0 (l.count + l.self.checks)) (power 2 k);
  size : (w : ℕ) → w < length l.windows → length (row_at l.windows w) ≡ 336;
  bytes : (w : ℕ) → w < length l.windows → 0 < l.at → All (λ word. word < 256) (row_at l.windows w);
}
