use Rattle.std.proofs.Common.{◌≡◌, ◌<◌, ◌≤◌, ℕ}
use Rattle.dm_check_blocks.specs.inner.Remainders.{row_at, IsStep}
use Rattle.dm_check_blocks.proofs.multiples.Multiples.step_each.Given as goal

abbrev pub invariant-loop-window : goal.invariant-loop-window
invariant-loop-window g l = record {
  done : (w : ℕ) → w < l.window → IsStep l.self.checks l.at (row_at l.fn.windows w) (row_at l.windows w);
  rest : (w : ℕ) → l.window ≤ w → row_at l.windows w ≡ row_at l.fn.windows w;
}
