use Rattle.std.proofs.Common.{◌≡◌, ◌<◌, ◌≤◌, ℕ, get_or, length}
use Rattle.std.specs.Int.Bits.{bit_xor}
use Rattle.dm_check_blocks.proofs.multiples.sum.Given as goal

abbrev pub invariant-loop-k : goal.invariant-loop-k
invariant-loop-k g l = record {
  size : length l.row ≡ g.row.ROW;
  done : (j : ℕ) → j < l.k → get_or l.row j 0 ≡ bit_xor (get_or l.left j 0) (get_or l.right j 0);
  rest : (j : ℕ) → l.k ≤ j → get_or l.row j 0 ≡ get_or l.left j 0;
}
