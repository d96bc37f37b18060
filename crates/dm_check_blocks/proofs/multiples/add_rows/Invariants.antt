use Rattle.std.proofs.Common.{◌≡◌, ◌<◌, ◌≤◌, ℕ, get_or}
use Rattle.std.specs.Int.Bits.{bit_xor}
use Rattle.dm_check_blocks.proofs.multiples.add_rows.Given as goal

abbrev pub invariant-loop-k : goal.invariant-loop-k
invariant-loop-k g l = record {
  done : (j : ℕ) → j < l.k → get_or l.words j 0 ≡ bit_xor (get_or l.fn.words j 0)
      (bit_xor (get_or l.low j 0) (get_or l.high j 0));
  rest : (j : ℕ) → l.k ≤ j → get_or l.words j 0 ≡ get_or l.fn.words j 0;
}
