use Rattle.std.proofs.Common.{◌≡◌, ◌<◌, ◌≤◌, ℕ, get_or}
use Rattle.std.specs.Int.Bits.{bit_xor}
use Rattle.dm_gf256.specs.Field.{product}
use Rattle.dm_gf256.proofs.multiple.add_multiple.Given as goal

abbrev pub invariant-loop-i : goal.invariant-loop-i
invariant-loop-i l = record {
  done : (k : ℕ) → k < l.i → get_or l.target k 0 ≡ bit_xor (get_or l.fn.target k 0)
      (product l.factor (get_or l.source k 0));
  rest : (k : ℕ) → l.i ≤ k → get_or l.target k 0 ≡ get_or l.fn.target k 0;
}
