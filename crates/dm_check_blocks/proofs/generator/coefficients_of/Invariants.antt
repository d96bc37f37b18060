use Rattle.std.proofs.Common.{◌≡◌, ◌<◌, ◌≤◌, ◌+◌, ℕ, get_or, length, take}
use Rattle.dm_gf256.specs.Field.{power, value}
use Rattle.dm_check_blocks.proofs.generator.coefficients_of.Given as goal

abbrev pub invariant-loop-k : goal.invariant-loop-k
invariant-loop-k l = record {
  size : length l.coefficients ≡ 69;
  first : get_or l.coefficients 0 0 ≡ 1;
  zeros : (j : ℕ) → l.k < j → get_or l.coefficients j 0 ≡ 0;
  roots : (j : ℕ) → 1 ≤ j → j ≤ l.k → value (take (l.k + 1) l.coefficients) (power 2 j) ≡ 0;
}
