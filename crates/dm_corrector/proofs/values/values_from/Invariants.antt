use Rattle.std.proofs.Common.{◌≡◌, ◌<◌, ◌+◌, ℕ, get_or, length, take}
use Rattle.dm_gf256.specs.Field.{numbers, power, value}
use Rattle.dm_corrector.proofs.values.values_from.Given as goal

abbrev pub invariant-loop-coefficient : goal.invariant-loop-coefficient
invariant-loop-coefficient l = record {
  room : length l.values + 8 ≡ length l.powers;
  values : (k : ℕ) → k < length l.values →
      get_or l.values k 0 ≡ value (numbers (take l.coefficient-index l.polynomial)) (power 2 (l.first + k));
}
