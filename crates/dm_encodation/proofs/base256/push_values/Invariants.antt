use Rattle.std.proofs.Common.{◌≡◌, ◌++◌, ◌+◌, drop, vec_len}
use Rattle.dm_encodation.specs.Grammar.{randomised}
use Rattle.dm_encodation.proofs.base256.push_values.Given as goal

abbrev pub invariant-loop-value : goal.invariant-loop-value
invariant-loop-value g l = record {
  place : vec_len l.out ≡ vec_len l.fn.out + l.value-index;
  done : l.out.items ++ randomised (vec_len l.out + 1) (drop l.value-index l.values) ≡ l.fn.out.items ++
      randomised (vec_len l.fn.out + 1) l.values;
}
