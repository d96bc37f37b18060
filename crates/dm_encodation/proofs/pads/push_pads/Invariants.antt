use Rattle.std.proofs.Common.{◌≡◌, ◌++◌, ◌+◌, ◌-◌}
use Rattle.dm_encodation.specs.Grammar.{later_pads}
use Rattle.dm_encodation.proofs.pads.push_pads.Given as goal

abbrev pub invariant-loop-position : goal.invariant-loop-position
invariant-loop-position g l = record {
  done : l.out.items ++ later_pads l.position (l.capacity + 1 - l.position) ≡ l.initial.out.items ++
      later_pads l.initial.position (l.capacity + 1 - l.initial.position);
}
