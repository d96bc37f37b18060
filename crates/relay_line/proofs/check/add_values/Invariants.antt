use Rattle.std.proofs.Common.{◌≡◌, ◌&&◌, ◌==◌, map, take, string_len}
use Rattle.std.specs.List.{list_all}
use Rattle.relay_line.specs.Rules.{takes}
use Rattle.relay_line.proofs.check.add_values.Given as goal

-- the values so far
abbrev pub invariant-loop-value : goal.invariant-loop-value
invariant-loop-value l = (string_len l.faults == 0)
    ≡ ((string_len l.initial.faults == 0) && list_all (takes l.row.2) (map (λ value. value.now) (take l.value-index l.values)))
