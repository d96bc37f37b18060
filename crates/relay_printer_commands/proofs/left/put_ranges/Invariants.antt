use Rattle.std.proofs.Common.{take}
use Rattle.std.specs.{List.flat_map, Io.KnownBytes.Appends}
use Rattle.relay_printer_commands.specs.Printers.{free_line}
use Rattle.relay_printer_commands.proofs.left.put_ranges.Given as goal

-- the lines so far are out
abbrev pub invariant-loop-range : goal.invariant-loop-range
invariant-loop-range g l =
    Appends l.initial.output.contents l.output.contents (flat_map free_line (take l.range-index l.ranges))
