use Rattle.std.proofs.Common.{take}
use Rattle.std.specs.{List.flat_map, Io.KnownBytes.Appends}
use Rattle.relay_printer_commands.specs.Printers.{side_line}
use Rattle.relay_printer_commands.proofs.plan.put_plan.Given as goal

-- the lines so far are out
abbrev pub invariant-loop-planned : goal.invariant-loop-planned
invariant-loop-planned g l =
    Appends l.initial.output.contents l.output.contents (flat_map side_line (take l.planned-index l.plan))
