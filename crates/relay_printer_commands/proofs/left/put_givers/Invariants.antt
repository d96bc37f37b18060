use Rattle.std.proofs.Common.{take}
use Rattle.std.specs.{List.flat_map, Io.KnownBytes.Appends}
use Rattle.relay_printer_commands.specs.Printers.{took_line}
use Rattle.relay_printer_commands.proofs.left.put_givers.Given as goal

-- the lines so far are out
abbrev pub invariant-loop-giver : goal.invariant-loop-giver
invariant-loop-giver g l =
    Appends l.initial.output.contents l.output.contents (flat_map took_line (take l.giver-index l.givers))
