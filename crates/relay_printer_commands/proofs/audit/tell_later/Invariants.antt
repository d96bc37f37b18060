use Rattle.std.proofs.Common.{take}
use Rattle.std.specs.List.{flat_map}
use Rattle.relay_printer_commands.specs.Printers.{TellsLines, breach_lines}
use Rattle.relay_printer_commands.proofs.audit.tell_later.Given as goal

-- the lines so far are told
abbrev pub invariant-loop-other : goal.invariant-loop-other
invariant-loop-other g l = TellsLines (flat_map (breach_lines l.one) (take l.other-index l.later)) l.initial.output l.told l.output
