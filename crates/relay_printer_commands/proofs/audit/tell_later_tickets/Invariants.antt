use Rattle.std.proofs.Common.{take}
use Rattle.std.specs.List.{flat_map}
use Rattle.relay_printer_commands.specs.Printers.{TellsLines, breach_lines}
use Rattle.relay_printer_commands.specs.inner.Kept.{ticket_evidence}
use Rattle.relay_printer_commands.proofs.audit.tell_later_tickets.Given as goal

-- the lines so far are told
abbrev pub invariant-loop-other : goal.invariant-loop-other
invariant-loop-other g l =
    TellsLines (flat_map (λ its. breach_lines (ticket_evidence l.one) (ticket_evidence its)) (take l.other-index l.later)) l.initial.output l.told l.output
