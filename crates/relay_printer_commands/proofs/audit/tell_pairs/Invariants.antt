use Rattle.std.proofs.Common.{◌≡◌, ◌++◌, ℕ, List, drop, map}
use Rattle.relay_printer_commands.specs.Printers.{TellsLines, pair_lines}
use Rattle.relay_printer_commands.specs.inner.Kept.{ticket_evidence}
use Rattle.relay_printer_commands.proofs.audit.tell_pairs.Given as goal

-- the lines so far are told, and those of the rest are all others
abbrev pub invariant-loop-i : goal.invariant-loop-i
invariant-loop-i g l = (text : List ℕ) × TellsLines text l.initial.output l.told l.output
    × (text ++ pair_lines (drop l.i l.ledgers ++ map ticket_evidence l.tickets)
    ≡ pair_lines (l.ledgers ++ map ticket_evidence l.tickets))
