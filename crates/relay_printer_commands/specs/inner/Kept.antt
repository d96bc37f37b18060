-- What `audit` keeps of a line, of a ticket, and of ledgers and tickets together.
use Rattle.std.specs.Prelude.{◌==◌, ◌-◌, ◌++◌, ◌||◌, Bool, ℕ, List, [], None, Option, Some, if◌then◌else◌, length, map, slice_index, take}
use Rattle.std.specs.Str.Lines.{strip_carriage_return}
use Rattle.dm_print_ledger.specs.Verdicts.{share_numbers, share_ticket, shown_of_ticket}
use Rattle.relay_printer_commands.specs.Printers.{EvidenceView}
use Rattle.relay_printer_commands.specs.declared.audit.LineTicket.{LineTicket}

-- a line without the line feed that ends it, and without a carriage return before that
abbrev pub without_end : List ℕ → List ℕ
without_end line =
    if slice_index line (length line - 1) == 10 then strip_carriage_return (take (length line - 1) line) else line

-- what the ticket of a line shows
abbrev pub ticket_evidence : LineTicket → EvidenceView
ticket_evidence one = record {
  place = one.place;
  fault = [];
  ticket = Some one.ticket;
  shown = shown_of_ticket one.ticket one.is_open;
}

-- what ledgers show, and then what tickets show; or nothing if some of either was lost
abbrev pub with_tickets : Option (List EvidenceView) → Option (List LineTicket) → Option (List EvidenceView)
with_tickets None tickets = None
with_tickets (Some ledgers) None = None
with_tickets (Some ledgers) (Some tickets) = Some (ledgers ++ map ticket_evidence tickets)

-- both show some ticket, or some ID as free
abbrev pub may_clash : EvidenceView → EvidenceView → Bool
may_clash one other = share_ticket one.shown other.shown || share_numbers one.shown other.shown
