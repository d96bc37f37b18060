use Rattle.relay_printer_commands.specs.Printers.{breach_lines}
use Rattle.relay_printer_commands.specs.inner.Kept.{ticket_evidence}
use Rattle.relay_printer_commands.proofs.AuditSteps.{told_next}
use Rattle.relay_printer_commands.proofs.audit.tell_tickets.Goals as goal

pub loop-ticket-preserved : goal.loop-ticket-preserved
loop-ticket-preserved g c =
    told_next (λ its. breach_lines c.args.one.now (ticket_evidence its)) c.args.tickets.now c.loop-ticket.ticket-index
    c.ticket-item.result _ _ _ c.loop-ticket-test.true c.ticket-item.is c.loop-ticket.invariant
    (rw c.evidence.ensures at c.tell_breaches-told.ensures)
