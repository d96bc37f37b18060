use Rattle.relay_printer_commands.specs.Printers.ShowsLine.{refused, ticket}
use Rattle.relay_printer_commands.proofs.audit.LineTicket.of_line.Goals as goal

pub returns-in_default : goal.returns-in_default
returns-in_default c = rw c.name.ensures (refused c.in_default.ensures)

pub returns : goal.returns
returns c = rw c.is_lacked-is_open.ensures (ticket c.in-Some.ticket c.in-Some.ensures.0 c.in-Some.ensures.1)
