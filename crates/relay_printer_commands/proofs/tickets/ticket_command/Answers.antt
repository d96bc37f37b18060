use Rattle.std.proofs.Common.{refl}
use Rattle.relay_printer_commands.specs.Printers.EndsTicket.{shown, no_ticket}
use Rattle.relay_shared.proofs.Telling.{told}
use Rattle.relay_printer_commands.proofs.tickets.ticket_command.Goals as goal

pub returns : goal.returns
returns g c =
    rw (← c.streams.view_is) (shown c.in-Some.ticket c.checked-whole.result c.in-Some.ensures.0 c.in-Some.ensures.1
    (rw c.bytes.ensures at c.checked-whole.ensures.checked)
    (told _ c.put_lines.ensures c.status_after.ensures, refl))

pub returns-in_default : goal.returns-in_default
returns-in_default g c =
    rw (← c.streams.view_is) (no_ticket c.in_default.ensures (rw c.name.ensures at c.refuse.ensures, refl))
