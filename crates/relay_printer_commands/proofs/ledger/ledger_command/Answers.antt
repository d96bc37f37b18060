use Rattle.std.proofs.Common.{refl}
use Rattle.relay_printer_commands.specs.Printers.EndsLedger.{created, refused}
use Rattle.relay_shared.proofs.Telling.{told}
use Rattle.relay_printer_commands.proofs.ledger.ledger_command.Goals as goal

pub returns-in-Ok : goal.returns-in-Ok
returns-in-Ok g c =
    let left = told _ (rw c.left.ensures.value at c.put_left.ensures) c.status_after-status.ensures in
    rw (← c.streams.view_is, c.close-store.ensures) (created c.in-Ok.printer c.in-Ok.ensures (left, refl))

pub returns-in-Err : goal.returns-in-Err
returns-in-Err g c =
    let line = rw c.name.ensures at c.refuse-status.ensures in
    rw (← c.streams.view_is) (refused c.in-Err.field-0.fault c.in-Err.ensures (line, refl))
