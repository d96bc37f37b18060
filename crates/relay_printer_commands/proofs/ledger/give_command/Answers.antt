use Rattle.std.proofs.Common.{refl}
use Rattle.relay_printer_commands.specs.Printers.EndsGive.{opened, not_opened}
use Rattle.relay_printer_commands.proofs.ledger.give_command.Goals as goal

pub returns-in-Ok : goal.returns-in-Ok
returns-in-Ok g c =
    let gave = rw c.in-Ok.ensures.opens.1 at c.give_from.ensures in
    rw (← c.streams.view_is) (opened c.in-Ok.printer gave.0 gave.1 c.in-Ok.ensures.opens.0 gave.2 gave.3 gave.4 refl)

pub returns-in-Err : goal.returns-in-Err
returns-in-Err g c =
    let is = c.in-Err.ensures.opens in
    rw (← c.streams.view_is) (not_opened is.0 is.1 c.in-Err.ensures.same (is.2, refl))
