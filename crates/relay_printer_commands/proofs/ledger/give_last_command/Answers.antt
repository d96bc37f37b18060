use Rattle.std.proofs.Common.{◌∙◌, ap, refl}
use Rattle.dm_print_ledger.specs.Ledger.{PrinterView}
use Rattle.relay_printer_commands.specs.Printers.EndsGiveLast.{gave, too_few, unopened}
use Rattle.relay_printer_commands.proofs.ledger.give_last_command.Goals as goal

pub returns-in-Err : goal.returns-in-Err
returns-in-Err g c =
    let is = c.in-Err.ensures.opens in
    rw (← c.streams.view_is) (unopened is.0 is.1 c.in-Err.ensures.same (is.2, refl))

pub returns-in-Ok-last_free : goal.returns-in-Ok-last_free
returns-in-Ok-last_free g c =
    let was = rw c.in-Ok.ensures.opens.1 at c.give_from.ensures in
    rw (← c.streams.view_is) (gave c.in-Ok-last_free.range c.in-Ok.printer was.0 was.1 c.in-Ok-last_free.ensures
    c.in-Ok.ensures.opens.0 was.2 was.3 was.4 refl)

pub returns-in-Err-last_free : goal.returns-in-Err-last_free
returns-in-Err-last_free g c =
    let few = c.in-Err-last_free.ensures in
    rw (← c.streams.view_is) (too_few c.in-Ok.printer c.in-Err-last_free.most c.note_longest.result c.in-Ok.ensures.opens.0
    few.0 few.1 (c.close-store.ensures ∙ ap (λ (p : PrinterView). p.saved) c.in-Ok.ensures.opens.0.1)
    (rw (c.name.ensures, c.in-Ok.ensures.opens.1) at c.refuse-status.ensures) c.note_longest.ensures refl)
