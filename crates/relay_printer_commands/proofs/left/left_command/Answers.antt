use Rattle.std.proofs.Common.{arith, refl}
use Rattle.relay_printer_commands.specs.Printers.EndsLeft.{shown, refused}
use Rattle.relay_shared.proofs.Telling.{told}
use Rattle.relay_printer_commands.proofs.left.left_command.Goals as goal

pub returns-in-Ok-clause-ends : goal.returns-in-Ok-clause-ends
returns-in-Ok-clause-ends g c =
    rw (← c.streams.view_is) (shown c.in-Ok.shown c.in-Ok.ensures.loads c.shown_settled.ensures.same
    (told _ c.put_shown.ensures c.status_after-status.ensures, refl))

pub returns-in-Err-clause-ends : goal.returns-in-Err-clause-ends
returns-in-Err-clause-ends g c =
    let line = rw c.name.ensures at c.refuse-status.ensures in
    rw (← c.streams.view_is) (refused c.in-Err.fault c.in-Err.ensures.loads c.shown_settled.ensures.same (line, refl))

pub returns-in-Err-clause-settled : goal.returns-in-Err-clause-settled
returns-in-Err-clause-settled g c = λ zero. absurd (grind (arith, c.refuse-status.ensures, zero))
