use Rattle.relay_shared.proofs.Writing.{puts_both, puts_first}
use Rattle.relay_printer_commands.proofs.tickets.put_lines.Goals as goal

pub returns-in_err-put_from : goal.returns-in_err-put_from
returns-in_err-put_from g c = puts_first _ _ _ c.from_residual.ensures.1 c.in_err-put_from.ensures

pub returns : goal.returns
returns g c = puts_both _ c.in_ok-put_from.ensures c.put_check.ensures
