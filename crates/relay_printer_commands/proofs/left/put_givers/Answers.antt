use Rattle.relay_printer_commands.specs.Printers.{took_line}
use Rattle.relay_shared.proofs.Writing.{puts_before}
use Rattle.relay_printer_commands.proofs.left.put_givers.Goals as goal

pub returns-in_err-put_took : goal.returns-in_err-put_took
returns-in_err-put_took g c =
    puts_before _ took_line c.args.givers.now c.loop-giver.giver-index _ _ c.loop-giver-test.true c.loop-giver.invariant
    c.from_residual.ensures.1 c.in_err-put_took.ensures
