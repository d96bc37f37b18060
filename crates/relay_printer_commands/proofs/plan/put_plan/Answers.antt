use Rattle.relay_printer_commands.specs.Printers.{side_line}
use Rattle.relay_shared.proofs.Writing.{puts_before}
use Rattle.relay_printer_commands.proofs.plan.put_plan.Goals as goal

pub returns-in_err-put_side : goal.returns-in_err-put_side
returns-in_err-put_side g c =
    puts_before _ side_line c.args.plan.now c.loop-planned.planned-index _ _ c.loop-planned-test.true
    c.loop-planned.invariant c.from_residual.ensures.1 c.in_err-put_side.ensures
