use Rattle.relay_printer_commands.specs.Printers.{free_line}
use Rattle.relay_shared.proofs.Writing.{puts_before}
use Rattle.relay_printer_commands.proofs.left.put_ranges.Goals as goal

pub returns-in_err-put_free : goal.returns-in_err-put_free
returns-in_err-put_free g c =
    puts_before _ free_line c.args.ranges.now c.loop-range.range-index _ _ c.loop-range-test.true c.loop-range.invariant
    c.from_residual.ensures.1 c.in_err-put_free.ensures
