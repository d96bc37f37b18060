use Rattle.relay_shared.proofs.Writing.{puts_both, puts_first}
use Rattle.relay_printer_commands.proofs.left.put_shown.Goals as goal

pub returns-in_err-put_left : goal.returns-in_err-put_left
returns-in_err-put_left g c =
    puts_both _ (rw c.number.ensures at c.in_ok-put_number.ensures)
    (puts_first _ _ _ c.from_residual-in_err-put_left.ensures.1 (rw c.left.ensures at c.in_err-put_left.ensures))

pub returns-in_err-put_ranges : goal.returns-in_err-put_ranges
returns-in_err-put_ranges g c =
    puts_both _ (rw c.number.ensures at c.in_ok-put_number.ensures)
    (puts_both _ (rw c.left.ensures at c.in_ok-put_left.ensures)
    (puts_first _ _ _ c.from_residual-in_err-put_ranges.ensures.1
    (rw c.free.ensures.same at c.in_err-put_ranges.ensures)))

pub returns-in_err-put_given : goal.returns-in_err-put_given
returns-in_err-put_given g c =
    puts_both _ (rw c.number.ensures at c.in_ok-put_number.ensures)
    (puts_both _ (rw c.left.ensures at c.in_ok-put_left.ensures)
    (puts_both _ (rw c.free.ensures.same at c.in_ok-put_ranges.ensures)
    (puts_first _ _ _ c.from_residual-in_err-put_given.ensures.1 (rw c.given.ensures at c.in_err-put_given.ensures))))

pub returns : goal.returns
returns g c =
    puts_both _ (rw c.number.ensures at c.in_ok-put_number.ensures)
    (puts_both _ (rw c.left.ensures at c.in_ok-put_left.ensures)
    (puts_both _ (rw c.free.ensures.same at c.in_ok-put_ranges.ensures)
    (puts_both _ (rw c.given.ensures at c.in_ok-put_given.ensures)
    (rw c.givers.ensures at c.put_givers.ensures))))
