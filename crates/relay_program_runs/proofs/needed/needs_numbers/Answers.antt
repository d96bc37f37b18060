use Rattle.std.proofs.Common.{refl, arith}
use Rattle.relay_runs.proofs.TicketTexts.{ten_text}
use Rattle.relay_program_runs.proofs.{Steps.done_so, ShortLists.numbers_needed}
use Rattle.relay_program_runs.proofs.needed.needs_numbers.Goals as goal

pub returns : goal.returns
returns g c = λ well.
    let st = c.all_well.ensures well in
    numbers_needed
    (done_so c.nothing.ensures refl (st 0 0 (omega arith)) c.done-one.ensures)
    (done_so c.nothing-2.ensures refl (st 1 0 (omega arith)) c.done-two.ensures)
    (done_so c.nothing-3.ensures refl (st 2 0 (omega arith)) c.done-three.ensures)
    (done_so refl refl (st 3 0 (omega arith)) c.done-four.ensures)
    (done_so refl refl (st 4 0 (omega arith)) c.done-five.ensures)
    (done_so refl refl (st 5 0 (omega arith)) c.done-six.ensures)
    (done_so refl refl (st 6 0 (omega arith)) c.done-seven.ensures)
    (done_so refl refl (st 7 0 (omega arith)) c.done-eight.ensures)
    refl refl refl refl refl refl refl refl ten_text ten_text
