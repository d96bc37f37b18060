use Rattle.std.proofs.Common.{refl, arith}
use Rattle.relay_program_runs.proofs.{Steps.done_so, ShortLists.ranges_needed}
use Rattle.relay_program_runs.proofs.needed.needs_ranges.Goals as goal

pub returns : goal.returns
returns g c = λ well.
    let st = c.all_well.ensures well in
    ranges_needed
    (done_so c.nothing.ensures refl (st 0 0 (omega arith)) c.done-one.ensures)
    (done_so c.nothing-2.ensures refl (st 1 0 (omega arith)) c.done-two.ensures)
    (done_so refl refl (st 2 0 (omega arith)) c.done-three.ensures)
    (done_so refl refl (st 3 0 (omega arith)) c.done-four.ensures) refl refl refl refl
