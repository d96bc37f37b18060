use Rattle.std.proofs.Common.{ap, ◌∙◌}
use Rattle.relay.specs.Program.{SystemView, lacks_memory}
use Rattle.relay.proofs.system.System.do_line.Goals as goal

pub returns-in-Ok : goal.returns-in-Ok
returns-in-Ok g c = rw c.in-Ok.is at c.do_with-ended.ensures

pub returns-in-Err : goal.returns-in-Err
returns-in-Err g c =
    let lacks = rw c.in-Err.is at c.do_with-ended.ensures in
    lacks_memory lacks.0 (c.refuse.ensures.places ∙ ap (λ (s : SystemView). s.places) lacks.1)
    (rw (ap (λ (s : SystemView). s.standard) lacks.1, c.refuses_on_errors.ensures) at c.refuse.ensures.told)
