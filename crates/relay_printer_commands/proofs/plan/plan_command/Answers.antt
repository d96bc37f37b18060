use Rattle.std.proofs.Common.{◌≡◌, Err, ap, length, refl, rules}
use Rattle.relay_printer_commands.specs.Printers.EndsPlan.{planned, too_long, not_read}
use Rattle.relay_printer_commands.proofs.PlanSteps.{no_plan, some_planned}
use Rattle.relay_shared.proofs.Telling.{told}
use Rattle.relay_printer_commands.proofs.plan.plan_command.Goals as goal

pub returns-in-Err-clause-ends : goal.returns-in-Err-clause-ends
returns-in-Err-clause-ends g c =
    rw (← c.streams.view_is) (not_read c.in-Err.fault c.read_document.new.input
    (record {
      read = λ e. c.in-Err.ensures.failed (ap Err e);
      memory = λ e. c.in-Err.ensures.unread (ap Err e);
    }) (rw c.name.ensures at c.refuse.ensures, refl))

pub returns-then-is_empty-clause-ends : goal.returns-then-is_empty-clause-ends
returns-then-is_empty-clause-ends g c =
    let none : length c.plan_of-plan.result.items ≡ 0 = search rules in
    rw (← c.streams.view_is) (too_long c.in-Ok.document.items c.read_document.new.input c.in-Ok.ensures.taken
    (rw c.deref.ensures.value at (no_plan _ _ c.plan_of-plan.result.items c.plan_of-plan.ensures none))
    (rw c.name-then-is_empty.ensures at c.refuse-then-is_empty.ensures, refl))

pub returns-clause-ends : goal.returns-clause-ends
returns-clause-ends g c =
    let lines = told _ (rw c.as_slice.ensures.value at c.put_plan.ensures) c.status_after.ensures in
    rw (← c.streams.view_is) (planned c.in-Ok.document.items c.read_document.new.input c.plan_of-plan.result.items
    c.in-Ok.ensures.taken (rw c.deref.ensures.value at c.plan_of-plan.ensures)
    (some_planned c.plan_of-plan.result.items c.is_empty.result c.is_empty.ensures c.if-is_empty.false) (lines, refl))
