use Rattle.std.proofs.Common.{◌∙◌, sym, arith}
use Rattle.relay_printer_commands.proofs.PlanSteps.{all_planned, one_more, passed_over}
use Rattle.relay_printer_commands.proofs.plan.plan_of.Goals.{in-Some, in_default}
use Rattle.relay_printer_commands.proofs.plan.plan_of.Goals as goal

pub loop-size-preserved : goal.loop-size-preserved
loop-size-preserved c = elim c.match-label_count.branch [
  | in-Some w ↦ rw (w.plan-is, w.push.ensures.items, w.side.ensures.value)
      (one_more c.args.scheme c.args.document.now c.all-size-items.result c.loop-size.size-index _ c.loop-size.plan.items
      c.loop-size.invariant (omega arith) w.in-Some.count c.all-size-items.ensures.rising
      (rw w.in-Some.is at c.label_count.ensures.some)
      (λ other has. let same = sym w.in-Some.is ∙ c.label_count.ensures.exact other has in cc))
  | in_default w ↦ rw w.plan-is
      (passed_over c.args.scheme c.args.document.now c.all-size-items.result c.loop-size.size-index _
      c.loop-size.plan.items c.loop-size.invariant (omega arith)
      (λ count has. let wrong = sym w.in_default.is ∙ c.label_count.ensures.exact count has in cc))
]

pub returns : goal.returns
returns c =
    all_planned c.args.scheme c.args.document.now c.all-size-items.result c.loop-size.size-index c.loop-size.plan.items
    (omega arith) c.all-size-items.ensures.each c.loop-size.invariant
