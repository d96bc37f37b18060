use Rattle.relay_printer_commands.proofs.PlanSteps.{PlanOf}
use Rattle.relay_printer_commands.proofs.plan.plan_of.Given as goal

-- the plan of the sizes so far
abbrev pub invariant-loop-size : goal.invariant-loop-size
invariant-loop-size l = PlanOf l.scheme l.document l.size-items l.size-index l.plan.items
