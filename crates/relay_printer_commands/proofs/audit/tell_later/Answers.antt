use Rattle.relay_printer_commands.specs.Printers.{breach_lines}
use Rattle.relay_printer_commands.proofs.AuditSteps.{told_next}
use Rattle.relay_printer_commands.proofs.audit.tell_later.Goals as goal

pub loop-other-preserved : goal.loop-other-preserved
loop-other-preserved g c = told_next (breach_lines c.args.one.now) c.args.later.now c.loop-other.other-index c.other-item.result
    _ _ _ c.loop-other-test.true c.other-item.is c.loop-other.invariant c.tell_breaches-told.ensures
