use Rattle.std.proofs.Common.{sym, ◌∙◌}
use Rattle.relay_printer_commands.specs.Printers.{breach_lines}
use Rattle.relay_printer_commands.specs.inner.Kept.{ticket_evidence}
use Rattle.relay_printer_commands.proofs.AuditSteps.{no_clash, quiet_next, told_next}
use Rattle.relay_printer_commands.proofs.audit.tell_later_tickets.Goals as goal
use Rattle.relay_printer_commands.proofs.audit.tell_later_tickets.Goals.{then-may_clash, else-may_clash}

pub loop-other-preserved : goal.loop-other-preserved
loop-other-preserved g c = elim c.if-may_clash.branch [
  | then-may_clash w ↦ rw (w.told-is, w.output-is)
      (told_next (λ its. breach_lines (ticket_evidence c.args.one.now) (ticket_evidence its)) c.args.later.now
      c.loop-other.other-index c.other-item.result _ _ _ c.loop-other-test.true c.other-item.is c.loop-other.invariant
      w.tell_clash-told.ensures)
  | else-may_clash w ↦ rw (w.told-is, w.output-is)
      (quiet_next (λ its. breach_lines (ticket_evidence c.args.one.now) (ticket_evidence its)) c.args.later.now
      c.loop-other.other-index c.other-item.result _ _ c.loop-other-test.true c.other-item.is
      (no_clash c.args.one.now c.other-item.result (sym c.may_clash.ensures ∙ w.if-may_clash.false)) c.loop-other.invariant)
]
