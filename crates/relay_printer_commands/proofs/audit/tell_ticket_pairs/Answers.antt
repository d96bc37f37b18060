use Rattle.std.proofs.Common.{◌∙◌, ◌+◌, ◌-◌, append_assoc, arith, drop, length}
use Rattle.std.proofs.lemmas.List.{Folds.flat_map-map, drop_more, length-drop, take_all}
use Rattle.relay_printer_commands.specs.Printers.{breach_lines}
use Rattle.relay_printer_commands.specs.inner.Kept.{ticket_evidence}
use Rattle.relay_printer_commands.proofs.AuditSteps.{both}
use Rattle.relay_printer_commands.proofs.audit.tell_ticket_pairs.Goals as goal

pub loop-i-preserved : goal.loop-i-preserved
loop-i-preserved g c =
    let (text, told, rest) = c.loop-i.invariant in
    let some = c.args.tickets.now in
    let i = c.loop-i.i in
    let later = rw (
      take_all (length some - (i + 1)) (drop (i + 1) some) (omega (arith, length-drop (i + 1) some)),
      ← flat_map-map (breach_lines (ticket_evidence c.index-tickets-i.result)) ticket_evidence (drop (i + 1) some),
    ) at c.tell_later_tickets-told.ensures in (
      _,
      both _ _ _ told later,
      append_assoc text _ _ ∙ (rw (drop_more some i c.index-tickets-i.result c.loop-i-test.true, ← c.index-tickets-i.is) at rest),
    )
