use Rattle.std.proofs.Common.{◌+◌, ◌-◌, arith, drop, length}
use Rattle.std.proofs.lemmas.List.{drop_all, drop_more, length-drop, take_all}
use Rattle.relay_printer_commands.proofs.AuditSteps.{both, pairs_next}
use Rattle.relay_printer_commands.proofs.audit.tell_pairs.Goals as goal

pub loop-i-preserved : goal.loop-i-preserved
loop-i-preserved g c =
    let (text, told, rest) = c.loop-i.invariant in
    let some = c.args.ledgers.now in
    let i = c.loop-i.i in
    let later = rw (take_all (length some - (i + 1)) (drop (i + 1) some) (omega (arith, length-drop (i + 1) some)))
    at c.tell_later-told.ensures in
    let next = rw (drop_more some i c.index-ledgers-i.result c.loop-i-test.true, ← c.index-ledgers-i.is) at rest in (
      _,
      both _ _ _ (both _ _ _ told later) c.tell_tickets-told.ensures,
      pairs_next c.index-ledgers-i.result (drop (i + 1) some) c.args.tickets.now text _ next,
    )

pub returns : goal.returns
returns g c =
    let (text, told, rest) = c.loop-i.invariant in
    rw (← rest) (rw (drop_all c.loop-i.i c.args.ledgers.now c.loop-i-test.false) (both _ _ _ told c.tell_ticket_pairs.ensures))
