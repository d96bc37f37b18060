use Rattle.std.proofs.Common.{arith, ◌≡◌, ◌∙◌, ℕ, Result, Ok, Err, ⊎_elim, inl, inr, refl, ap, subst}
use Rattle.dm_store.specs.Saved.{Saved, MayNotSettle}
use Rattle.dm_print_ledger.specs.Ledger.{PrinterView, TicketView}
use Rattle.dm_print_ledger.specs.Verdicts.{PrinterOpens, TakesTicket, open_verdict, take_verdict}
use Rattle.dm_print_ledger.specs.declared.fault.TakeFault.{TakeFault, TheVariants.Old}
use Rattle.dm_print_ledger.proofs.CarryLaws.{unchanged}
use Rattle.relay_printer_commands.specs.Printers.EndsTake.{no_ticket, opened, not_opened}
use Rattle.relay_printer_commands.proofs.Unsettled.{not_settled}
use Rattle.relay_printer_commands.proofs.tickets.take_command.Goals as goal

-- a printer that answers that a ticket is old has changed nothing
still : (saved : Saved) (number : ℕ) (before after : PrinterView) (ticket : TicketView)
    (answer : Result (Unit {0}) TakeFault) → PrinterOpens saved number (Ok before) → TakesTicket before ticket answer after →
    answer ≡ Err Old → after.saved ≡ saved
still saved number before after ticket answer opens takes is =
    ap (λ (p : PrinterView). p.saved) (unchanged _ _ _ (take_verdict before.ledger ticket) before after Old
    (ap (λ (p : PrinterView). p.is_failed) opens.1) (λ save. absurd (grind (arith, save)))
    (subst (λ (r : Result (Unit {0}) TakeFault). TakesTicket before ticket r after) is takes))
    ∙ ap (λ (p : PrinterView). p.saved) opens.1

pub returns-in_default-clause-ends : goal.returns-in_default-clause-ends
returns-in_default-clause-ends g c =
    rw (← c.streams.view_is) (no_ticket c.in_default.ensures refl (rw c.name.ensures at c.refuse-status.ensures, refl))

pub returns-in_default-clause-settled : goal.returns-in_default-clause-settled
returns-in_default-clause-settled g c =
    inr (inl (rw (← c.streams.view_is) (rw c.name.ensures at c.refuse-status.ensures, refl)))

pub returns-in-Err-clause-ends : goal.returns-in-Err-clause-ends
returns-in-Err-clause-ends g c =
    let is = c.in-Err.ensures.opens in
    rw (← c.streams.view_is) (not_opened is.0 c.in-Some.ensures.0 is.1 c.in-Err.ensures.same (is.2, refl))

pub returns-in-Err-clause-settled : goal.returns-in-Err-clause-settled
returns-in-Err-clause-settled g c =
    let is = c.in-Err.ensures.opens in
    inr (inr (inl (is.0, rw (← c.streams.view_is) (is.2, refl))))

pub returns-in-Err-settle_old-clause-ends : goal.returns-in-Err-settle_old-clause-ends
returns-in-Err-settle_old-clause-ends g c =
    let saved : Saved = g.S.Store.state c.args.store in
    let why = c.in-Err-settle_old.ensures.fault in
    let same : g.S.Store.state c.close-store.result ≡ saved =
    c.close-store.ensures ∙ still saved c.args.number c.in-Ok.printer c.take-answer.new.self c.in-Some.ticket
    c.take-answer.result c.in-Ok.ensures.opens.0 c.take-answer.ensures.takes why.0 in
    let may : MayNotSettle saved why.1 = subst (λ (s : Saved). MayNotSettle s why.1) same why.3 in
    let told = rw (c.name-in-Err-settle_old.ensures, c.in-Ok.ensures.opens.1, why.2) at c.refuse-status-in-Err-settle_old.ensures in
    rw (← c.streams.view_is) (not_opened _ c.in-Some.ensures.0
    (not_settled saved (open_verdict saved.content c.args.number) why.1 may) (c.settle_old.ensures.same ∙ same) (told, refl))

pub returns-in-Err-settle_old-clause-settled : goal.returns-in-Err-settle_old-clause-settled
returns-in-Err-settle_old-clause-settled g c =
    let told = rw (c.name-in-Err-settle_old.ensures, c.in-Ok.ensures.opens.1) at c.refuse-status-in-Err-settle_old.ensures in
    inr (inr (inl (c.in-Err-settle_old.fault, rw (← c.streams.view_is) (told, refl))))

pub returns-clause-ends : goal.returns-clause-ends
returns-clause-ends g c =
    rw (← c.streams.view_is) (opened c.in-Some.ticket c.in-Ok.printer c.take-answer.new.self c.take-answer.result
    c.in-Some.ensures.0 c.in-Some.ensures.1 c.in-Ok.ensures.opens.0 c.take-answer.ensures.takes
    (c.settle_old.ensures.same ∙ c.close-store.ensures)
    (rw (c.in-Ok.ensures.opens.1, c.left-left.ensures.value) at c.tell_take-status.ensures) refl)

pub returns-clause-settled : goal.returns-clause-settled
returns-clause-settled g c =
    let told = rw c.in-Ok.ensures.opens.1 at c.tell_take-status.ensures in
    ⊎_elim (λ settled. inl settled)
    (λ isnt. inr (inr (inr (c.take-answer.result, isnt, c.left-left.result, rw (← c.streams.view_is) told))))
    (c.in-Ok-settle_old.ensures.settled refl)
