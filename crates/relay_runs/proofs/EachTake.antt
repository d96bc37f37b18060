-- Each take over an honest store, of a ticket that left, is a run.
use Rattle.std.proofs.Common.{◌≡◌, inl, false, ℕ, List, [], Some, None, Result, Ok, Err, slice_get, refl, sym, ap, subst, ◌∙◌}
use Rattle.std.proofs.lemmas.Option.{slice_get_within}
use Rattle.std.specs.Prelude.{IfSome}
use Rattle.dm_print_ledger.specs.{declared.fault.TakeFault.TakeFault, Verdicts.TakesTicket}
use Rattle.dm_print_ledger.specs.declared.fault.TakeFault.TheVariants as take_fault
use Rattle.dm_print_ledger.specs.Ledger.{LedgerView, PrinterView, TicketView, running}
use Rattle.dm_print_ledger.proofs.CarryLaws.{unchanged}
use Rattle.dm_event_history.specs.declared.{event.Event.TheVariants.Take, reply.Reply.Reply}
use Rattle.dm_event_history.specs.Relay.{Actor, Relay, Running, stored_of}
use Rattle.dm_event_history.proofs.Gotten.{get_more}
use Rattle.dm_event_world.specs.declared.actor.PrinterActor.TheVariants as actors
use Rattle.dm_event_world.specs.{Shows.left_label, inner.Calls.take_reply}
use Rattle.dm_event_world.proofs.PrinterEvents.{take_ends}
use Rattle.relay_printer_commands.specs.Printers.{EndsTake, OnLedger, HasTicket, IsTextOf}
use Rattle.relay_printer_commands.specs.Printers.EndsTake.{no_ticket, opened as was_opened, not_opened}
use Rattle.relay_runs.specs.Runs.{if_taken, ticket_taken, EachTakeIsARun, FollowsRun, KeepsLedger, grids_of}
use Rattle.relay_runs.proofs.{Plans.fine_printer, Plans.under_stop, Files.holds_file, Files.opened}
use Rattle.relay_runs.proofs.{Calling.met_ended, Calling.met_reply, Calling.shows_opened, Printing.none_mapped}
use Rattle.relay_runs.proofs.{Places.called, Places.still_within, TicketTexts.text_range, Uncalled.none_there, Uncalled.uncalled}

module _ (A : Type 0) (relay : Relay) (place : ℕ) (actor : Actor LedgerView) (text : List ℕ)
    (number : ℕ) (old new : OnLedger) (status : ℕ) (was : slice_get relay.printers place ≡ Some actor)
    (keeps : KeepsLedger old.saved actor) where
  abbrev Done : Type 0
  Done = FollowsRun A relay place old.streams.input new.saved None None

  module _ (ticket : TicketView) (before after : PrinterView) (has : HasTicket text) (is : IsTextOf text ticket)
      (is_open : before ≡ running old.saved (stored_of actor)) (same : new.saved ≡ after.saved) where
    taken : (answer : Result (Unit {0}) TakeFault) → TakesTicket before ticket answer after →
        ((it : ℕ) × (slice_get relay.tickets it ≡ Some ticket)) → Done
    taken answer takes left =
        let does = subst (λ (v : PrinterView). TakesTicket v ticket answer after) is_open takes in
        let u = under_stop _ _ _ _ (running old.saved (stored_of actor)) after answer refl keeps.honest does in
        let reply : Reply A = take_reply answer in
        let e = take_ends left.0 ticket u.stop (fine_printer (running old.saved (stored_of actor))) (fine_printer after) _ _
        answer reply reply refl u.made (record { mid = fine_printer after; call = u.carries; new_is = refl })
        (λ fine. text_range text ticket has is) refl (met_reply u.stop reply u.met)
        (met_ended u.stop reply (actors.Running (fine_printer after)) u.met) (Running (stored_of actor))
        (shows_opened A old.saved actor keeps) in
        let none : e.end.goods.labels ≡ [] = none_mapped (left_label {A = A}) e.end.goods.labels (sym e.lets.labels_are) in
        let there = get_more relay.tickets [] left.0 ticket left.1 in
        called A relay place actor was old.streams.input new.saved after (Take place left.0 u.stop) reply None None e same
        (holds_file _ _ _ _ (running old.saved (stored_of actor)) after actor answer refl keeps does)
        (λ next goes. inl (
          (still_within A relay place actor was, slice_get_within _ left.0 ticket there),
          (ticket, there, goes),
        ))
        (ap grids_of none) (λ i label at. absurd (none_there e.end.goods.labels i label none at)) (sym e.lets.tickets_are)
        (λ job is. absurd (cc (is)))

    -- a refusal changes nothing
    not_taken : (fault : TakeFault) → (fault ≡ take_fault.Save → ⊥) → TakesTicket before ticket (Err fault) after → Done
    not_taken fault isnt takes =
        let runs : before.is_failed ≡ false = ap (λ (v : PrinterView). v.is_failed) is_open in
        uncalled _ _ _ _ _ _ _ was keeps (same ∙ ap (λ (v : PrinterView). v.saved)
        (unchanged _ _ _ _ before after fault runs isnt takes ∙ is_open))

    by_answer : (answer : Result (Unit {0}) TakeFault) → TakesTicket before ticket answer after →
        IfSome (if_taken answer ticket) (λ ticket. (it : ℕ) × (slice_get relay.tickets it ≡ Some ticket)) → Done
    by_answer (Ok done) takes left = taken (Ok done) takes left
    by_answer (Err take_fault.Save) takes left = taken (Err take_fault.Save) takes left
    by_answer (Err fault) takes left = not_taken fault (λ e. cc (e)) takes

  take_by : (ends : EndsTake number text old status new) →
      IfSome (ticket_taken ends) (λ ticket. (it : ℕ) × (slice_get relay.tickets it ≡ Some ticket)) → Done
  take_by (no_ticket has same told) left = uncalled _ _ _ _ _ _ _ was keeps same
  take_by (not_opened fault has opens same told) left = uncalled _ _ _ _ _ _ _ was keeps same
  take_by (was_opened ticket before after answer has is opens takes same told only) left =
      let is_open = opened old.saved actor number before keeps opens in
      by_answer ticket before after has is is_open.1 same answer takes left

pub take_follows : (A : Type 0) → EachTakeIsARun A
take_follows = take_by
