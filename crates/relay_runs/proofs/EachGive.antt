-- Each give over an honest store is a run.
use Rattle.std.proofs.Common.{◌≡◌, ◌++◌, inl, ℕ, List, [], None, Some, Result, length, slice_get, refl, sym, ap, subst, ◌∙◌, arith}
use Rattle.std.specs.{Result.result_ok, Option.option_to_list}
use Rattle.std.specs.Prelude.{if◌then◌else◌}
use Rattle.std.proofs.lemmas.List.{append_cancel_left}
use Rattle.dm_print_ledger.specs.declared.{fault.GiveFault.GiveFault, range.Range.Range}
use Rattle.dm_print_ledger.specs.{Ledger.LedgerView, Ledger.PrinterView, Ledger.TicketView, Ledger.running, Verdicts.GivesTicket}
use Rattle.dm_event_history.specs.declared.{event.Event.TheVariants.Give, reply.Reply.Reply, stop.Stop.Stop}
use Rattle.dm_event_history.specs.Relay.{Actor, Relay, Running, stored_of}
use Rattle.dm_event_world.specs.declared.actor.PrinterActor.TheVariants as actors
use Rattle.dm_event_world.specs.{Shows.left_label, inner.Calls.ends_early, inner.Calls.give_reply, inner.Calls.left_ticket}
use Rattle.dm_event_world.proofs.PrinterEvents.{give_ends}
use Rattle.relay_printer_commands.specs.Printers.{EndsGive, EndsGiveLast, OnLedger, EndsGiveLast.gave, EndsGiveLast.too_few, EndsGiveLast.unopened}
use Rattle.relay_printer_commands.specs.Printers.EndsGive.{opened as was_opened, not_opened}
use Rattle.relay_runs.specs.Runs.{ticket_given, ticket_given_last, EachGiveIsARun, FollowsRun, KeepsLedger, grids_of}
use Rattle.relay_runs.proofs.{Plans.IsMet, Plans.fine_printer, Plans.under_stop, Files.holds_file, Files.opened}
use Rattle.relay_runs.proofs.{Calling.met_ended, Calling.met_reply, Calling.shows_opened, Printing.none_mapped}
use Rattle.relay_runs.proofs.{Places.called, Places.restarted, Places.still_within, Uncalled.none_there, Uncalled.uncalled}

-- what a command may meet does not end its call early
lets_ticket : (stop : Stop) (answer : Result TicketView GiveFault) → IsMet stop →
    (if ends_early stop then [] else left_ticket answer) ≡ option_to_list (result_ok answer)
lets_ticket stop answer met = grind arith

module _ (A : Type 0) (relay : Relay) (place : ℕ) (actor : Actor LedgerView) (to : ℕ) (range : Range)
    (number : ℕ) (old new : OnLedger) (status : ℕ) (was : slice_get relay.printers place ≡ Some actor)
    (keeps : KeepsLedger old.saved actor) where
  give_by : (ends : EndsGive number to range old status new) →
      FollowsRun A relay place old.streams.input new.saved None (ticket_given ends)
  give_by (not_opened fault opens same told) = uncalled _ _ _ _ _ _ _ was keeps same
  give_by (was_opened before after answer opens gives same told only) =
      let does = subst (λ (v : PrinterView). GivesTicket v to range answer after)
      (opened old.saved actor number before keeps opens).1 gives in
      let u = under_stop _ _ _ _ (running old.saved (stored_of actor)) after answer refl keeps.honest does.0 in
      let tickets : List TicketView = (restarted relay place (stored_of actor)).tickets in
      let reply : Reply A = give_reply (length tickets) answer in
      let e = give_ends to range u.stop (fine_printer (running old.saved (stored_of actor))) (fine_printer after) _ _ answer
      reply reply tickets (tickets ++ (if ends_early u.stop then [] else left_ticket answer)) refl u.made
      (record { mid = fine_printer after; call = (u.carries, does.1); new_is = refl }) refl refl
      (met_reply u.stop reply u.met) (met_ended u.stop reply (actors.Running (fine_printer after)) u.met)
      (Running (stored_of actor)) (shows_opened A old.saved actor keeps) in
      let none : e.end.goods.labels ≡ [] = none_mapped (left_label {A = A}) e.end.goods.labels (sym e.lets.labels_are) in
      called A relay place actor was old.streams.input new.saved after (Give place to range u.stop) reply None
      (result_ok answer) e same
      (holds_file _ _ _ _ (running old.saved (stored_of actor)) after actor answer refl keeps does.0)
      (λ next goes. inl (still_within A relay place actor was, goes)) (ap grids_of none)
      (λ i label there. absurd (none_there e.end.goods.labels i label none there))
      (sym (append_cancel_left tickets _ _ e.lets.tickets_are) ∙ lets_ticket u.stop answer u.met)
      (λ job is. absurd (cc (is)))

pub give_follows : (A : Type 0) → EachGiveIsARun A
give_follows = give_by

-- so is each give of the last
pub give_last_follows : (A : Type 0) (relay : Relay) (place : ℕ) (actor : Actor LedgerView) (to count number : ℕ)
    (old new : OnLedger) (status : ℕ) → slice_get relay.printers place ≡ Some actor → KeepsLedger old.saved actor →
    (ends : EndsGiveLast number to count old status new) →
    FollowsRun A relay place old.streams.input new.saved None (ticket_given_last ends)
give_last_follows A relay place actor to count number old new status was keeps
    (gave range before after answer last opens gives same told only) =
    give_follows A relay place actor to range number old new status was keeps
    (was_opened before after answer opens gives same told only)
give_last_follows A relay place actor to count number old new status was keeps
    (too_few before most put opens longest less same told notes reads) = uncalled _ _ _ _ _ _ _ was keeps same
give_last_follows A relay place actor to count number old new status was keeps (unopened fault opens same told) =
    uncalled _ _ _ _ _ _ _ was keeps same
