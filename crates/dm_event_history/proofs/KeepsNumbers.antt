-- A step moves numbers, and makes or ends none: whichever event it is.
use Rattle.std.proofs.Common.{arith, ◌≡◌, ℕ, Some, length, slice_get, sym, subst}
use Rattle.std.proofs.lemmas.List.{append-nil}
use Rattle.dm_print_ledger.specs.Ledger.{LedgerView, TicketView}
use Rattle.dm_event_history.specs.declared.{event.Event.Event, reply.Reply.Reply, stop.Stop.Stop}
use Rattle.dm_event_history.specs.declared.event.Event.TheVariants.{Print, RestartPrinter, Give, Take}
use Rattle.dm_event_history.proofs.{Gotten.get_more, Taking.take_ends, Taking.taking_order, Taking.taking_places}
use Rattle.dm_event_history.specs.Relay.{Actor, Desk, Goods, Relay, with_desk}
use Rattle.dm_event_history.specs.Steps.{Calls, Ending, TakeComes, take_faults, Acts, PrinterGoes}
use Rattle.dm_event_history.specs.Headline.{EachStepKeepsNumbers, RelayIsInOrder, places}
use Rattle.dm_event_history.proofs.Balance.{Balances, balanced_order, balanced_places, calls_balance, give_balanced, may_lack_balances, print_balanced, restarts_balance}
use Rattle.dm_event_history.proofs.QuietDesks.{ChangesDesk, IsQuiet, quiet_desks}

-- numbers are as many as they were, and in order
abbrev pub KeepsNumbers : Relay → Relay → Type 0
KeepsNumbers old new = RelayIsInOrder new × ((number : ℕ) → places new number ≡ places old number)

printer_keeps : {A : Type 0} (old new : Relay) (printer : ℕ) (Acts : Actor LedgerView → Ending A LedgerView → Type 0)
    (reply : Reply A) → RelayIsInOrder old → Balances Acts → PrinterGoes old printer Acts reply new →
    KeepsNumbers old new
printer_keeps old new printer Acts reply order each g = grind (arith, balanced_order, balanced_places)

taker_keeps : {A : Type 0} (old new : Relay) (printer number : ℕ) (ticket : TicketView) (stop : Stop) (reply : Reply A) →
    RelayIsInOrder old → slice_get old.tickets number ≡ Some ticket →
    PrinterGoes old printer (Calls take_faults stop (TakeComes number ticket)) reply new → KeepsNumbers old new
taker_keeps old new printer number ticket stop reply order there g =
    grind (arith, balanced_order, balanced_places, take_ends, taking_order, taking_places)

quiet_keeps : (old : Relay) (number : ℕ) (desk : Desk) (goods : Goods) → RelayIsInOrder old → IsQuiet goods →
    KeepsNumbers old (with_desk old number desk goods)
quiet_keeps old number desk goods order quiet = grind (arith, append-nil, get_more)

desk_keeps : (old new : Relay) → RelayIsInOrder old → ChangesDesk old new → KeepsNumbers old new
desk_keeps old new order c =
    subst (λ (r : Relay). KeepsNumbers old r) (sym c.new_is) (quiet_keeps old c.number c.desk c.goods order c.quiet)

acts_keep : {A : Type 0} (old new : Relay) (event : Event A) (reply : Reply A) → RelayIsInOrder old →
    Acts old event reply new → KeepsNumbers old new
acts_keep old new (Print printer document size scheme stop) reply order acts =
    printer_keeps old new printer _ reply order
    (may_lack_balances _ (calls_balance _ stop _ (print_balanced (length old.labels) document size scheme))) acts
acts_keep old new (Give printer receiver range stop) reply order acts =
    printer_keeps old new printer _ reply order
    (may_lack_balances _ (calls_balance _ stop _ (give_balanced (length old.tickets) receiver range))) acts
acts_keep old new (Take printer number stop) reply order acts =
    taker_keeps old new printer number acts.0 stop reply order acts.1 acts.2
acts_keep old new (RestartPrinter printer) reply order acts =
    printer_keeps old new printer _ reply order (restarts_balance _) acts
acts_keep old new event reply order acts = desk_keeps old new order (quiet_desks old new event reply tt acts)

pub each_step_keeps_numbers : (A : Type 0) → EachStepKeepsNumbers A
each_step_keeps_numbers A old new event reply order step = grind (arith, acts_keep)
