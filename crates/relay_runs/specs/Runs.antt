-- What a printer answered to commands, by their contracts: the job of a print, and the tickets of a give and a take.
use Rattle.std.specs.Prelude.{ℕ, List, Option, None, Some, Result, Ok, Err, ◌≡◌, [], ◌∷◌, map, slice_get, IsTrue, IfSome}
use Rattle.std.specs.{Result.result_ok, Option.option_to_list}
use Rattle.dm_encodation.specs.declared.scheme.Scheme.{Scheme}
use Rattle.dm_size.specs.declared.size.Size.{Size}
use Rattle.dm_print_ledger.specs.declared.fault.TakeFault.{TakeFault, TheVariants.Save}
use Rattle.dm_print_ledger.specs.declared.range.Range.{Range}
use Rattle.dm_print_ledger.specs.Ledger.{JobView, TicketView, LedgerView, is_sound, ledger_bytes}
use Rattle.relay_command.specs.declared.command.Labels.{Labels}
use Rattle.relay_printer_commands.specs.Printers.{EndsPrint, PrintsDocument, EndsGive, EndsGiveLast, EndsTake, OnLedger, EndsPrint.no_side, EndsPrint.not_read, EndsPrint.too_long, EndsPrint.read, EndsGiveLast.gave, EndsGiveLast.too_few, EndsGiveLast.unopened}
use Rattle.relay_printer_commands.specs.Printers.PrintsDocument.{opened as print_opened, not_opened as print_not_opened}
use Rattle.relay_printer_commands.specs.Printers.EndsGive.{opened as give_opened, not_opened as give_not_opened}
use Rattle.relay_printer_commands.specs.Printers.EndsTake.{no_ticket, opened as take_opened, not_opened as take_not_opened}
use Rattle.dm_finder_frame.specs.Frame.{GridView}
use Rattle.dm_store.specs.Saved.{Saved}
use Rattle.dm_event_history.specs.Relay.{Actor, Goods, Label, Relay, Used, stored_of, with_printer}
use Rattle.dm_event_history.specs.Steps.{IsRun, Moment}
use Rattle.relay_streams.specs.Streams.{InputView}
use Rattle.relay_shared.specs.Command.{ReadsDocument}

-- ---- what a printer answered

-- the job of a print, if the printer answered with one: from then on its ID is used, whatever goes out
abbrev pub job_printed : {number : ℕ} {size : Size} {scheme : Scheme} {document : List ℕ} {old new : OnLedger} {status : ℕ} →
    PrintsDocument number size scheme document old status new → Option JobView
job_printed (print_opened before after answer opens prints same told) = result_ok answer
job_printed (print_not_opened fault opens same told) = None

abbrev pub job_ended : {number : ℕ} {labels : Labels} {scheme : Scheme} {old new : OnLedger} {status : ℕ} →
    EndsPrint number labels scheme old status new → Option JobView
job_ended (read size document rest is_read chosen prints) = job_printed prints
job_ended (no_side side same told) = None
job_ended (not_read fault rest side failed same told) = None
job_ended (too_long document rest side is_read long same told) = None

-- the ticket of a give, if the printer answered with one
abbrev pub ticket_given : {number to : ℕ} {range : Range} {old new : OnLedger} {status : ℕ} →
    EndsGive number to range old status new → Option TicketView
ticket_given (give_opened before after answer opens gives same told only) = result_ok answer
ticket_given (give_not_opened fault opens same told) = None

abbrev pub ticket_given_last : {number to count : ℕ} {old new : OnLedger} {status : ℕ} →
    EndsGiveLast number to count old status new → Option TicketView
ticket_given_last (gave range before after answer last opens gives same told only) = result_ok answer
ticket_given_last (too_few before most put opens longest less same told notes reads) = None
ticket_given_last (unopened fault opens same told) = None

-- a ticket that was taken, or may have been, since the save failed
abbrev pub if_taken : Result (Unit {0}) TakeFault → TicketView → Option TicketView
if_taken (Ok done) ticket = Some ticket
if_taken (Err Save) ticket = Some ticket
if_taken (Err fault) ticket = None

abbrev pub ticket_taken : {number : ℕ} {text : List ℕ} {old new : OnLedger} {status : ℕ} →
    EndsTake number text old status new → Option TicketView
ticket_taken (take_opened ticket before after answer has is opens takes same told only) = if_taken answer ticket
ticket_taken (no_ticket has same told) = None
ticket_taken (take_not_opened fault has opens same told) = None

-- ---- A command of a printer changes its store, and lets out goods, as a run of the machine does.

-- the store is honest, and holds the bytes of the sound ledger that the printer stores
pub record KeepsLedger (saved : Saved) (actor : Actor LedgerView) : Type 0 where
  pub honest : IsTrue saved.is_honest
  pub sound : IsTrue (is_sound (stored_of actor))
  pub content : saved.content ≡ Some (ledger_bytes (stored_of actor))

-- These moments led from this relay to one in which only this printer may have changed, and these goods left. The store
-- holds what the printer stores.
pub record RunLeadsTo {A : Type 0} (relay : Relay) (place : ℕ) (saved : Saved) (moments : List (Moment A))
    (goods : Goods) (after : Relay) : Type 0 where
  pub run : IsRun relay moments after
  pub actor : Actor LedgerView
  pub there : slice_get after.printers place ≡ Some actor
  pub keeps : KeepsLedger saved actor
  pub after_is : after ≡ with_printer relay place actor goods

abbrev pub grids_of : List Label → List GridView
grids_of labels = map (λ label. label.grid) labels

abbrev pub grids_in : Option JobView → List GridView
grids_in None = []
grids_in (Some job) = job.labels

-- the label is one of the job, and was cut from a document that was read
pub record IsOfJob (input : InputView) (job : Option JobView) (label : Label) : Type 0 where
  pub it : JobView
  pub job_is : job ≡ Some it
  pub id_is : label.page.id ≡ it.id
  pub rest : InputView
  pub read : ReadsDocument input rest label.cut.bytes

-- A command that left this store did what some run from this relay does: the labels that left are those of its job, the
-- tickets are its ticket, and the ID of its job was used.
pub record FollowsRun (A : Type 0) (relay : Relay) (place : ℕ) (input : InputView) (saved : Saved)
    (job : Option JobView) (ticket : Option TicketView) : Type 0 where
  pub moments : List (Moment A)
  pub goods : Goods
  pub after : Relay
  pub runs : RunLeadsTo relay place saved moments goods after
  pub labels : grids_of goods.labels ≡ grids_in job
  pub printed : (i : ℕ) (label : Label) → slice_get goods.labels i ≡ Some label → IsOfJob input job label
  pub tickets : goods.tickets ≡ option_to_list ticket
  pub used : (it : JobView) → job ≡ Some it → goods.moves ≡ Used it.id ∷ []

-- ---- laws: each command at the ledger of a printer, over an honest store that holds what the printer stores

abbrev pub EachPrintIsARun : Type 0 → Type 0
EachPrintIsARun A = (relay : Relay) (place : ℕ) (actor : Actor LedgerView) (labels : Labels) (scheme : Scheme) (number : ℕ)
    (old new : OnLedger) (status : ℕ) → slice_get relay.printers place ≡ Some actor → KeepsLedger old.saved actor
    → (ends : EndsPrint number labels scheme old status new)
    → FollowsRun A relay place old.streams.input new.saved (job_ended ends) None

abbrev pub EachGiveIsARun : Type 0 → Type 0
EachGiveIsARun A = (relay : Relay) (place : ℕ) (actor : Actor LedgerView) (to : ℕ) (range : Range) (number : ℕ)
    (old new : OnLedger) (status : ℕ) → slice_get relay.printers place ≡ Some actor → KeepsLedger old.saved actor
    → (ends : EndsGive number to range old status new)
    → FollowsRun A relay place old.streams.input new.saved None (ticket_given ends)

-- a ticket that was taken in left before
abbrev pub EachTakeIsARun : Type 0 → Type 0
EachTakeIsARun A = (relay : Relay) (place : ℕ) (actor : Actor LedgerView) (text : List ℕ) (number : ℕ)
    (old new : OnLedger) (status : ℕ) → slice_get relay.printers place ≡ Some actor → KeepsLedger old.saved actor
    → (ends : EndsTake number text old status new)
    → IfSome (ticket_taken ends) (λ ticket. (it : ℕ) × (slice_get relay.tickets it ≡ Some ticket))
    → FollowsRun A relay place old.streams.input new.saved None None
