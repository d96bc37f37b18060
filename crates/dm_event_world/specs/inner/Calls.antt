-- What a stop does to a call, how an event at a printer or a desk ends, and the calls of printers.
use Rattle.std.specs.Prelude.{◌≡◌, ℕ, Bool, true, false, ◌++◌, Some, List, map, slice_get, if◌then◌else◌, ◌+◌, [], ◌∷◌, Result, Ok, Err, length, take}
use Rattle.dm_store.specs.declared.{fuse.Kept.TheVariants.Old, fuse.Kept.TheVariants.New, mem_store.NextSave.NextSave}
use Rattle.dm_store.specs.declared.mem_store.NextSave.TheVariants.{Fine, FaultOld, FaultNew}
use Rattle.dm_event_history.specs.{declared.stop.Stop.Stop, declared.reply.Reply.Reply, Steps.Ending, Steps.Restarts}
use Rattle.dm_event_history.specs.declared.stop.Stop.TheVariants.{BeforeSave, InSave, SaveFault, AfterLabels}
use Rattle.dm_print_ledger.specs.Ledger.{TicketView, JobView, LedgerView, PrinterView}
use Rattle.dm_assembly_desk.specs.Documents.{IsEntry}
use Rattle.dm_event_history.specs.declared.reply.Reply.TheVariants.{Memory, Stopped, PrintRefused, GiveRefused, TakeRefused, ScanRefused, ForgetRefused, ImportRefused, Printed, Given, Taken, PrinterRefused}
use Rattle.dm_event_history.specs.Relay.{Actor, stored_of, Goods, Export}
use Rattle.dm_event_world.specs.declared.actor.{LeftLabel.LeftLabel, LeftExport.LeftExport, PrinterActor.PrinterActor}
use Rattle.dm_event_world.specs.Shows.{left_label, left_export, ShowsPrinter}
use Rattle.dm_finder_frame.specs.Frame.{GridView}
use Rattle.dm_store.specs.Saved.{Saved, save_plan_of}
use Rattle.dm_print_ledger.specs.declared.fault.{PrintFault.PrintFault, GiveFault.GiveFault, TakeFault.TakeFault}
use Rattle.dm_print_ledger.specs.{declared.range.Range.Range, Verdicts.opening}
use Rattle.dm_event_world.specs.declared.actor.PrinterActor.TheVariants.{Running, Down}
use Rattle.dm_print_ledger.specs.declared.fault.PrintFault.TheVariants as print_fault
use Rattle.dm_print_ledger.specs.declared.fault.GiveFault.TheVariants as give_fault
use Rattle.dm_print_ledger.specs.declared.fault.TakeFault.TheVariants as take_fault
use Rattle.dm_assembly_desk.specs.declared.fault.ScanFault.TheVariants as scan_fault
use Rattle.dm_assembly_desk.specs.declared.fault.ForgetFault.TheVariants as forget_fault
use Rattle.dm_assembly_desk.specs.declared.fault.ImportFault.TheVariants as import_fault
use Rattle.dm_print_ledger.specs.declared.fault.OpenFault.TheVariants as open_fault
use Rattle.dm_event_history.specs.Relay as actor_states

-- what the next save is to do
abbrev pub next_save_of : Stop → NextSave
next_save_of (SaveFault Old) = FaultOld
next_save_of (SaveFault New) = FaultNew
next_save_of other = Fine

-- whether the call is stopped before the new content is held
abbrev pub stops_before : Stop → Bool
stops_before BeforeSave = true
stops_before (InSave Old) = true
stops_before other = false

-- whether the call ends before its reply
abbrev pub ends_early : Stop → Bool
ends_early BeforeSave = true
ends_early (InSave kept) = true
ends_early (AfterLabels most) = true
ends_early other = false

-- how many labels leave at most: a document has no more than 16
abbrev pub most_labels : Stop → ℕ
most_labels (AfterLabels most) = most
most_labels (InSave kept) = 0
most_labels other = 255

-- The call is made with the plan of the stop for the next save, and then the plan is fine again. `planned` is what is
-- seen of a printer or a desk with another plan.
pub record IsMadeUnder {V X : Type 0} (planned : V → NextSave → V) (stop : Stop) (Call : V → X → V → Type 0)
    (old : V) (answer : X) (new : V) : Type 0 where
  pub mid : V
  pub call : Call (planned old (next_save_of stop)) answer mid
  pub new_is : new ≡ planned mid Fine

-- the reply tells that the call's own memory was refused
abbrev pub lacks_memory : {A : Type 0} → Reply A → Bool
lacks_memory (PrintRefused print_fault.Memory) = true
lacks_memory (GiveRefused give_fault.Memory) = true
lacks_memory (TakeRefused take_fault.Memory) = true
lacks_memory (ScanRefused scan_fault.Memory) = true
lacks_memory (ForgetRefused forget_fault.Memory) = true
lacks_memory (ImportRefused import_fault.Memory) = true
lacks_memory other = false

-- the reply, if the call was made and would be answered with this one; and what runs or is down after it
abbrev pub ended_reply : {A : Type 0} → Stop → Reply A → Reply A
ended_reply stop reply = if ends_early stop then (if lacks_memory reply then Memory else Stopped) else reply

abbrev pub state_after : {A S : Type 0} → (S → S) → Stop → Reply A → S → S
state_after down stop reply state =
    if ends_early stop then (if lacks_memory reply then state else down state) else state

-- what had left a world, and with these goods
pub record Left {A : Type 0} (labels : List (LeftLabel A)) (tickets : List TicketView) (exports : List (LeftExport A))
    (goods : Goods) (all_labels : List (LeftLabel A)) (all_tickets : List TicketView)
    (all_exports : List (LeftExport A)) : Type 0 where
  pub labels_are : all_labels ≡ labels ++ map left_label goods.labels
  pub tickets_are : all_tickets ≡ tickets ++ goods.tickets
  pub exports_are : all_exports ≡ exports ++ map left_export goods.exports
  pub entries : (number : ℕ) (export : Export) → slice_get goods.exports number ≡ Some export →
      IsEntry export.id export.pages

-- `Acts` says what the call does to what is shown, `Lets` what holds of the goods
pub record EndsSo {A C S : Type 0} (Shows : S → Actor C → Type 0) (Acts : Actor C → Ending A C → Type 0)
    (Lets : Goods → Type 0) (shown : Actor C) (reply : Reply A) (new : S) : Type 0 where
  pub end : Ending A C
  pub acts : Acts shown end
  pub reply_is : reply ≡ end.reply
  pub shows : Shows new end.actor
  pub lets : Lets end.goods

-- the same, whatever was shown
abbrev pub EndsEach : {A C S : Type 0} → (S → Actor C → Type 0) → (Actor C → Ending A C → Type 0) → (Goods → Type 0) →
    S → Reply A → S → Type 0
EndsEach {A} {C} {S} Shows Acts Lets old reply new =
    (shown : Actor C) → Shows old shown → EndsSo {A = A} Shows Acts Lets shown reply new

-- the store of a printer, and a printer that is down
abbrev pub saved_of : {A : Type 0} → PrinterActor A → Saved
saved_of (Running view) = view.saved
saved_of (Down saved) = saved

abbrev pub down_printer : {A : Type 0} → PrinterActor A → PrinterActor A
down_printer actor = Down (saved_of actor)

-- the printer with this plan for its next save
abbrev pub planned : PrinterView → NextSave → PrinterView
planned view next = record view { saved = record view.saved { save_plan = save_plan_of next } }

-- the labels of a job, from this number on
abbrev pub left_labels : {A : Type 0} → ℕ → ℕ → ℕ → List GridView → List (LeftLabel A)
left_labels id count number [] = []
left_labels id count number (grid ∷ grids) =
    record { id = id; number = number; count = count; grid = grid } ∷ left_labels id count (number + 1) grids

-- the labels that leave by a print with this answer, at most this many
abbrev pub job_labels : {A : Type 0} → ℕ → Result JobView PrintFault → List (LeftLabel A)
job_labels most (Ok job) = left_labels job.id job.count 1 (take most job.labels)
job_labels most (Err fault) = []

-- the replies for these answers, after `before` other labels or tickets
abbrev pub print_reply : {A : Type 0} → ℕ → Result JobView PrintFault → Reply A
print_reply before (Ok job) = Printed job.id before job.count
print_reply before (Err fault) = PrintRefused fault

abbrev pub give_reply : {A : Type 0} → ℕ → Result TicketView GiveFault → Reply A
give_reply before (Ok ticket) = Given before ticket
give_reply before (Err fault) = GiveRefused fault

abbrev pub take_reply : {A : Type 0} → Result (Unit {0}) TakeFault → Reply A
take_reply (Ok done) = Taken
take_reply (Err fault) = TakeRefused fault

-- the ticket of a give leaves if the give is answered with it
abbrev pub left_ticket : Result TicketView GiveFault → List TicketView
left_ticket (Ok ticket) = ticket ∷ []
left_ticket (Err fault) = []

-- The printer with this number after a restart: it runs with what is stored, or is down.
abbrev pub RestartsAs : {A : Type 0} → ℕ → PrinterActor A → Reply A → PrinterActor A → Type 0
RestartsAs {A} number old reply new = (shown : Actor LedgerView) → ShowsPrinter old shown →
    (stored_of shown).number ≡ number →
    EndsSo ShowsPrinter (Restarts (PrinterRefused open_fault.Memory)) (λ goods. Left {A = A} [] [] [] goods [] [] [])
    shown reply new

-- the printers that a world begins with: one for each range, with the numbers of that range
pub record AreFresh {A : Type 0} (ranges : List Range) (printers : List (PrinterActor A)) : Type 0 where
  pub count : length printers ≡ length ranges
  pub each : (number : ℕ) (range : Range) (actor : PrinterActor A) →
      slice_get ranges number ≡ Some range → slice_get printers number ≡ Some actor →
      ShowsPrinter actor (actor_states.Running (opening number range))
