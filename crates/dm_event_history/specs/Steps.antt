-- What becomes of a call: it is done or stopped, or its save fails, or memory is refused. Then what each call comes to.
use Rattle.std.specs.Prelude.{◌≡◌, ◌⊎◌, ℕ, [], ◌++◌, map, take, ◌+◌, Option, None, Some, List, ◌∷◌, length, Result, Ok, Err, IsOk, IsSomeAnd, IsTrue, is_some, ◌==◌, Bool, false, true, ◌<◌, slice_get, All}
use Rattle.dm_store.specs.declared.fuse.Kept.TheVariants.{Old, New}
use Rattle.dm_print_ledger.specs.Ledger.{TicketView, LedgerView, is_sound, is_range}
use Rattle.dm_event_history.specs.declared.{reply.Reply.Reply, stop.Stop.Stop, event.Event.Event}
use Rattle.dm_event_history.specs.declared.stop.Stop.TheVariants.{BeforeSave, InSave, SaveFault, AfterLabels}
use Rattle.dm_event_history.specs.Relay.{Actor, Running, Failed, Down, stored_of, Goods, Move, Lost, no_goods, CutDocument, Label, Used, Took, Relay, Desk, with_printer, with_desk}
use Rattle.dm_size.specs.{declared.size.Size.Size, Sizes.side}
use Rattle.dm_encodation.specs.declared.scheme.Scheme.{Scheme}
use Rattle.dm_append_label.specs.{Labels.PageView, Labels.AreParts, Labels.HasNoEnds, Opening.LabelOpens}
use Rattle.dm_print_ledger.specs.declared.range.Range.{Range}
use Rattle.dm_print_ledger.specs.Verdicts.{least, IsLabelOf, print_verdict, give_verdict, take_verdict, ticket_of}
use Rattle.dm_event_history.specs.declared.reply.Reply.TheVariants.{Printed, PrintRefused, Given, GiveRefused, Taken, TakeRefused, Scanned, ScanRefused, Document, AskRefused, Forgotten, ForgetRefused, Exported, ExportRefused, Imported, ImportRefused, Stopped, NoSuch, PrinterRefused, DeskRefused}
use Rattle.dm_finder_frame.specs.Frame.{GridView, flipped}
use Rattle.dm_append_label.specs.declared.fault.LabelFault.{LabelFault}
use Rattle.dm_assembly_desk.specs.declared.{reply.Accepted.Accepted, adding.AddFault.AddFault, fault.AskFault.AskFault}
use Rattle.dm_assembly_desk.specs.declared.fault.{ScanFault.ScanFault, ForgetFault.ForgetFault, ImportFault.ImportFault}
use Rattle.dm_assembly_desk.specs.Documents.{Pages, mask, Documents}
use Rattle.dm_assembly_desk.specs.Desk.{Verdict, Stays, Becomes, add_verdict, lone, scan_of, import_of, forget_verdict, Asks}
use Rattle.dm_event_history.specs.declared.event.Event.TheVariants.{Print, Scan, RestartPrinter, RestartDesk, Ask, Forget, Give, Take, Export, Import}
use Rattle.std.specs.FinMap as finite
use Rattle.dm_event_history.specs.Relay as relays
use Rattle.dm_event_history.specs.declared.reply.Reply.TheVariants as replies
use Rattle.dm_event_history.specs.declared.stop.Stop.TheVariants as stops
use Rattle.dm_print_ledger.specs.declared.fault.PrintFault.TheVariants as print_fault
use Rattle.dm_print_ledger.specs.declared.fault.GiveFault.TheVariants as give_fault
use Rattle.dm_print_ledger.specs.declared.fault.TakeFault.TheVariants as take_fault
use Rattle.dm_assembly_desk.specs.declared.reply.Imported as imported_type
use Rattle.dm_assembly_desk.specs.declared.fault.ScanFault.TheVariants as scan_fault
use Rattle.dm_assembly_desk.specs.declared.fault.ForgetFault.TheVariants as forget_fault
use Rattle.dm_assembly_desk.specs.declared.fault.ExportFault.TheVariants as export_fault
use Rattle.dm_assembly_desk.specs.declared.fault.ImportFault.TheVariants as import_fault
use Rattle.dm_print_ledger.specs.declared.fault.OpenFault.TheVariants as open_fault
use Rattle.dm_assembly_desk.specs.declared.fault.DeskFault.TheVariants as desk_fault

-- ---- calls

-- What a call comes to if nothing stops it: it saves this content, lets these goods out and gives this answer; or it
-- answers without a save; or memory for it is refused.
pub data Course (A C : Type 0) : Type 0 where
  Saves : C → Goods → Reply A → Course A C
  Answers : Reply A → Course A C
  LacksMemory : Course A C

-- the replies of a kind of call when its printer or desk had failed, when its save fails, and when memory is refused
pub record Faults (A : Type 0) : Type 0 where
  pub failed : Reply A
  pub save : Reply A
  pub memory : Reply A

-- those of a kind of call that is refused in this way
abbrev pub faults_of : {A F : Type 0} → (F → Reply A) → F → F → F → Faults A
faults_of refused failed save memory = record { failed = refused failed; save = refused save; memory = refused memory }

-- how a call ends: with this reply, with its printer or desk like this, and with these goods
pub record Ending (A C : Type 0) : Type 0 where
  pub reply : Reply A
  pub actor : Actor C
  pub goods : Goods

abbrev pub ending : {A C : Type 0} → Reply A → Actor C → Goods → Ending A C
ending reply actor goods = record { reply = reply; actor = actor; goods = goods }

-- a ticket that does not leave
abbrev pub lost : TicketView → Move
lost ticket = Lost ticket.range

-- if a call saved and was not answered, at most this many of its labels left, and no ticket
abbrev pub cut_off : ℕ → Goods → Goods
cut_off most goods = record {
  labels = take most goods.labels;
  tickets = [];
  exports = [];
  moves = goods.moves ++ map lost goods.tickets;
}

-- The table: how a call ends, by its stop and by what it comes to.
abbrev pub ends : {A C : Type 0} → Faults A → Stop → Course A C → Actor C → Ending A C
-- it is stopped before the new content is stored, whatever it would have come to
ends faults BeforeSave course old = ending replies.Stopped (Down (stored_of old)) no_goods
ends faults (InSave Old) course old = ending replies.Stopped (Down (stored_of old)) no_goods
-- it saves
ends faults stops.None (Saves next goods reply) old = ending reply (Running next) goods
ends faults (SaveFault Old) (Saves next goods reply) old = ending faults.save (Failed (stored_of old) (stored_of old)) no_goods
ends faults (SaveFault New) (Saves next goods reply) old = ending faults.save (Failed (stored_of old) next) (cut_off 0 goods)
ends faults (InSave New) (Saves next goods reply) old = ending replies.Stopped (Down next) (cut_off 0 goods)
ends faults (AfterLabels most) (Saves next goods reply) old = ending replies.Stopped (Down next) (cut_off most goods)
-- it answers without a save
ends faults stops.None (Answers reply) old = ending reply old no_goods
ends faults (SaveFault kept) (Answers reply) old = ending reply old no_goods
ends faults (InSave New) (Answers reply) old = ending replies.Stopped (Down (stored_of old)) no_goods
ends faults (AfterLabels most) (Answers reply) old = ending replies.Stopped (Down (stored_of old)) no_goods
-- memory is refused
ends faults stops.None LacksMemory old = ending faults.memory old no_goods
ends faults (SaveFault kept) LacksMemory old = ending faults.memory old no_goods
ends faults (InSave New) LacksMemory old = ending replies.Memory old no_goods
ends faults (AfterLabels most) LacksMemory old = ending replies.Memory old no_goods

-- If a call is stopped before the new content is stored, nothing is asked of what it comes to.
abbrev pub Reaches : Stop → Type 0 → Type 0
Reaches BeforeSave Came = Unit {0}
Reaches (InSave Old) Came = Unit {0}
Reaches stop Came = Came

-- A saving call of a printer or desk, by what it comes to if that runs. One that has failed says so; one that is down
-- is not called, and then the stop has no effect.
abbrev pub Calls : {A C : Type 0} → Faults A → Stop → (C → Course A C → Type 0) → Actor C → Ending A C → Type 0
Calls {A} {C} faults stop Comes (Running held) end =
    (course : Course A C) × Reaches stop (Comes held course) × (end ≡ ends faults stop course (Running held))
Calls faults stop Comes (Failed shown stored) end = end ≡ ends faults stop (Answers faults.failed) (Failed shown stored)
Calls faults stop Comes (Down stored) end = end ≡ ending replies.Down (Down stored) no_goods

-- Memory may be refused first, for what the world keeps of the call; then nothing changes.
abbrev pub MayLackFirst : {A C : Type 0} → (Actor C → Ending A C → Type 0) → Actor C → Ending A C → Type 0
MayLackFirst Acts (Running held) end = (end ≡ ending replies.Memory (Running held) no_goods) ⊎ Acts (Running held) end
MayLackFirst Acts (Failed shown stored) end =
    (end ≡ ending replies.Memory (Failed shown stored) no_goods) ⊎ Acts (Failed shown stored) end
MayLackFirst Acts (Down stored) end = Acts (Down stored) end

-- A call that saves nothing is answered from what is shown, even by one that has failed.
abbrev pub Looks : {A C : Type 0} → (C → Reply A → Goods → Type 0) → Actor C → Ending A C → Type 0
Looks Tells (Running held) end = Tells held end.reply end.goods × (end.actor ≡ Running held)
Looks Tells (Failed shown stored) end = Tells shown end.reply end.goods × (end.actor ≡ Failed shown stored)
Looks Tells (Down stored) end = end ≡ ending replies.Down (Down stored) no_goods

-- After a restart it runs with what is stored; if memory is refused, the reply is `refused`, and it is down.
abbrev pub Restarts : {A C : Type 0} → Reply A → Actor C → Ending A C → Type 0
Restarts refused old end =
    (end ≡ ending replies.Restarted (Running (stored_of old)) no_goods)
    ⊎ (end ≡ ending refused (Down (stored_of old)) no_goods)

-- What a verdict on a ledger comes to: the new ledger is saved and goods leave, or the fault is the answer.
abbrev pub IsCourse : {A F : Type 0} → (F → Reply A) → Result LedgerView F → (Goods → Reply A → Type 0) →
    Course A LedgerView → Type 0
IsCourse refuses verdict Leaves (Saves next goods reply) = (verdict ≡ Ok next) × Leaves goods reply
IsCourse {A} {F} refuses verdict Leaves (Answers reply) = (fault : F) × (verdict ≡ Err fault) × (reply ≡ refuses fault)
IsCourse refuses verdict Leaves LacksMemory = IsOk verdict

-- ---- prints

abbrev pub print_faults : {A : Type 0} → Faults A
print_faults = faults_of PrintRefused print_fault.Failed print_fault.Save print_fault.Memory

-- the document has these parts, or none
abbrev pub HasParts : Size → Scheme → List ℕ → Option (List (List ℕ)) → Type 0
HasParts size scheme document None = HasNoEnds size scheme document
HasParts size scheme document (Some parts) = AreParts size scheme document parts

-- the label is that of this page of the document
pub record IsLabelFor (cut : CutDocument) (page : PageView) (label : Label) : Type 0 where
  pub page_is : label.page ≡ page
  pub cut_is : label.cut ≡ cut
  pub grid_is : IsLabelOf cut.size cut.scheme page label.grid

-- the labels are, in order, those of these parts of the document, from page m on
abbrev pub AreLabelsFor : CutDocument → ℕ → ℕ → List (List ℕ) → List Label → Type 0
AreLabelsFor cut id m [] [] = Unit {0}
AreLabelsFor cut id m (part ∷ parts) (label ∷ labels) =
    IsLabelFor cut (record { id = id; m = m; n = length cut.parts; bytes = part }) label
    × AreLabelsFor cut id (m + 1) parts labels
AreLabelsFor cut id m [] (label ∷ labels) = ⊥
AreLabelsFor cut id m (part ∷ parts) [] = ⊥

-- all labels of the document leave under the least free number, which is used; a number of labels left before
pub record PrintLeaves {A : Type 0} (before : ℕ) (cut : CutDocument) (id : ℕ) (goods : Goods) (reply : Reply A)
    : Type 0 where
  pub labels : List Label
  pub are_labels : AreLabelsFor cut id 1 cut.parts labels
  pub goods_are : goods ≡ record { labels = labels; tickets = []; exports = []; moves = Used id ∷ [] }
  pub reply_is : reply ≡ Printed id before (length cut.parts)

-- the document in these parts
abbrev pub cut_of : List ℕ → Size → Scheme → List (List ℕ) → CutDocument
cut_of document size scheme parts = record { bytes = document; size = size; scheme = scheme; parts = parts }

-- what a print comes to; a ledger that is stored is sound
abbrev pub PrintComes : {A : Type 0} → ℕ → List ℕ → Size → Scheme → LedgerView → Course A LedgerView → Type 0
PrintComes before document size scheme ledger course =
    IsTrue (is_sound ledger) × (parts : Option (List (List ℕ))) × HasParts size scheme document parts
    × IsCourse PrintRefused (print_verdict ledger (is_some parts)) (λ goods reply.
    IsSomeAnd parts (λ parts. PrintLeaves before (cut_of document size scheme parts) (least ledger.free) goods reply))
    course

-- ---- gives

abbrev pub give_faults : {A : Type 0} → Faults A
give_faults = faults_of GiveRefused give_fault.Failed give_fault.Save give_fault.Memory

-- what a give comes to: the IDs leave on a ticket, after `before` other tickets
abbrev pub GiveComes : {A : Type 0} → ℕ → ℕ → Range → LedgerView → Course A LedgerView → Type 0
GiveComes before receiver range ledger course =
    IsTrue (is_sound ledger) × IsCourse GiveRefused (give_verdict ledger receiver range) (λ goods reply.
    (goods ≡ record { labels = []; tickets = ticket_of ledger receiver range ∷ []; exports = []; moves = [] })
    × (reply ≡ Given before (ticket_of ledger receiver range))) course

-- ---- takes

abbrev pub take_faults : {A : Type 0} → Faults A
take_faults = faults_of TakeRefused take_fault.Failed take_fault.Save take_fault.Memory

-- what a take comes to: the IDs of the ticket, which left as number `number`, are free here
abbrev pub TakeComes : {A : Type 0} → ℕ → TicketView → LedgerView → Course A LedgerView → Type 0
TakeComes number ticket ledger course =
    IsTrue (is_sound ledger) × IsTrue (is_range ticket.range) × IsCourse TakeRefused (take_verdict ledger ticket) (λ goods reply.
    (goods ≡ record { labels = []; tickets = []; exports = []; moves = Took number ∷ [] }) × (reply ≡ Taken)) course

-- a call that comes to this saves
abbrev pub IsSaving : {A C : Type 0} → Course A C → Type 0
IsSaving (Saves next goods reply) = Unit {0}
IsSaving course = ⊥

-- A call comes to what is wanted; if that is a save, memory for it may be refused.
abbrev pub MayBe : {A C : Type 0} → Course A C → Course A C → Type 0
MayBe wanted course = (course ≡ wanted) ⊎ ((course ≡ LacksMemory) × IsSaving wanted)

-- what a verdict comes to; `tells` turns its answer into a reply
abbrev pub verdict_course : {A R : Type 0} → (R → Reply A) → Verdict R → Course A Documents
verdict_course tells (Stays answer) = Answers (tells answer)
verdict_course tells (Becomes next answer) = Saves next no_goods (tells answer)

-- ---- scans

abbrev pub scan_faults : {A : Type 0} → Faults A
scan_faults = faults_of ScanRefused scan_fault.Failed scan_fault.Save scan_fault.Memory

abbrev pub scan_reply : {A : Type 0} → Result Accepted ScanFault → Reply A
scan_reply (Ok accepted) = Scanned accepted
scan_reply (Err fault) = ScanRefused fault

-- the reply to a scan whose page was added with this outcome
abbrev pub page_reply : {A : Type 0} → PageView → Result imported_type.Imported AddFault → Reply A
page_reply page added = scan_reply (scan_of page added)

-- what a scan comes to, by what its grid is read as: that page alone is added
abbrev pub scan_course : {A : Type 0} → ℕ → Documents → Result PageView LabelFault → Course A Documents
scan_course capacity held (Ok page) = verdict_course (page_reply page) (add_verdict capacity held page.id (lone page))
scan_course capacity held (Err fault) = Answers (ScanRefused (scan_fault.Label fault))

abbrev pub ScanComes : {A : Type 0} → ℕ → GridView → Documents → Course A Documents → Type 0
ScanComes {A} capacity grid held course =
    (read : Result PageView LabelFault) × LabelOpens grid read × MayBe (scan_course capacity held read) course

-- ---- imports

abbrev pub import_faults : {A : Type 0} → Faults A
import_faults = faults_of ImportRefused import_fault.Failed import_fault.Save import_fault.Memory

abbrev pub import_reply : {A : Type 0} → Result imported_type.Imported ImportFault → Reply A
import_reply (Ok imported) = Imported imported
import_reply (Err fault) = ImportRefused fault

-- the reply to an import whose pages were added with this outcome
abbrev pub pages_reply : {A : Type 0} → Result imported_type.Imported AddFault → Reply A
pages_reply added = import_reply (import_of added)

-- what an import comes to: all pages of the export are added
abbrev pub ImportComes : {A : Type 0} → ℕ → relays.Export → Documents → Course A Documents → Type 0
ImportComes capacity export held course =
    MayBe (verdict_course pages_reply (add_verdict capacity held export.id export.pages)) course

-- ---- forgets

abbrev pub forget_faults : {A : Type 0} → Faults A
forget_faults = faults_of ForgetRefused forget_fault.Failed forget_fault.Save forget_fault.Memory

abbrev pub forget_reply : {A : Type 0} → Result (Unit {0}) ForgetFault → Reply A
forget_reply (Ok done) = Forgotten
forget_reply (Err fault) = ForgetRefused fault

abbrev pub ForgetComes : {A : Type 0} → ℕ → Documents → Course A Documents → Type 0
ForgetComes id held course = MayBe (verdict_course forget_reply (forget_verdict held id)) course

-- ---- asks and exports

abbrev pub ask_reply : {A : Type 0} → Result (List ℕ) AskFault → Reply A
ask_reply (Ok document) = Document document
ask_reply (Err fault) = AskRefused fault

abbrev pub AskTells : {A : Type 0} → ℕ → Documents → Reply A → Goods → Type 0
AskTells id held reply goods =
    (answer : Result (List ℕ) AskFault) × Asks (λ bytes. bytes) (finite.get held id) answer
    × (reply ≡ ask_reply answer) × (goods ≡ no_goods)

-- The export has the held pages of the document, and leaves after `before` others; memory for it may be refused.
abbrev pub ExportsHeld : {A : Type 0} → ℕ → ℕ → Option Pages → Reply A → Goods → Type 0
ExportsHeld before id None reply goods = (reply ≡ ExportRefused export_fault.NotHeld) × (goods ≡ no_goods)
ExportsHeld before id (Some pages) reply goods =
    ((reply ≡ Exported before id (length pages) (mask pages))
    × (goods ≡ record { labels = []; tickets = []; exports = record { id = id; pages = pages } ∷ []; moves = [] }))
    ⊎ ((reply ≡ ExportRefused export_fault.Memory) × (goods ≡ no_goods))

abbrev pub ExportTells : {A : Type 0} → ℕ → ℕ → Documents → Reply A → Goods → Type 0
ExportTells before id held reply goods = ExportsHeld before id (finite.get held id) reply goods

-- ---- Who acts in an event, which events may have saved, what an event does to a relay, and runs of events.

-- a printer or a desk, by its number
pub data Named : Type 0 where
  PrinterAt : ℕ → Named
  DeskAt : ℕ → Named

-- the one that acts in an event
abbrev pub actor_of : {A : Type 0} → Event A → Named
actor_of (Print printer document size scheme stop) = PrinterAt printer
actor_of (Scan desk label flips stop) = DeskAt desk
actor_of (RestartPrinter printer) = PrinterAt printer
actor_of (RestartDesk desk) = DeskAt desk
actor_of (Ask desk id) = DeskAt desk
actor_of (Forget desk id stop) = DeskAt desk
actor_of (Give printer receiver range stop) = PrinterAt printer
actor_of (Take printer ticket stop) = PrinterAt printer
actor_of (Export desk id) = DeskAt desk
actor_of (Import desk export stop) = DeskAt desk

-- whether they are the same
abbrev pub is_same : Named → Named → Bool
is_same (PrinterAt one) (PrinterAt other) = one == other
is_same (DeskAt one) (DeskAt other) = one == other
is_same one other = false

-- the stop of an event's call; a restart, an ask and an export have none
abbrev pub stop_of : {A : Type 0} → Event A → Option Stop
stop_of (Print printer document size scheme stop) = Some stop
stop_of (Scan desk label flips stop) = Some stop
stop_of (Forget desk id stop) = Some stop
stop_of (Give printer receiver range stop) = Some stop
stop_of (Take printer ticket stop) = Some stop
stop_of (Import desk export stop) = Some stop
stop_of event = None

-- the save meets a device fault and leaves the new content
abbrev pub leaves_new : Option Stop → Bool
leaves_new (Some (SaveFault New)) = true
leaves_new stop = false

-- the call is stopped after its save, if it has one
abbrev pub stops_after_save : Option Stop → Bool
stops_after_save (Some (InSave New)) = true
stops_after_save (Some (AfterLabels count)) = true
stops_after_save stop = false

-- whether an event with this reply may have saved
abbrev pub may_save : {A : Type 0} → Event A → Reply A → Bool
may_save event (Printed id first count) = true
may_save event (Given index ticket) = true
may_save event Taken = true
may_save event (Scanned accepted) = true
may_save event Forgotten = true
may_save event (Imported imported) = true
may_save event (PrintRefused print_fault.Save) = leaves_new (stop_of event)
may_save event (GiveRefused give_fault.Save) = leaves_new (stop_of event)
may_save event (TakeRefused take_fault.Save) = leaves_new (stop_of event)
may_save event (ScanRefused scan_fault.Save) = leaves_new (stop_of event)
may_save event (ForgetRefused forget_fault.Save) = leaves_new (stop_of event)
may_save event (ImportRefused import_fault.Save) = leaves_new (stop_of event)
may_save event Stopped = stops_after_save (stop_of event)
may_save event other = false

-- the call ends before its reply
abbrev pub IsStopping : Stop → Type 0
IsStopping stops.None = ⊥
IsStopping (SaveFault kept) = ⊥
IsStopping stop = Unit {0}

-- ---- what is there

-- the label left, and these modules are in its grid
abbrev pub HasModules : Relay → ℕ → List (ℕ × ℕ) → Type 0
HasModules relay number flips =
    (label : Label) × (slice_get relay.labels number ≡ Some label)
    × All (λ flip. (flip.0 < side label.grid.size) × (flip.1 < side label.grid.size)) flips

-- all that an event names is there
abbrev pub IsNamedThere : {A : Type 0} → Relay → Event A → Type 0
IsNamedThere relay (Print printer document size scheme stop) = printer < length relay.printers
IsNamedThere relay (Give printer receiver range stop) = printer < length relay.printers
IsNamedThere relay (Take printer ticket stop) = (printer < length relay.printers) × (ticket < length relay.tickets)
IsNamedThere relay (RestartPrinter printer) = printer < length relay.printers
IsNamedThere relay (Scan desk label flips stop) = (desk < length relay.desks) × HasModules relay label flips
IsNamedThere relay (Forget desk id stop) = desk < length relay.desks
IsNamedThere relay (Import desk export stop) = (desk < length relay.desks) × (export < length relay.exports)
IsNamedThere relay (Ask desk id) = desk < length relay.desks
IsNamedThere relay (Export desk id) = desk < length relay.desks
IsNamedThere relay (RestartDesk desk) = desk < length relay.desks

-- ---- printers and desks

-- this is how an event at this printer ends
pub record PrinterGoes {A : Type 0} (old : Relay) (printer : ℕ)
    (Acts : Actor LedgerView → Ending A LedgerView → Type 0) (reply : Reply A) (new : Relay) : Type 0 where
  pub actor : Actor LedgerView
  pub was : slice_get old.printers printer ≡ Some actor
  pub end : Ending A LedgerView
  pub acts : Acts actor end
  pub reply_is : reply ≡ end.reply
  pub new_is : new ≡ with_printer old printer end.actor end.goods

-- this is how an event at this desk ends, given its capacity
pub record DeskGoes {A : Type 0} (old : Relay) (number : ℕ)
    (Acts : ℕ → Actor Documents → Ending A Documents → Type 0) (reply : Reply A) (new : Relay) : Type 0 where
  pub desk : Desk
  pub was : slice_get old.desks number ≡ Some desk
  pub end : Ending A Documents
  pub acts : Acts desk.capacity desk.actor end
  pub reply_is : reply ≡ end.reply
  pub new_is : new ≡ with_desk old number (record { capacity = desk.capacity; actor = end.actor }) end.goods

-- what an event does if its printer, desk, label, ticket or export is there
abbrev pub Acts : {A : Type 0} → Relay → Event A → Reply A → Relay → Type 0
Acts old (Print printer document size scheme stop) reply new =
    PrinterGoes old printer
    (MayLackFirst (Calls print_faults stop (PrintComes (length old.labels) document size scheme))) reply new
Acts old (Give printer receiver range stop) reply new =
    PrinterGoes old printer
    (MayLackFirst (Calls give_faults stop (GiveComes (length old.tickets) receiver range))) reply new
Acts old (Take printer number stop) reply new =
    (ticket : TicketView) × (slice_get old.tickets number ≡ Some ticket)
    × PrinterGoes old printer (Calls take_faults stop (TakeComes number ticket)) reply new
Acts old (RestartPrinter printer) reply new =
    PrinterGoes old printer (Restarts (PrinterRefused open_fault.Memory)) reply new
Acts old (Scan desk number flips stop) reply new =
    (label : Label) × (slice_get old.labels number ≡ Some label)
    × DeskGoes old desk
    (λ capacity. MayLackFirst (Calls scan_faults stop (ScanComes capacity (flipped label.grid flips)))) reply new
Acts old (Forget desk id stop) reply new =
    DeskGoes old desk (λ capacity. Calls forget_faults stop (ForgetComes id)) reply new
Acts old (Import desk number stop) reply new =
    (export : relays.Export) × (slice_get old.exports number ≡ Some export)
    × DeskGoes old desk (λ capacity. Calls import_faults stop (ImportComes capacity export)) reply new
Acts old (Ask desk id) reply new = DeskGoes old desk (λ capacity. Looks (AskTells id)) reply new
Acts old (Export desk id) reply new =
    DeskGoes old desk (λ capacity. MayLackFirst (Looks (ExportTells (length old.exports) id))) reply new
Acts old (RestartDesk desk) reply new = DeskGoes old desk (λ capacity. Restarts (DeskRefused desk_fault.Memory)) reply new

-- one step: if something that the event names is not there, the answer is `NoSuch`, and nothing changes
abbrev pub Step : {A : Type 0} → Relay → Event A → Reply A → Relay → Type 0
Step old event reply new =
    (IsNamedThere old event × Acts old event reply new)
    ⊎ ((¬ IsNamedThere old event) × (reply ≡ NoSuch) × (new ≡ old))

-- an event, its reply, and the relay before it
pub record Moment (A : Type 0) : Type 0 where
  pub before : Relay
  pub event : Event A
  pub reply : Reply A

-- these moments, the newest first, led from one relay to another
abbrev pub IsRun : {A : Type 0} → Relay → List (Moment A) → Relay → Type 0
IsRun from [] end = end ≡ from
IsRun from (moment ∷ earlier) end = IsRun from earlier moment.before × Step moment.before moment.event moment.reply end

-- the moments of `onto later earlier` are newest first; those of `later` are given oldest first
abbrev pub onto : {A : Type 0} → List (Moment A) → List (Moment A) → List (Moment A)
onto [] earlier = earlier
onto (moment ∷ later) earlier = onto later (moment ∷ earlier)

-- the moments, oldest first, are those of these events and replies
abbrev pub AreMomentsOf : {A : Type 0} → List (Event A) → List (Reply A) → List (Moment A) → Type 0
AreMomentsOf [] [] [] = Unit {0}
AreMomentsOf (event ∷ events) (reply ∷ replies) (moment ∷ moments) =
    (moment.event ≡ event) × (moment.reply ≡ reply) × AreMomentsOf events replies moments
AreMomentsOf events replies moments = ⊥

-- an event and its reply
pub record EventAndReply (A : Type 0) : Type 0 where
  pub event : Event A
  pub reply : Reply A

abbrev pub said : {A : Type 0} → Event A → Reply A → EventAndReply A
said event reply = record { event = event; reply = reply }

-- from this relay on, these events may get these replies, in this order
abbrev pub MaySay : {A : Type 0} → Relay → List (EventAndReply A) → Type 0
MaySay from [] = Unit {0}
MaySay from (one ∷ more) = (next : Relay) × Step from one.event one.reply next × MaySay next more
