-- When replies may be given, and what they tell: who is down, who has failed, and why events are refused; and that only
-- memory leaves an outcome open.
use Rattle.std.specs.Prelude.{◌≡◌, ◌≢◌, ◌+◌, ◌==◌, ◌&&◌, ◌||◌, not, ℕ, Bool, true, false, if◌then◌else◌, None, Option, Some, option_map, ◌<◌, List, [], ◌∷◌, slice_get, ◌↔◌, ◌⊎◌, IsSomeAnd, IsSome, ◌≤◌, length}
use Rattle.std.specs.{Option.option_map_or, Ordering.nat_cmp, List.Sorted.IsStrictlySortedBy}
use Rattle.dm_size.specs.declared.size.Size.{Size}
use Rattle.dm_encodation.specs.declared.scheme.Scheme.{Scheme}
use Rattle.dm_finder_frame.specs.Frame.{GridView, flipped, HasGoodFrame, HasBadFrame}
use Rattle.dm_append_label.specs.{Labels.HasNoEnds, declared.fault.LabelFault.TheVariants.Border}
use Rattle.dm_store.specs.declared.fuse.Kept.{Kept}
use Rattle.dm_print_ledger.specs.declared.range.Range.{Range}
use Rattle.dm_print_ledger.specs.Ledger.{free_count, last_taken, size_of, LedgerView, TicketView}
use Rattle.dm_event_history.specs.declared.{event.Event.Event, reply.Reply.Reply, stop.Stop.Stop}
use Rattle.dm_event_history.specs.declared.event.Event.TheVariants.{Print, Scan, Give, Take, RestartPrinter, RestartDesk, Forget, Import, Ask, Export}
use Rattle.dm_event_history.specs.declared.reply.Reply.TheVariants.{PrintRefused, Scanned, ScanRefused, AskRefused, ForgetRefused, GiveRefused, TakeRefused, ExportRefused, ImportRefused, Restarted, PrinterRefused, DeskRefused, Stopped, Down, NoSuch, Memory, Printed, Forgotten, Given, Taken, Imported, Document, Exported}
use Rattle.dm_event_history.specs.Steps.{DeskAt, Named, PrinterAt, actor_of, is_same, may_save, stop_of, IsStopping, IsRun, Moment, Step, IsNamedThere}
use Rattle.dm_event_history.specs.Relay.{Actor, stored_of, Running, Failed, Desk, Label, Relay, Took, start, HasAll, CutDocument}
use Rattle.dm_event_history.specs.Headline.{ArePrinted, IsFairEvent, AreDisjoint, AreSavedFair}
use Rattle.dm_assembly_desk.specs.declared.reply.Kind.{Kind, TheVariants.New, TheVariants.Again, TheVariants.Complete}
use Rattle.dm_assembly_desk.specs.Documents.{page, names, Documents, page_at}
use Rattle.dm_assembly_desk.specs.declared.{reply.Accepted.Accepted}
use Rattle.dm_print_ledger.specs.declared.fault.PrintFault.TheVariants as print_fault
use Rattle.dm_print_ledger.specs.declared.fault.GiveFault.TheVariants as give_fault
use Rattle.dm_print_ledger.specs.declared.fault.TakeFault.TheVariants as take_fault
use Rattle.dm_print_ledger.specs.declared.fault.OpenFault.TheVariants as open_fault
use Rattle.dm_assembly_desk.specs.declared.fault.ScanFault.TheVariants as scan_fault
use Rattle.dm_assembly_desk.specs.declared.reply.Imported as imported_type
use Rattle.dm_assembly_desk.specs.declared.fault.AskFault.TheVariants as ask_fault
use Rattle.dm_assembly_desk.specs.declared.fault.ForgetFault.TheVariants as forget_fault
use Rattle.dm_assembly_desk.specs.declared.fault.ExportFault.TheVariants as export_fault
use Rattle.dm_assembly_desk.specs.declared.fault.ImportFault.TheVariants as import_fault
use Rattle.dm_assembly_desk.specs.declared.fault.DeskFault.TheVariants as desk_fault
use Rattle.dm_event_history.specs.declared.stop.Stop.TheVariants as stops
use Rattle.dm_event_history.specs.declared.reply.Reply.TheVariants as replies
use Rattle.dm_event_history.specs.Relay as relays

abbrev pub IsDown : {C : Type 0} → Actor C → Type 0
IsDown (relays.Down stored) = Unit {0}
IsDown actor = ⊥

abbrev pub IsDownAt : Relay → Named → Type 0
IsDownAt relay (PrinterAt printer) =
    (actor : Actor LedgerView) × (slice_get relay.printers printer ≡ Some actor) × IsDown actor
IsDownAt relay (DeskAt number) = (desk : Desk) × (slice_get relay.desks number ≡ Some desk) × IsDown desk.actor

-- an event that a printer or desk which is down answers with `Down`
abbrev pub NeedsRunning : {A : Type 0} → Event A → Type 0
NeedsRunning (RestartPrinter printer) = ⊥
NeedsRunning (RestartDesk desk) = ⊥
NeedsRunning event = Unit {0}

-- the event is a call that ends before its reply
abbrev pub IsStopped : {A : Type 0} → Event A → Type 0
IsStopped event = IsSomeAnd (stop_of event) IsStopping

abbrev pub is_new : Kind → Bool
is_new Again = false
is_new kind = true

-- the reply tells of a save
abbrev pub tells_of_save : {A : Type 0} → Reply A → Bool
tells_of_save (Printed id first count) = true
tells_of_save (Given index ticket) = true
tells_of_save Taken = true
tells_of_save (Scanned accepted) = is_new accepted.kind
tells_of_save Forgotten = true
tells_of_save (Imported imported) = is_new imported.kind
tells_of_save other = false

-- The reply is `NoSuch` exactly if something that is named is not there; otherwise `Down` exactly if the one that acts
-- is down and the event is no restart; otherwise `Stopped` or `Memory` if the call ends before its reply, and `Stopped`
-- only then. A reply tells of a save only if the call has no stop.
pub record IsLegal {A : Type 0} (old : Relay) (event : Event A) (reply : Reply A) : Type 0 where
  pub no_such : (reply ≡ NoSuch) ↔ (¬ IsNamedThere old event)
  pub down : (reply ≡ replies.Down) ↔ (IsNamedThere old event × NeedsRunning event × IsDownAt old (actor_of event))
  pub stopped : reply ≡ Stopped → IsStopped event
  pub ended : IsNamedThere old event → ¬ IsDownAt old (actor_of event) → IsStopped event →
      (reply ≡ Stopped) ⊎ (reply ≡ Memory)
  pub saves : tells_of_save reply ≡ true → stop_of event ≡ Some stops.None

abbrev pub EachStepIsLegal : Type 0 → Type 0
EachStepIsLegal A = (old new : Relay) (event : Event A) (reply : Reply A) → Step old event reply new →
    IsLegal old event reply

-- ---- who is down, and who has failed

-- whether the one that gives this reply is down after it, given whether it was before
abbrev pub down_after : {A : Type 0} → Reply A → Bool → Bool
down_after Stopped before = true
down_after (PrinterRefused fault) before = true
down_after (DeskRefused fault) before = true
down_after Down before = before
down_after NoSuch before = before
down_after Memory before = before
down_after other before = false

-- whether the one that gives this reply has failed after it, given whether it had before
abbrev pub failed_after : {A : Type 0} → Reply A → Bool → Bool
failed_after (PrintRefused print_fault.Save) before = true
failed_after (GiveRefused give_fault.Save) before = true
failed_after (TakeRefused take_fault.Save) before = true
failed_after (ScanRefused scan_fault.Save) before = true
failed_after (ForgetRefused forget_fault.Save) before = true
failed_after (ImportRefused import_fault.Save) before = true
failed_after Restarted before = false
failed_after other before = before

-- the reply tells that a save had failed
abbrev pub tells_failed : {A : Type 0} → Reply A → Bool
tells_failed (PrintRefused print_fault.Failed) = true
tells_failed (GiveRefused give_fault.Failed) = true
tells_failed (TakeRefused take_fault.Failed) = true
tells_failed (ScanRefused scan_fault.Failed) = true
tells_failed (ForgetRefused forget_fault.Failed) = true
tells_failed (ImportRefused import_fault.Failed) = true
tells_failed other = false

-- its last reply, `Down`, `NoSuch` and `Memory` aside, was `Stopped` or the refusal of a restart
abbrev pub is_down : {A : Type 0} → List (Moment A) → Named → Bool
is_down [] who = false
is_down (moment ∷ earlier) who =
    if is_same (actor_of moment.event) who then down_after moment.reply (is_down earlier who) else is_down earlier who

-- it answered `Save` since it was last restarted
abbrev pub is_failed : {A : Type 0} → List (Moment A) → Named → Bool
is_failed [] who = false
is_failed (moment ∷ earlier) who =
    if is_same (actor_of moment.event) who then failed_after moment.reply (is_failed earlier who) else is_failed earlier who

abbrev pub IsAsTold : {C : Type 0} → Bool → Bool → Actor C → Type 0
IsAsTold down failed (relays.Running held) = (down ≡ false) × (failed ≡ false)
IsAsTold down failed (relays.Failed shown stored) = (down ≡ false) × (failed ≡ true)
IsAsTold down failed (relays.Down stored) = down ≡ true

-- The printers and desks that are down are those that replies say are down. Of the others, exactly those have failed
-- that answered `Save` since their last restart.
pub record AreAsTold {A : Type 0} (h : List (Moment A)) (relay : Relay) : Type 0 where
  pub printers : (printer : ℕ) (actor : Actor LedgerView) → slice_get relay.printers printer ≡ Some actor →
      IsAsTold (is_down h (PrinterAt printer)) (is_failed h (PrinterAt printer)) actor
  pub desks : (number : ℕ) (desk : Desk) → slice_get relay.desks number ≡ Some desk →
      IsAsTold (is_down h (DeskAt number)) (is_failed h (DeskAt number)) desk.actor

abbrev pub EachRunIsAsTold : Type 0 → Type 0
EachRunIsAsTold A = (ranges : List Range) (capacities : List ℕ) (h : List (Moment A)) (end : Relay) →
    IsRun (start ranges capacities) h end → AreAsTold h end

-- ---- why events are refused

-- the grid alone decides whether a label is refused for its finder patterns, and with which number of wrong modules
abbrev pub IsFramedSo : {A : Type 0} → GridView → Reply A → Type 0
IsFramedSo grid (Scanned accepted) = HasGoodFrame grid
IsFramedSo grid (ScanRefused scan_fault.Failed) = Unit {0}
IsFramedSo grid (ScanRefused (scan_fault.Label (Border wrong))) = HasBadFrame grid wrong
IsFramedSo grid (ScanRefused (scan_fault.Label fault)) = ⊥
IsFramedSo grid (ScanRefused fault) = HasGoodFrame grid
IsFramedSo grid reply = Unit {0}

-- A fair scan is refused by its label only for its finder patterns. `Save` is answered only if the save was to fail,
-- and `TooLong` only if the document has no parts.
pub record IsRefusedSo {A : Type 0} (old : Relay) (event : Event A) (reply : Reply A) : Type 0 where
  pub framed : (desk number : ℕ) (flips : List (ℕ × ℕ)) (stop : Stop) (label : Label) →
      event ≡ Scan desk number flips stop → slice_get old.labels number ≡ Some label → IsFairEvent old event →
      IsFramedSo (flipped label.grid flips) reply
  pub save : failed_after reply false ≡ true → (kept : Kept) × (stop_of event ≡ Some (stops.SaveFault kept))
  pub too_long : (printer : ℕ) (document : List ℕ) (size : Size) (scheme : Scheme) (stop : Stop) →
      event ≡ Print printer document size scheme stop → reply ≡ PrintRefused print_fault.TooLong →
      HasNoEnds size scheme document

abbrev pub EachStepIsRefusedSo : Type 0 → Type 0
EachStepIsRefusedSo A = (old new : Relay) (event : Event A) (reply : Reply A) → ArePrinted old.labels →
    Step old event reply new → IsRefusedSo old event reply

-- `Failed` is answered only if the printer or desk answered `Save` since its last restart
abbrev pub EachFailedFailed : Type 0 → Type 0
EachFailedFailed A = (ranges : List Range) (capacities : List ℕ) (moment : Moment A) (earlier : List (Moment A))
    (end : Relay) → IsRun (start ranges capacities) (moment ∷ earlier) end → tells_failed moment.reply ≡ true →
    is_failed earlier (actor_of moment.event) ≡ true

-- ---- tickets and IDs

-- no ticket is taken twice, and no take is refused because one of its IDs is free at its receiver
pub record TakesOnce {A : Type 0} (h : List (Moment A)) (relay : Relay) : Type 0 where
  pub once : (i j ticket : ℕ) → slice_get relay.moves i ≡ Some (Took ticket) →
      slice_get relay.moves j ≡ Some (Took ticket) → i ≡ j
  pub never : (i printer ticket : ℕ) (stop : Stop) (moment : Moment A) → slice_get h i ≡ Some moment →
      moment.event ≡ Take printer ticket stop → moment.reply ≢ TakeRefused take_fault.Overlap

abbrev pub EachRunTakesOnce : Type 0 → Type 0
EachRunTakesOnce A = (ranges : List Range) (capacities : List ℕ) (h : List (Moment A)) (end : Relay) →
    AreDisjoint ranges → IsRun (start ranges capacities) h end → TakesOnce h end

-- how many IDs are free in what a printer stores
abbrev pub stock : Relay → ℕ → ℕ
stock relay printer =
    option_map_or (λ (actor : Actor LedgerView). free_count (stored_of actor).free) (slice_get relay.printers printer) 0

-- how many IDs a printer loses by an event that saved, and how many it gains
abbrev pub loses : {A : Type 0} → Relay → Event A → ℕ
loses before (Print printer document size scheme stop) = 1
loses before (Give printer receiver range stop) = size_of range
loses before event = 0

abbrev pub gains : {A : Type 0} → Relay → Event A → ℕ
gains before (Take printer ticket stop) =
    option_map_or (λ (given : TicketView). size_of given.range) (slice_get before.tickets ticket) 0
gains before event = 0

-- an event of the printer saved: it may have, and its reply says so or the stock changed
abbrev pub has_saved : {A : Type 0} → Moment A → Relay → ℕ → Bool
has_saved moment after printer =
    is_same (actor_of moment.event) (PrinterAt printer) && may_save moment.event moment.reply
    && (tells_of_save moment.reply || not (stock moment.before printer == stock after printer))

-- the sum of a count over the events of a printer that saved
abbrev pub sum_saved : {A : Type 0} → (Relay → Event A → ℕ) → List (Moment A) → Relay → ℕ → ℕ
sum_saved count [] end printer = 0
sum_saved count (moment ∷ earlier) end printer =
    (if has_saved moment end printer then count moment.before moment.event else 0)
    + sum_saved count earlier moment.before printer

-- `Exhausted` is answered only if no ID is free: the printer used and gave exactly what it began with and took
abbrev pub EachExhaustedIsSo : Type 0 → Type 0
EachExhaustedIsSo A = (ranges : List Range) (capacities : List ℕ) (moment : Moment A) (earlier : List (Moment A))
    (end : Relay) (printer : ℕ) (range : Range) (document : List ℕ) (size : Size) (scheme : Scheme) (stop : Stop) →
    IsRun (start ranges capacities) (moment ∷ earlier) end → moment.event ≡ Print printer document size scheme stop →
    slice_get ranges printer ≡ Some range → moment.reply ≡ PrintRefused print_fault.Exhausted →
    (stock moment.before printer ≡ 0) × (size_of range + sum_saved gains earlier moment.before printer
    ≡ sum_saved loses earlier moment.before printer)

-- ---- serials

-- the ledger that a printer stores
abbrev pub stored_at : Relay → ℕ → Option LedgerView
stored_at relay printer = option_map (λ (actor : Actor LedgerView). stored_of actor) (slice_get relay.printers printer)

-- 1 for a give; and the serial of the ticket that an event takes, if this is its giver
abbrev pub gives : {A : Type 0} → Relay → Event A → ℕ
gives before (Give printer receiver range stop) = 1
gives before event = 0

abbrev pub serial_from : {A : Type 0} → Relay → Event A → ℕ → Option ℕ
serial_from before (Take printer number stop) giver = option_map_or
    (λ (ticket : TicketView). if ticket.giver == giver then Some ticket.serial else None) (slice_get before.tickets number) None
serial_from before event giver = None

-- the serial of the newest ticket from a giver that a printer took in an event that saved
abbrev pub newest_saved : {A : Type 0} → List (Moment A) → Relay → ℕ → ℕ → Option ℕ
newest_saved [] end printer giver = None
newest_saved (moment ∷ earlier) end printer giver =
    let before = newest_saved earlier moment.before printer giver in
    if has_saved moment end printer
    then option_map_or (λ serial. Some serial) (serial_from moment.before moment.event giver) before else before

-- A printer's next serial is the number of its gives that saved, and its givers are those of its takes that saved, each
-- with the serial of the newest.
pub record CountsTickets {A : Type 0} (h : List (Moment A)) (relay : Relay) (printer : ℕ) : Type 0 where
  pub gave : option_map_or (λ (ledger : LedgerView). ledger.next_serial) (stored_at relay printer) 0
      ≡ sum_saved gives h relay printer
  pub took : (giver : ℕ) → option_map_or (λ (ledger : LedgerView). last_taken ledger.givers giver)
      (stored_at relay printer) None ≡ newest_saved h relay printer giver

abbrev pub EachRunCountsTickets : Type 0 → Type 0
EachRunCountsTickets A = (ranges : List Range) (capacities : List ℕ) (h : List (Moment A)) (end : Relay) (printer : ℕ) →
    IsRun (start ranges capacities) h end → CountsTickets h end printer

-- each ticket that is taken has a greater serial than those taken before from its giver
abbrev pub EachTakeIsLater : Type 0 → Type 0
EachTakeIsLater A = (ranges : List Range) (capacities : List ℕ) (moment : Moment A) (earlier : List (Moment A)) (end : Relay)
    (printer giver serial last : ℕ) → IsRun (start ranges capacities) (moment ∷ earlier) end →
    has_saved moment end printer ≡ true → serial_from moment.before moment.event giver ≡ Some serial →
    newest_saved earlier moment.before printer giver ≡ Some last → last < serial

-- ---- what is left open

-- the reply tells that memory was refused
abbrev pub IsOfMemory : {A : Type 0} → Reply A → Type 0
IsOfMemory Memory = Unit {0}
IsOfMemory (PrintRefused print_fault.Memory) = Unit {0}
IsOfMemory (GiveRefused give_fault.Memory) = Unit {0}
IsOfMemory (TakeRefused take_fault.Memory) = Unit {0}
IsOfMemory (PrinterRefused open_fault.Memory) = Unit {0}
IsOfMemory (ScanRefused scan_fault.Memory) = Unit {0}
IsOfMemory (ForgetRefused forget_fault.Memory) = Unit {0}
IsOfMemory (ImportRefused import_fault.Memory) = Unit {0}
IsOfMemory (AskRefused ask_fault.Memory) = Unit {0}
IsOfMemory (ExportRefused export_fault.Memory) = Unit {0}
IsOfMemory (DeskRefused desk_fault.Memory) = Unit {0}
IsOfMemory reply = ⊥

-- Only memory leaves an outcome open: two steps from one relay by one event end alike, unless one was refused memory.
-- And a reply fixes the step: two steps with one reply end alike, whatever it is.
abbrev pub NothingIsOpenButMemory : Type 0 → Type 0
NothingIsOpenButMemory A = (old one other : Relay) (event : Event A) (reply answer : Reply A) →
    Step old event reply one → Step old event answer other →
    (((reply ≡ answer) × (one ≡ other)) ⊎ (IsOfMemory reply ⊎ IsOfMemory answer)) × (reply ≡ answer → one ≡ other)

-- ---- Replies of desks that agree with what was printed, and with what was scanned, imported and forgotten there.

-- the label with this number is of page m of the document
abbrev pub IsLabelOfPage : List Label → ℕ → ℕ → ℕ → Type 0
IsLabelOfPage labels number id m =
    (label : Label) × (slice_get labels number ≡ Some label) × (label.page.id ≡ id) × (label.page.m ≡ m)

-- the export with this number has page m of the document
abbrev pub HasExported : List relays.Export → ℕ → ℕ → ℕ → Type 0
HasExported exports number id m =
    (export : relays.Export) × (slice_get exports number ≡ Some export) × (export.id ≡ id)
    × IsSome (page export.pages m)

-- a scan at the desk was answered with this page, or an export that has it was imported there
abbrev pub TakesPage : {A : Type 0} → Relay → Event A → Reply A → ℕ → ℕ → ℕ → Type 0
TakesPage before (Scan desk number flips stop) (Scanned accepted) at id m =
    (desk ≡ at) × (accepted.id ≡ id) × (accepted.m ≡ m)
TakesPage before (Import desk number stop) (Imported imported) at id m =
    (desk ≡ at) × HasExported before.exports number id m
TakesPage before event reply at id m = ⊥

-- a scan of a label of this page may have saved at the desk, or an import of an export that has it may
abbrev pub MayTake : {A : Type 0} → Relay → Event A → Reply A → ℕ → ℕ → ℕ → Type 0
MayTake before (Scan desk number flips stop) reply at id m =
    (desk ≡ at) × (may_save (Scan desk number flips stop) reply ≡ true) × IsLabelOfPage before.labels number id m
MayTake before (Import desk number stop) reply at id m =
    (desk ≡ at) × (may_save (Import desk number stop) reply ≡ true) × HasExported before.exports number id m
MayTake before event reply at id m = ⊥

-- the desk answered `Forgotten` for the document
abbrev pub ForgetsDocument : {A : Type 0} → Event A → Reply A → ℕ → ℕ → Type 0
ForgetsDocument (Forget desk name stop) Forgotten at id = (desk ≡ at) × (name ≡ id)
ForgetsDocument event reply at id = ⊥

-- a forget of the document may have saved at the desk
abbrev pub MayForget : {A : Type 0} → Event A → Reply A → ℕ → ℕ → Type 0
MayForget (Forget desk name stop) reply at id =
    (desk ≡ at) × (name ≡ id) × (may_save (Forget desk name stop) reply ≡ true)
MayForget event reply at id = ⊥

-- page m of a document is surely held at a desk: a scan or import took it, and no forget may have saved since
abbrev pub IsSurelyHeld : {A : Type 0} → List (Moment A) → ℕ → ℕ → ℕ → Type 0
IsSurelyHeld [] desk id m = ⊥
IsSurelyHeld (moment ∷ earlier) desk id m =
    TakesPage moment.before moment.event moment.reply desk id m
    ⊎ ((¬ MayForget moment.event moment.reply desk id) × IsSurelyHeld earlier desk id m)

-- page m of a document is possibly held at a desk: a scan or import may have saved it, and no forget was done since
abbrev pub IsPossiblyHeld : {A : Type 0} → List (Moment A) → ℕ → ℕ → ℕ → Type 0
IsPossiblyHeld [] desk id m = ⊥
IsPossiblyHeld (moment ∷ earlier) desk id m =
    MayTake moment.before moment.event moment.reply desk id m
    ⊎ ((¬ ForgetsDocument moment.event moment.reply desk id) × IsPossiblyHeld earlier desk id m)

-- page m of a document is among these
abbrev pub Has : Documents → ℕ → ℕ → Type 0
Has held id m = IsSome (page_at held id m)

-- these include all that is surely held there, and each of them is possibly held
pub record IsBetween {A : Type 0} (h : List (Moment A)) (desk : ℕ) (held : Documents) : Type 0 where
  pub surely : (id m : ℕ) → IsSurelyHeld h desk id m → Has held id m
  pub possibly : (id m : ℕ) → Has held id m → IsPossiblyHeld h desk id m

-- this holds of all that the desks show and store
abbrev pub AreBetween : {A : Type 0} → List (Moment A) → Relay → Type 0
AreBetween h relay = (number : ℕ) (desk : Desk) → slice_get relay.desks number ≡ Some desk →
    HasAll (IsBetween h number) desk.actor

-- what was printed under an ID, going by the labels that left
abbrev pub docs : List Label → ℕ → Option CutDocument
docs [] id = None
docs (label ∷ labels) id = if label.page.id == id then Some label.cut else docs labels id

-- what is known before an event
pub record Known : Type 1 where
  -- page m of a document may be held at a desk
  pub may_hold : (desk id m : ℕ) → Type 0
  -- page m of a document is surely held at a desk
  pub holds : (desk id m : ℕ) → Type 0
  -- the labels that left
  pub labels : List Label

abbrev pub known_of : {A : Type 0} → Relay → List (Moment A) → Known
known_of before earlier =
    record { may_hold = IsPossiblyHeld earlier; holds = IsSurelyHeld earlier; labels = before.labels }

-- no page of a document is surely held
abbrev pub IsNotSurelyHeld : Known → ℕ → ℕ → Type 0
IsNotSurelyHeld known desk id = (m : ℕ) → ¬ known.holds desk id m

-- ---- asks

-- the document was printed under this ID, and each of its pages is possibly held
pub record IsTrueDocument (known : Known) (desk id : ℕ) (bytes : List ℕ) : Type 0 where
  pub document : CutDocument
  pub printed : docs known.labels id ≡ Some document
  pub same : bytes ≡ document.bytes
  pub possibly : (m : ℕ) → 1 ≤ m → m ≤ length document.parts → known.may_hold desk id m

-- some but not all pages of the document are named as missing; none of these is surely held, and each other possibly is
pub record IsTrulyMissing (known : Known) (desk id missing : ℕ) : Type 0 where
  pub document : CutDocument
  pub printed : docs known.labels id ≡ Some document
  pub some_named : (m : ℕ) × (names missing m ≡ true)
  pub not_all : (m : ℕ) × (1 ≤ m) × (m ≤ length document.parts) × (¬ (names missing m ≡ true))
  pub nothing_else : (m : ℕ) → names missing m ≡ true → (1 ≤ m) × (m ≤ length document.parts)
  pub not_surely : (m : ℕ) → names missing m ≡ true → ¬ known.holds desk id m
  pub possibly : (m : ℕ) → 1 ≤ m → m ≤ length document.parts → ¬ (names missing m ≡ true) → known.may_hold desk id m

-- ---- scans

-- what the kind of the answer to a scan of page m of n says of whether it and the other pages are held
abbrev pub IsKindSafe : Known → ℕ → ℕ → ℕ → ℕ → Kind → Type 0
IsKindSafe known desk id m n Again = known.may_hold desk id m
IsKindSafe known desk id m n New =
    (¬ known.holds desk id m) × (other : ℕ) × (1 ≤ other) × (other ≤ n) × (other ≢ m) × (¬ known.holds desk id other)
IsKindSafe known desk id m n Complete =
    (¬ known.holds desk id m) × ((other : ℕ) → 1 ≤ other → other ≤ n → other ≢ m → known.may_hold desk id other)

-- the answer names the page of the scanned label, and its kind is safe
pub record IsAcceptedSafe (known : Known) (desk number : ℕ) (accepted : Accepted) : Type 0 where
  pub label : Label
  pub has_left : slice_get known.labels number ≡ Some label
  pub id_is : accepted.id ≡ label.page.id
  pub m_is : accepted.m ≡ label.page.m
  pub n_is : accepted.n ≡ label.page.n
  pub kind : IsKindSafe known desk label.page.id label.page.m label.page.n accepted.kind

-- ---- exports and imports

-- the document was printed, with n pages; what is exported is possibly held, and all that is surely held is exported
pub record IsExportSafe (known : Known) (desk id n mask : ℕ) : Type 0 where
  pub document : CutDocument
  pub printed : docs known.labels id ≡ Some document
  pub n_is : n ≡ length document.parts
  pub possibly : (m : ℕ) → names mask m ≡ true → known.may_hold desk id m
  pub surely : (m : ℕ) → known.holds desk id m → names mask m ≡ true

-- what the kind of the answer says, if this export was imported and these of its pages were added
abbrev pub IsImportKindSafe : Known → ℕ → relays.Export → ℕ → Kind → Type 0
IsImportKindSafe known desk export added Again = Unit {0}
IsImportKindSafe known desk export added New =
    (m : ℕ) × (1 ≤ m) × (m ≤ length export.pages) × (page export.pages m ≡ None) × (¬ known.holds desk export.id m)
IsImportKindSafe known desk export added Complete =
    (m : ℕ) → 1 ≤ m → m ≤ length export.pages → ¬ (names added m ≡ true) → known.may_hold desk export.id m

-- the answer is about the export; the pages that were added were not held, and its other pages were
pub record IsImportedSafe (known : Known) (desk : ℕ) (export : relays.Export) (imported : imported_type.Imported)
    : Type 0 where
  pub id_is : imported.id ≡ export.id
  pub n_is : imported.n ≡ length export.pages
  pub added : (m : ℕ) → names imported.added m ≡ true → IsSome (page export.pages m)
  pub not_surely : (m : ℕ) → names imported.added m ≡ true → ¬ known.holds desk export.id m
  pub possibly : (m : ℕ) → IsSome (page export.pages m) → ¬ (names imported.added m ≡ true) →
      known.may_hold desk export.id m
  pub again : (imported.kind ≡ Again) ↔ (imported.added ≡ 0)
  pub kind : IsImportKindSafe known desk export imported.added imported.kind

-- ---- desks that are full

-- at least `count` other documents, by rising ID, each have a page that may be held at the desk
pub record MayHoldOthers (known : Known) (desk id count : ℕ) : Type 0 where
  pub others : List ℕ
  pub enough : count ≤ length others
  pub rising : IsStrictlySortedBy nat_cmp others
  pub each : (i other : ℕ) → slice_get others i ≡ Some other → (other ≢ id) × (m : ℕ) × known.may_hold desk other m

-- the desk is full: it holds no page of this document, and pages of as many others as it has room for
abbrev pub IsFullFor : Relay → Known → ℕ → ℕ → Type 0
IsFullFor before known number id =
    IsNotSurelyHeld known number id
    × ((desk : Desk) → slice_get before.desks number ≡ Some desk → MayHoldOthers known number id desk.capacity)

-- ---- any reply

-- What holds of each reply. No scan or import is refused for a conflict, and no import for the bytes of its export.
abbrev pub IsSafe : {A : Type 0} → Relay → Known → Event A → Reply A → Type 0
IsSafe before known (Scan desk number flips stop) (Scanned accepted) = IsAcceptedSafe known desk number accepted
IsSafe before known (Scan desk number flips stop) (ScanRefused scan_fault.Conflict) = ⊥
IsSafe before known (Scan desk number flips stop) (ScanRefused scan_fault.Full) =
    (label : Label) × (slice_get before.labels number ≡ Some label) × IsFullFor before known desk label.page.id
IsSafe before known (Ask desk id) (Document bytes) = IsTrueDocument known desk id bytes
IsSafe before known (Ask desk id) (AskRefused ask_fault.NotHeld) = IsNotSurelyHeld known desk id
IsSafe before known (Ask desk id) (AskRefused (ask_fault.Incomplete missing)) = IsTrulyMissing known desk id missing
IsSafe before known (Forget desk id stop) Forgotten = (m : ℕ) × known.may_hold desk id m
IsSafe before known (Forget desk id stop) (ForgetRefused forget_fault.NotHeld) = IsNotSurelyHeld known desk id
IsSafe before known (Export desk id) (Exported index told n mask) = IsExportSafe known desk id n mask
IsSafe before known (Export desk id) (ExportRefused export_fault.NotHeld) = IsNotSurelyHeld known desk id
IsSafe before known (Import desk number stop) (Imported imported) =
    (export : relays.Export) × (slice_get before.exports number ≡ Some export)
    × IsImportedSafe known desk export imported
IsSafe before known (Import desk number stop) (ImportRefused import_fault.NotPages) = ⊥
IsSafe before known (Import desk number stop) (ImportRefused import_fault.Version) = ⊥
IsSafe before known (Import desk number stop) (ImportRefused import_fault.Damaged) = ⊥
IsSafe before known (Import desk number stop) (ImportRefused import_fault.Conflict) = ⊥
IsSafe before known (Import desk number stop) (ImportRefused import_fault.Full) =
    (export : relays.Export) × (slice_get before.exports number ≡ Some export) × IsFullFor before known desk export.id
IsSafe before known event reply = Unit {0}

-- As long as each scan that may have saved its page was fair, desks show and store all that is surely held there, and
-- only what is possibly held.
abbrev pub EachFairDeskIsBetween : Type 0 → Type 0
EachFairDeskIsBetween A = (ranges : List Range) (capacities : List ℕ) (h : List (Moment A)) (end : Relay) →
    AreDisjoint ranges → IsRun (start ranges capacities) h end → AreSavedFair h → AreBetween h end

-- As long as each scan that may have saved its page was fair, each reply is safe, except to a scan that is not fair.
abbrev pub EachFairReplyIsSafe : Type 0 → Type 0
EachFairReplyIsSafe A = (ranges : List Range) (capacities : List ℕ) (moment : Moment A) (earlier : List (Moment A))
    (end : Relay) → AreDisjoint ranges → IsRun (start ranges capacities) (moment ∷ earlier) end → AreSavedFair earlier →
    IsFairEvent moment.before moment.event →
    IsSafe moment.before (known_of moment.before earlier) moment.event moment.reply
