-- Worlds of printers and desks as contracts see them, which relay a world shows, and what holds of their runs.
use Rattle.std.specs.Prelude.{◌≡◌, ◌<◌, ℕ, Some, List, length, slice_get, All, ◌≤◌, Bool, true, false, map, ◌∷◌, IsTrue, ◌↔◌, [], codes}
use Rattle.std.specs.FinMap as finite
use Rattle.dm_size.specs.Sizes.{side}
use Rattle.dm_finder_frame.specs.Frame.{GridView, flipped}
use Rattle.dm_symbol.specs.Correction.{IsNear}
use Rattle.dm_print_ledger.specs.{Ledger.TicketView, Ledger.LedgerView, Ledger.is_range, Verdicts.HoldsLedger}
use Rattle.dm_event_history.specs.declared.{event.Event.Event, event.Event.TheVariants.Scan, reply.Reply.Reply}
use Rattle.dm_event_world.specs.declared.actor.{PrinterActor.PrinterActor, DeskActor.DeskActor, LeftLabel.LeftLabel}
use Rattle.dm_event_world.specs.declared.{actor.LeftExport.LeftExport, actor.DeskState.DeskState, answers.Answer.Answer}
use Rattle.dm_store.specs.Saved.{LoadPlan, LoadsFine, SavePlan, SavesFine, Saved, SavedSet}
use Rattle.dm_assembly_desk.specs.Documents.{Documents, HoldsFiles, IsEntry, file, mask, DeskView, IsCapacity}
use Rattle.dm_event_history.specs.Relay.{Actor, Running, Failed, Down, Desk, Export, Label, Relay, start}
use Rattle.dm_print_ledger.specs.declared.range.Range.{Range}
use Rattle.dm_event_history.specs.Headline.{AreDisjoint, AreTrueMoments, IsFairEvent, PrintsOnce}
use Rattle.dm_event_history.specs.Steps.{AreMomentsOf, IsRun, Moment, onto}
use Rattle.dm_event_world.specs.declared.answers.Answer.TheVariants.{Given, NotGiven}
use Rattle.dm_event_world.specs.declared.fault.WorldFault.{WorldFault}
use Rattle.dm_event_world.specs.declared.fault.WorldFault.TheVariants as faults
use Rattle.dm_event_world.specs.declared.actor.PrinterActor.TheVariants as printer_actors
use Rattle.dm_event_world.specs.declared.actor.DeskState.TheVariants as desk_states
use Rattle.dm_event_history.specs.Steps as relays

-- the printers and desks, and the labels, tickets and exports that left
pub record WorldView (A : Type 0) : Type 0 where
  pub printers : List (PrinterActor A)
  pub desks : List (DeskActor A)
  pub labels : List (LeftLabel A)
  pub tickets : List TicketView
  pub exports : List (LeftExport A)

-- the name of a label that left: its ID, its number, and how many labels its document has
abbrev pub label_name : {A : Type 0} → LeftLabel A → ℕ × ℕ × ℕ
label_name label = (label.id, label.number, label.count)

-- ---- scans

-- the modules are in the grid
abbrev pub AreWithin : GridView → List (ℕ × ℕ) → Type 0
AreWithin grid flips = All (λ flip. (flip.0 < side grid.size) × (flip.1 < side grid.size)) flips

-- the event is a scan, and what it names is there; no other event is looked at
abbrev pub IsLookedAt : {A : Type 0} → WorldView A → Event A → Type 0
IsLookedAt {A} world (Scan desk number flips stop) =
    (desk < length world.desks)
    × (label : LeftLabel A) × (slice_get world.labels number ≡ Some label) × AreWithin label.grid flips
IsLookedAt world event = ⊥

-- if the event is a scan of something that is there, its grid is near that of the label
abbrev pub IsFairIn : {A : Type 0} → WorldView A → Event A → Type 0
IsFairIn {A} world (Scan desk number flips stop) =
    IsLookedAt world (Scan desk number flips stop) → (label : LeftLabel A) →
    slice_get world.labels number ≡ Some label → IsNear (flipped label.grid flips) label.grid
IsFairIn world event = Unit {0}

-- ---- Which relay a world shows.

-- the store or set is honest, and nothing in it is to fail
pub record IsReady (is_honest : Bool) (loads : LoadPlan) (saves : SavePlan) : Type 0 where
  pub honest : is_honest ≡ true
  pub loads_fine : loads ≡ LoadsFine
  pub saves_fine : saves ≡ SavesFine

-- the store is ready, and holds this ledger
pub record StoresLedger (saved : Saved) (ledger : LedgerView) : Type 0 where
  pub ready : IsReady saved.is_honest saved.load_plan saved.save_plan
  pub holds : HoldsLedger saved ledger

abbrev pub ShowsPrinter : {A : Type 0} → PrinterActor A → Actor LedgerView → Type 0
ShowsPrinter (printer_actors.Running view) (Running held) =
    StoresLedger view.saved held × (view.is_failed ≡ false) × (view.ledger ≡ held)
ShowsPrinter (printer_actors.Running view) (Failed shown stored) =
    StoresLedger view.saved stored × (view.is_failed ≡ true) × (view.ledger ≡ shown)
ShowsPrinter (printer_actors.Down saved) (Down stored) = StoresLedger saved stored
ShowsPrinter actor other = ⊥

-- the set is ready, and holds these documents, for which there is room
pub record StoresDocuments (saved : SavedSet) (capacity : ℕ) (held : Documents) : Type 0 where
  pub ready : IsReady saved.is_honest saved.load_plan saved.save_plan
  pub holds : HoldsFiles saved.content held
  pub is_capacity : IsCapacity capacity
  pub few : finite.len held ≤ capacity

-- a running desk has this capacity, holds these documents, and its set stores those
pub record DeskIs (view : DeskView) (capacity : ℕ) (held stored : Documents) (is_failed : Bool) : Type 0 where
  pub store : StoresDocuments view.saved capacity stored
  pub capacity_is : view.capacity ≡ capacity
  pub failed : view.is_failed ≡ is_failed
  pub held_is : view.held ≡ held

abbrev pub ShowsDesk : {A : Type 0} → ℕ → DeskState A → Actor Documents → Type 0
ShowsDesk capacity (desk_states.Running view) (Running held) = DeskIs view capacity held held false
ShowsDesk capacity (desk_states.Running view) (Failed shown stored) = DeskIs view capacity shown stored true
ShowsDesk capacity (desk_states.Down saved) (Down stored) = StoresDocuments saved capacity stored
ShowsDesk capacity state other = ⊥

-- a label and an export as the world keeps them
abbrev pub left_label : {A : Type 0} → Label → LeftLabel A
left_label label = record { id = label.page.id; number = label.page.m; count = label.page.n; grid = label.grid }

abbrev pub left_export : {A : Type 0} → Export → LeftExport A
left_export export = record {
  bytes = file export.id export.pages;
  id = export.id;
  count = length export.pages;
  mask = mask export.pages;
}

pub record Shows {A : Type 0} (world : WorldView A) (relay : Relay) : Type 0 where
  pub printer_count : length world.printers ≡ length relay.printers
  pub printers : (printer : ℕ) (actor : PrinterActor A) (shown : Actor LedgerView) →
      slice_get world.printers printer ≡ Some actor → slice_get relay.printers printer ≡ Some shown →
      ShowsPrinter actor shown
  pub desk_count : length world.desks ≡ length relay.desks
  pub desks : (number : ℕ) (actor : DeskActor A) (desk : Desk) → slice_get world.desks number ≡ Some actor →
      slice_get relay.desks number ≡ Some desk → (actor.capacity ≡ desk.capacity) × ShowsDesk desk.capacity actor.state desk.actor
  pub labels : world.labels ≡ map left_label relay.labels
  pub tickets : world.tickets ≡ relay.tickets
  pub exports : world.exports ≡ map left_export relay.exports
  pub entries : (number : ℕ) (export : Export) → slice_get relay.exports number ≡ Some export →
      IsEntry export.id export.pages

-- each range has at least one number, and all its numbers are those of IDs
abbrev pub AreIdRanges : List Range → Type 0
AreIdRanges ranges = All (λ range. IsTrue (is_range range)) ranges

-- The world has this history, newest moment first, from printers with these ranges and desks with these capacities.
pub record StandsFor {A : Type 0} (ranges : List Range) (capacities : List ℕ) (world : WorldView A) (h : List (Moment A))
    : Type 0 where
  pub are_ranges : AreIdRanges ranges
  pub disjoint : AreDisjoint ranges
  pub are_capacities : All IsCapacity capacities
  pub relay : Relay
  pub run : IsRun (start ranges capacities) h relay
  pub shows : Shows world relay

-- a world that stood for a history now stands for it with one more moment, of this event and this reply
abbrev pub GoesOn : {A : Type 0} → WorldView A → Event A → Reply A → WorldView A → Type 0
GoesOn {A} old event reply new = (ranges : List Range) (capacities : List ℕ) (h : List (Moment A)) →
    (s : StandsFor ranges capacities old h) →
    StandsFor ranges capacities new (record { before = s.relay; event = event; reply = reply } ∷ h)

-- the same for several events, each with its reply
abbrev pub GoesOnByAll : {A : Type 0} → WorldView A → List (Event A) → List (Reply A) → WorldView A → Type 0
GoesOnByAll {A} old events replies new = (ranges : List Range) (capacities : List ℕ) (h : List (Moment A)) →
    StandsFor ranges capacities old h →
    (moments : List (Moment A)) × AreMomentsOf events replies moments × StandsFor ranges capacities new (onto moments h)

-- ---- the headline

-- the event is a scan of something that is there; no other event is looked at
abbrev pub MayBeLookedAt : {A : Type 0} → Relay → Event A → Type 0
MayBeLookedAt {A} relay (Scan desk number flips stop) = relays.IsNamedThere {A = A} relay (Scan desk number flips stop)
MayBeLookedAt relay event = ⊥

-- the relay before the first of these moments
abbrev pub first_of : {A : Type 0} → List (Moment A) → Relay → Relay
first_of [] end = end
first_of (moment ∷ later) end = moment.before

-- The answers to these events are those of the moments of a run, oldest first. An event that was given is a moment, and
-- was found honest exactly if it is fair. Only a scan of something that is there can fail to be given, if memory for
-- the look at it is refused.
abbrev pub AreAnswers : {A : Type 0} → List (Event A) → List (Answer A) → List (Moment A) → Relay → Type 0
AreAnswers [] [] [] end = Unit {0}
AreAnswers (event ∷ events) (Given is_honest reply ∷ answers) (moment ∷ later) end =
    (moment.event ≡ event) × (moment.reply ≡ reply) × ((is_honest ≡ true) ↔ IsFairEvent moment.before event)
    × AreAnswers events answers later end
AreAnswers (event ∷ events) (NotGiven ∷ answers) later end =
    MayBeLookedAt (first_of later end) event × AreAnswers events answers later end
AreAnswers events answers moments end = ⊥

-- these answers were heard one after another
abbrev pub HearsAll : {A L : Type 0} → (L → Answer A → L → Type 0) → L → List (Answer A) → L → Type 0
HearsAll hears first [] last = last ≡ first
HearsAll {A} {L} hears first (answer ∷ answers) last =
    (next : L) × hears first answer next × HearsAll hears next answers last

-- The headline. The events had these answers in a run of a relay whose printers began with these ranges, and whose
-- desks have these capacities. No ID was printed twice; whatever document a clean desk gave for an ID is the one
-- document printed under it; and all desks were clean as long as each scan that may have saved its page was fair.
pub record IsWatched {A : Type 0} (ranges : List Range) (capacities : List ℕ) (events : List (Event A))
    (answers : List (Answer A)) : Type 0 where
  pub are_ranges : AreIdRanges ranges
  pub disjoint : AreDisjoint ranges
  pub are_capacities : All IsCapacity capacities
  pub moments : List (Moment A)
  pub end : Relay
  pub run : IsRun (start ranges capacities) (onto moments []) end
  pub answered : AreAnswers events answers moments end
  pub once : PrintsOnce end
  pub true_moments : AreTrueMoments end.labels (onto moments [])

-- ---- why no world begins

-- the first of these that applies, or memory if none does
abbrev pub HasWorldFault : List Range → List ℕ → WorldFault → Type 0
HasWorldFault ranges capacities faults.Range = ¬ AreIdRanges ranges
HasWorldFault ranges capacities faults.Overlap = AreIdRanges ranges × (¬ AreDisjoint ranges)
HasWorldFault ranges capacities faults.Capacity =
    AreIdRanges ranges × AreDisjoint ranges × (¬ All IsCapacity capacities)
HasWorldFault ranges capacities faults.Memory = AreIdRanges ranges × AreDisjoint ranges × All IsCapacity capacities

-- the names of these faults, as they are printed
abbrev pub world_fault_name : WorldFault → List ℕ
world_fault_name faults.Range = codes "Range"
world_fault_name faults.Overlap = codes "Overlap"
world_fault_name faults.Capacity = codes "Capacity"
world_fault_name faults.Memory = codes "Memory"
