-- Each event of a world, from what its printer or desk did.
use Rattle.std.proofs.Common.{◌≡◌, ◌≤◌, inl, ℕ, Some, List, [], length, slice_get, slice_set, sym, ap, subst}
use Rattle.std.proofs.lemmas.Option.{slice_get_within}
use Rattle.dm_size.specs.declared.size.Size.{Size}
use Rattle.dm_encodation.specs.declared.scheme.Scheme.{Scheme}
use Rattle.dm_finder_frame.specs.Frame.{GridView, flipped}
use Rattle.dm_print_ledger.specs.{declared.range.Range.Range, Ledger.TicketView}
use Rattle.dm_assembly_desk.specs.declared.fault.DeskFault.TheVariants as desk_fault
use Rattle.dm_assembly_desk.specs.Documents.{Documents, IsEntry, file}
use Rattle.dm_event_history.specs.declared.event.Event.TheVariants.{Print, Scan, RestartPrinter, RestartDesk, Ask, Forget, Give, Take, Export, Import}
use Rattle.dm_event_history.specs.declared.reply.Reply.{Reply, TheVariants.DeskRefused}
use Rattle.dm_event_history.specs.{declared.stop.Stop.Stop, Relay.Actor, Relay.Goods, Relay.Label, Relay.Relay}
use Rattle.dm_event_history.specs.Relay as relays
use Rattle.dm_event_history.specs.Steps.{Ending, Calls, MayLackFirst, Looks, Restarts, PrintComes, GiveComes, TakeComes, print_faults, give_faults, take_faults, ScanComes, ForgetComes, ImportComes, AskTells, ExportTells, scan_faults, forget_faults, import_faults, DeskGoes, HasModules, PrinterGoes}
use Rattle.dm_event_world.specs.declared.actor.{PrinterActor.PrinterActor, DeskActor.DeskActor, DeskState.DeskState}
use Rattle.dm_event_world.specs.declared.actor.{LeftLabel.LeftLabel, LeftExport.LeftExport}
use Rattle.dm_event_world.specs.Shows.{WorldView, AreWithin, Shows, ShowsDesk, ShowsPrinter, left_export, left_label}
use Rattle.dm_event_world.specs.inner.{Calls.EndsEach, Calls.EndsSo, Calls.Left, Calls.RestartsAs, Events.StepsEach}
use Rattle.dm_event_world.proofs.Mapped.{get_map, get_map_from}
use Rattle.dm_event_world.proofs.Endings.{lets_as}
use Rattle.dm_event_world.proofs.Changing.{world_of, printer_steps, desk_steps, past_map, same_set, left_labels_alone, left_tickets_alone, left_exports_alone, left_none, label_count, export_count}

-- ---- printers

pub printed : {A : Type 0} (old : WorldView A) (labels : List (LeftLabel A)) (seen : WorldView A) (printer : ℕ)
    (document : List ℕ) (size : Size) (scheme : Scheme) (stop : Stop) (reply : Reply A) (actor after : PrinterActor A) →
    old ≡ seen → slice_get old.printers printer ≡ Some actor →
    EndsEach ShowsPrinter
    (MayLackFirst (Calls print_faults stop (PrintComes (length old.labels) document size scheme)))
    (λ goods. Left old.labels [] [] goods labels [] []) actor reply after →
    StepsEach seen (Print printer document size scheme stop) reply
    (world_of (slice_set old.printers printer after) old.desks labels old.tickets old.exports)
printed {A} old labels seen printer document size scheme stop reply actor after is was ends =
    printer_steps old labels old.tickets seen _ reply printer actor after _ is was
    (λ shown number s. lets_as _ _ _ _ shown reply after (left_labels_alone old.labels labels old.tickets old.exports)
    (ends shown s))
    (λ relay next s there goes. inl (
      there,
      subst (λ (n : ℕ). PrinterGoes relay printer
          (MayLackFirst (Calls print_faults stop (PrintComes n document size scheme))) reply next)
          (label_count old relay s) goes,
    ))

pub gave : {A : Type 0} (old : WorldView A) (tickets : List TicketView) (seen : WorldView A) (printer receiver : ℕ)
    (range : Range) (stop : Stop) (reply : Reply A) (actor after : PrinterActor A) →
    old ≡ seen → slice_get old.printers printer ≡ Some actor →
    EndsEach ShowsPrinter
    (MayLackFirst (Calls give_faults stop (GiveComes (length old.tickets) receiver range)))
    (λ goods. Left {A = A} [] old.tickets [] goods [] tickets []) actor reply after →
    StepsEach seen (Give printer receiver range stop) reply
    (world_of (slice_set old.printers printer after) old.desks old.labels tickets old.exports)
gave {A} old tickets seen printer receiver range stop reply actor after is was ends =
    printer_steps old old.labels tickets seen _ reply printer actor after _ is was
    (λ shown number s. lets_as _ _ _ _ shown reply after (left_tickets_alone old.labels old.tickets tickets old.exports)
    (ends shown s))
    (λ relay next s there goes. inl (
      there,
      subst (λ (n : ℕ). PrinterGoes relay printer
          (MayLackFirst (Calls give_faults stop (GiveComes n receiver range))) reply next)
          (ap (λ (ts : List TicketView). length ts) s.tickets) goes,
    ))

pub took : {A : Type 0} (old seen : WorldView A) (printer number : ℕ) (ticket : TicketView) (stop : Stop)
    (reply : Reply A) (actor after : PrinterActor A) →
    old ≡ seen → slice_get old.printers printer ≡ Some actor → slice_get old.tickets number ≡ Some ticket →
    EndsEach ShowsPrinter (Calls take_faults stop (TakeComes number ticket))
    (λ goods. Left {A = A} [] [] [] goods [] [] []) actor reply after →
    StepsEach seen (Take printer number stop) reply
    (world_of (slice_set old.printers printer after) old.desks old.labels old.tickets old.exports)
took {A} old seen printer number ticket stop reply actor after is was it ends =
    printer_steps old old.labels old.tickets seen _ reply printer actor after _ is was
    (λ shown its s. lets_as _ _ _ _ shown reply after (left_none old.labels old.tickets old.exports) (ends shown s))
    (λ relay next s there goes.
    let own = subst (λ (ts : List TicketView). slice_get ts number ≡ Some ticket) s.tickets it in
    inl ((there, slice_get_within relay.tickets number ticket own), (ticket, own, goes)))

pub restarted : {A : Type 0} (old seen : WorldView A) (printer : ℕ)
    (reply : Reply A) (actor after : PrinterActor A) →
    old ≡ seen → slice_get old.printers printer ≡ Some actor → RestartsAs printer actor reply after →
    StepsEach seen (RestartPrinter printer) reply
    (world_of (slice_set old.printers printer after) old.desks old.labels old.tickets old.exports)
restarted {A} old seen printer reply actor after is was ends =
    printer_steps old old.labels old.tickets seen _ reply printer actor after _ is was
    (λ shown number s. lets_as _ _ _ _ shown reply after (left_none old.labels old.tickets old.exports)
    (ends shown s number))
    (λ relay next s there goes. inl (there, goes))

-- ---- desks

-- of an event at a desk by which nothing leaves
none_leaves : {A : Type 0} (old : WorldView A) (capacity : ℕ) (Acts : Actor Documents → Ending A Documents → Type 0)
    (shown : Actor Documents) (reply : Reply A) (after : DeskState A) →
    EndsSo (ShowsDesk capacity) Acts (λ goods. Left {A = A} [] [] [] goods [] [] []) shown reply after →
    EndsSo (ShowsDesk capacity) Acts
    (λ goods. Left old.labels old.tickets old.exports goods old.labels old.tickets old.exports) shown reply after
none_leaves {A} old capacity Acts shown reply after ends =
    lets_as _ _ _ _ shown reply after (left_none old.labels old.tickets old.exports) ends

abbrev pub desk_after : {A : Type 0} → WorldView A → ℕ → ℕ → DeskState A → WorldView A
desk_after old desk capacity after = world_of old.printers
    (slice_set old.desks desk (record { capacity = capacity; state = after })) old.labels old.tickets old.exports

-- the label that a scan names has not left, or a module that it flips is outside
pub label_past : {A : Type 0} (old : WorldView A) (relay : Relay) (number : ℕ) (flips : List (ℕ × ℕ)) →
    length old.labels ≤ number → Shows old relay → HasModules relay number flips → ⊥
label_past {A} old relay number flips past s named =
    past_map (left_label {A = A}) old.labels relay.labels number s.labels past
    (slice_get_within relay.labels number named.0 named.1)

pub flips_outside : {A : Type 0} (old : WorldView A) (relay : Relay) (number : ℕ) (flips : List (ℕ × ℕ))
    (left : LeftLabel A) → slice_get old.labels number ≡ Some left → (AreWithin left.grid flips → ⊥) →
    Shows old relay → HasModules relay number flips → ⊥
flips_outside {A} old relay number flips left it out s named =
    let own = get_map (left_label {A = A}) relay.labels number named.0 named.1 in
    let there : slice_get old.labels number ≡ Some (left_label named.0) =
    subst (λ (ls : List (LeftLabel A)). slice_get ls number ≡ Some (left_label named.0)) (sym s.labels) own in
    let same : left_label named.0 ≡ left = cc (it, there) in
    out (subst (λ (l : LeftLabel A). AreWithin l.grid flips) same named.2)

pub scanned : {A : Type 0} (old seen : WorldView A) (desk number : ℕ) (flips : List (ℕ × ℕ)) (stop : Stop)
    (left : LeftLabel A) (reply : Reply A) (actor : DeskActor A) (after : DeskState A) →
    old ≡ seen → slice_get old.desks desk ≡ Some actor → slice_get old.labels number ≡ Some left →
    AreWithin left.grid flips →
    ((capacity : ℕ) → EndsEach (ShowsDesk capacity)
    (MayLackFirst (Calls scan_faults stop (ScanComes capacity (flipped left.grid flips))))
    (λ goods. Left {A = A} [] [] [] goods [] [] []) actor.state reply after) →
    StepsEach seen (Scan desk number flips stop) reply (desk_after old desk actor.capacity after)
scanned {A} old seen desk number flips stop left reply actor after is was it within ends =
    desk_steps old old.exports seen _ reply desk actor after _ is was
    (λ relay s capacity same shown t. none_leaves old capacity _ shown reply after (ends capacity shown t))
    (λ relay next s there goes.
    let own = get_map_from (left_label {A = A}) relay.labels number left
    (subst (λ (ls : List (LeftLabel A)). slice_get ls number ≡ Some left) s.labels it) in
    let grid : left.grid ≡ own.0.grid = sym (ap (λ (l : LeftLabel A). l.grid) own.2) in
    inl (
      (there, (own.0, own.1, subst (λ (grid : GridView). AreWithin grid flips) grid within)),
      (
        own.0,
        own.1,
        subst (λ (grid : GridView). DeskGoes relay desk
            (λ capacity. MayLackFirst (Calls scan_faults stop (ScanComes capacity (flipped grid flips)))) reply next) grid goes,
      ),
    ))

pub forgot : {A : Type 0} (old seen : WorldView A) (desk id : ℕ) (stop : Stop) (reply : Reply A) (actor : DeskActor A)
    (after : DeskState A) → old ≡ seen → slice_get old.desks desk ≡ Some actor →
    ((capacity : ℕ) → EndsEach (ShowsDesk capacity) (Calls forget_faults stop (ForgetComes id))
    (λ goods. Left {A = A} [] [] [] goods [] [] []) actor.state reply after) →
    StepsEach seen (Forget desk id stop) reply (desk_after old desk actor.capacity after)
forgot {A} old seen desk id stop reply actor after is was ends =
    desk_steps old old.exports seen _ reply desk actor after _ is was
    (λ relay s capacity same shown t. none_leaves old capacity _ shown reply after (ends capacity shown t))
    (λ relay next s there goes. inl (there, goes))

pub asked : {A : Type 0} (old seen : WorldView A) (desk id : ℕ) (reply : Reply A) (actor : DeskActor A) →
    old ≡ seen → slice_get old.desks desk ≡ Some actor →
    ((capacity : ℕ) → EndsEach (ShowsDesk capacity) (Looks (AskTells id))
    (λ goods. Left {A = A} [] [] [] goods [] [] []) actor.state reply actor.state) →
    StepsEach seen (Ask desk id) reply seen
asked {A} old seen desk id reply actor is was ends =
    subst (λ (w : WorldView A). StepsEach seen (Ask desk id) reply w) is
    (subst (λ (desks : List (DeskActor A)). StepsEach seen (Ask desk id) reply
    (world_of old.printers desks old.labels old.tickets old.exports)) (same_set old.desks desk actor was)
    (desk_steps old old.exports seen _ reply desk actor actor.state _ is was
    (λ relay s capacity same shown t. none_leaves old capacity _ shown reply actor.state (ends capacity shown t))
    (λ relay next s there goes. inl (there, goes))))

pub desk_restarted : {A : Type 0} (old seen : WorldView A) (desk : ℕ) (reply : Reply A) (actor : DeskActor A)
    (after : DeskState A) → old ≡ seen → slice_get old.desks desk ≡ Some actor →
    EndsEach (ShowsDesk actor.capacity) (Restarts (DeskRefused desk_fault.Memory))
    (λ goods. Left {A = A} [] [] [] goods [] [] []) actor.state reply after →
    StepsEach seen (RestartDesk desk) reply (desk_after old desk actor.capacity after)
desk_restarted {A} old seen desk reply actor after is was ends =
    desk_steps old old.exports seen _ reply desk actor after _ is was
    (λ relay s capacity same shown t. none_leaves old capacity _ shown reply after
    (subst (λ (n : ℕ). EndsEach (ShowsDesk n) (Restarts (DeskRefused desk_fault.Memory))
    (λ goods. Left {A = A} [] [] [] goods [] [] []) actor.state reply after) (sym same) ends shown t))
    (λ relay next s there goes. inl (there, goes))

pub exported : {A : Type 0} (old : WorldView A) (exports : List (LeftExport A)) (seen : WorldView A) (desk id : ℕ)
    (reply : Reply A) (actor : DeskActor A) → old ≡ seen → slice_get old.desks desk ≡ Some actor →
    ((capacity : ℕ) → EndsEach (ShowsDesk capacity) (MayLackFirst (Looks (ExportTells (length old.exports) id)))
    (λ goods. Left [] [] old.exports goods [] [] exports) actor.state reply actor.state) →
    StepsEach seen (Export desk id) reply (world_of old.printers old.desks old.labels old.tickets exports)
exported {A} old exports seen desk id reply actor is was ends =
    subst (λ (desks : List (DeskActor A)). StepsEach seen (Export desk id) reply
    (world_of old.printers desks old.labels old.tickets exports)) (same_set old.desks desk actor was)
    (desk_steps old exports seen _ reply desk actor actor.state _ is was
    (λ relay s capacity same shown t. lets_as _ _ _ _ shown reply actor.state
    (left_exports_alone old.labels old.tickets old.exports exports) (ends capacity shown t))
    (λ relay next s there goes. inl (
      there,
      subst (λ (n : ℕ). DeskGoes relay desk
          (λ capacity. MayLackFirst (Looks (ExportTells n id))) reply next) (export_count old relay s) goes,
    )))

pub imported : {A : Type 0} (old seen : WorldView A) (desk number : ℕ) (stop : Stop) (left : LeftExport A)
    (reply : Reply A) (actor : DeskActor A) (after : DeskState A) →
    old ≡ seen → slice_get old.desks desk ≡ Some actor → slice_get old.exports number ≡ Some left →
    ((export : relays.Export) → IsEntry export.id export.pages → left.bytes ≡ file export.id export.pages →
    (capacity : ℕ) → EndsEach (ShowsDesk capacity) (Calls import_faults stop (ImportComes capacity export))
    (λ goods. Left {A = A} [] [] [] goods [] [] []) actor.state reply after) →
    StepsEach seen (Import desk number stop) reply (desk_after old desk actor.capacity after)
imported {A} old seen desk number stop left reply actor after is was it ends =
    desk_steps old old.exports seen _ reply desk actor after _ is was
    (λ relay s capacity same shown t. none_leaves old capacity _ shown reply after
    (ends (own relay s).0 (s.entries number (own relay s).0 (own relay s).1)
    (sym (ap (λ (l : LeftExport A). l.bytes) (own relay s).2)) capacity shown t))
    (λ relay next s there goes. inl (
      (there, slice_get_within relay.exports number (own relay s).0 (own relay s).1),
      ((own relay s).0, (own relay s).1, goes),
    ))
  where
    own : (relay : Relay) → Shows old relay →
        (export : relays.Export) × (slice_get relay.exports number ≡ Some export) × (left_export {A = A} export ≡ left)
    own relay s = get_map_from (left_export {A = A}) relay.exports number left
        (subst (λ (es : List (LeftExport A)). slice_get es number ≡ Some left) s.exports it)
