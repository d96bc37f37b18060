-- Nothing is open but memory.
use Rattle.std.proofs.Common.{arith, ◌≡◌, ◌⊎◌, ℕ, Some, length, sym, subst, ◌∙◌}
use Rattle.dm_finder_frame.specs.Frame.{flipped}
use Rattle.dm_print_ledger.specs.Ledger.{LedgerView, TicketView}
use Rattle.dm_assembly_desk.specs.Documents.{Documents}
use Rattle.dm_event_history.specs.declared.{event.Event.Event, reply.Reply.Reply}
use Rattle.dm_event_history.specs.declared.event.Event.TheVariants.{Print, Scan, RestartPrinter, RestartDesk, Ask, Forget, Give, Take, Export, Import}
use Rattle.dm_event_history.specs.declared.reply.Reply.TheVariants.{DeskRefused, PrinterRefused}
use Rattle.dm_print_ledger.specs.declared.fault.OpenFault.TheVariants as open_fault
use Rattle.dm_assembly_desk.specs.declared.fault.DeskFault.TheVariants as desk_fault
use Rattle.dm_event_history.specs.{Relay.Actor, Relay.Relay, Relay.Label, Told.IsOfMemory, Told.NothingIsOpenButMemory}
use Rattle.dm_event_history.specs.Relay as relays
use Rattle.dm_event_history.specs.Steps.{Calls, Ending, ExportTells, GiveComes, MayLackFirst, PrintComes, TakeComes, give_faults, print_faults, take_faults, AskTells, ForgetComes, ImportComes, ScanComes, forget_faults, import_faults, scan_faults, Acts, DeskGoes, PrinterGoes}
use Rattle.dm_event_history.proofs.OneCourse.{print_determined, give_determined, take_determined, scan_determined, forget_determined, import_determined}
use Rattle.dm_event_history.proofs.OneEnding.{IsOne, ask_one, by_reply, calls_one, export_one, forget_answered, give_answered, import_answered, looks_one, may_lack_one, print_answered, restarts_one, scan_answered, take_answered}

abbrev Same : {A : Type 0} → Reply A → Reply A → Relay → Relay → Type 0
Same r s one other =
    (((r ≡ s) × (one ≡ other)) ⊎ (IsOfMemory r ⊎ IsOfMemory s)) × (r ≡ s → one ≡ other)

printer_one : {A : Type 0} (kept : Actor LedgerView → Actor LedgerView) (old one other : Relay) (printer : ℕ) (Acts : Actor LedgerView → Ending A LedgerView → Type 0)
    (r s : Reply A) → IsOne kept Acts → PrinterGoes old printer Acts r one → PrinterGoes old printer Acts s other →
    Same r s one other
printer_one {A} kept old one other printer Acts r s same p q =
    let alike = same.alike in let fixed = by_reply kept Acts same in grind arith

desk_one : {A : Type 0} (kept : Actor Documents → Actor Documents) (old one other : Relay) (number : ℕ) (Acts : ℕ → Actor Documents → Ending A Documents → Type 0)
    (r s : Reply A) → ((capacity : ℕ) → IsOne kept (Acts capacity)) → DeskGoes old number Acts r one →
    DeskGoes old number Acts s other → Same r s one other
desk_one {A} kept old one other number Acts r s same p q =
    let alike = (same p.desk.capacity).alike in let fixed = by_reply kept (Acts p.desk.capacity) (same p.desk.capacity) in grind arith

acts_one : {A : Type 0} (old one other : Relay) (event : Event A) (r s : Reply A) → Acts old event r one →
    Acts old event s other → Same r s one other
acts_one {A} old one other (Print printer document size scheme stop) r s p q =
    printer_one _ old one other printer _ r s
    (may_lack_one _ (calls_one print_faults stop (PrintComes {A = A} (length old.labels) document size scheme) tt (λ e. e) (λ e. e)
    (print_answered (length old.labels) document size scheme) (print_determined (length old.labels) document size scheme))) p q
acts_one {A} old one other (Give printer receiver range stop) r s p q =
    printer_one _ old one other printer _ r s
    (may_lack_one _ (calls_one give_faults stop (GiveComes {A = A} (length old.tickets) receiver range) tt (λ e. e) (λ e. e)
    (give_answered (length old.tickets) receiver range) (give_determined (length old.tickets) receiver range))) p q
acts_one {A} old one other (Take printer number stop) r s p q =
    let there : Some p.0 ≡ Some q.0 = sym p.1 ∙ q.1 in
    let ticket : p.0 ≡ q.0 = cc (there) in
    let Goes : TicketView → Type 0 = λ x. PrinterGoes old printer (Calls take_faults stop (TakeComes number x)) s other in
    printer_one _ old one other printer _ r s
    (calls_one take_faults stop (TakeComes {A = A} number p.0) tt (λ e. e) (λ e. e)
    (take_answered number p.0) (take_determined number p.0)) p.2 (subst Goes (sym ticket) q.2)
acts_one {A} old one other (RestartPrinter printer) r s p q =
    printer_one _ old one other printer _ r s (restarts_one (PrinterRefused open_fault.Memory) tt) p q
acts_one {A} old one other (Scan desk number flips stop) r s p q =
    let there : Some p.0 ≡ Some q.0 = sym p.1 ∙ q.1 in
    let label : p.0 ≡ q.0 = cc (there) in
    let Goes : Label → Reply A → Relay → Type 0 = λ l t new. DeskGoes old desk
    (λ capacity. MayLackFirst (Calls scan_faults stop (ScanComes capacity (flipped l.grid flips)))) t new in
    let goes : Goes p.0 s other = subst (λ (l : Label). Goes l s other) (sym label) q.2 in
    desk_one _ old one other desk _ r s
    (λ capacity. may_lack_one _ (calls_one scan_faults stop (ScanComes {A = A} capacity (flipped p.0.grid flips)) tt (λ e. e) (λ e. e)
    (scan_answered capacity (flipped p.0.grid flips)) (scan_determined capacity (flipped p.0.grid flips)))) p.2 goes
acts_one {A} old one other (Forget desk id stop) r s p q = desk_one _ old one other desk _ r s
    (λ capacity. calls_one forget_faults stop (ForgetComes {A = A} id) tt (λ e. e) (λ e. e) (forget_answered id) (forget_determined id)) p q
acts_one {A} old one other (Import desk number stop) r s p q =
    let there : Some p.0 ≡ Some q.0 = sym p.1 ∙ q.1 in
    let export : p.0 ≡ q.0 = cc (there) in
    let Goes : relays.Export → Type 0 = λ x. DeskGoes old desk (λ capacity. Calls import_faults stop (ImportComes capacity x)) s other in
    desk_one _ old one other desk _ r s
    (λ capacity. calls_one import_faults stop (ImportComes {A = A} capacity p.0) tt (λ e. e) (λ e. e)
    (import_answered capacity p.0) (import_determined capacity p.0)) p.2 (subst Goes (sym export) q.2)
acts_one {A} old one other (Ask desk id) r s p q =
    desk_one _ old one other desk _ r s (λ capacity. looks_one (AskTells {A = A} id) (ask_one id)) p q
acts_one {A} old one other (Export desk id) r s p q =
    desk_one _ old one other desk _ r s (λ capacity. may_lack_one _
    (looks_one (ExportTells {A = A} (length old.exports) id) (export_one (length old.exports) id))) p q
acts_one {A} old one other (RestartDesk desk) r s p q =
    desk_one _ old one other desk _ r s (λ capacity. restarts_one (DeskRefused desk_fault.Memory) tt) p q

pub only_memory : (A : Type 0) → NothingIsOpenButMemory A
only_memory A old one other event r s p q = grind (arith, acts_one)
