-- Calls of each kind: their replies are plain; and a walk over all events by the kind of what each does.
use Rattle.std.proofs.Common.{arith, ◌≡◌, ℕ, Bool, true, false, length, Option, None, Some, Ok, Err, Result, List, refl}
use Rattle.dm_finder_frame.specs.Frame.{GridView, flipped}
use Rattle.dm_size.specs.declared.size.Size.{Size}
use Rattle.dm_encodation.specs.declared.scheme.Scheme.{Scheme}
use Rattle.dm_append_label.specs.Labels.{PageView}
use Rattle.dm_append_label.specs.declared.fault.LabelFault.{LabelFault}
use Rattle.dm_print_ledger.specs.{declared.range.Range.Range, Ledger.LedgerView, Ledger.TicketView}
use Rattle.dm_print_ledger.specs.declared.fault.OpenFault.TheVariants as open_fault
use Rattle.dm_assembly_desk.specs.declared.fault.DeskFault.TheVariants as desk_fault
use Rattle.dm_assembly_desk.specs.{Documents.Pages, Documents.Documents, Desk.add_verdict}
use Rattle.dm_assembly_desk.specs.declared.adding.AddFault.TheVariants as adds
use Rattle.dm_assembly_desk.specs.declared.reply.Imported as imported_type
use Rattle.dm_event_history.specs.declared.{reply.Reply.TheVariants.Imported, event.Event.Event, reply.Reply.Reply}
use Rattle.dm_event_history.proofs.Adds.{Answer}
use Rattle.dm_event_history.specs.declared.event.Event.TheVariants.{Print, Scan, RestartPrinter, RestartDesk, Ask, Forget, Give, Take, Export, Import}
use Rattle.dm_event_history.specs.declared.reply.Reply.TheVariants as replies
use Rattle.dm_event_history.specs.{declared.stop.Stop.Stop, Relay.Actor, Relay.Goods, Relay.Relay}
use Rattle.dm_event_history.specs.Steps.{DeskAt, PrinterAt, actor_of, Acts, DeskGoes, PrinterGoes, stop_of, Answers, Calls, Course, Ending, Faults, LacksMemory, Looks, MayLackFirst, Restarts, Saves, GiveComes, PrintComes, TakeComes, give_faults, print_faults, take_faults, AskTells, ExportTells, ForgetComes, ImportComes, MayBe, ScanComes, forget_faults, import_faults, scan_course, scan_faults, verdict_course, pages_reply}
use Rattle.dm_event_history.specs.Relay as relays
use Rattle.dm_event_history.specs.Told.{NeedsRunning, is_new, tells_of_save, down_after, failed_after, tells_failed}

-- ---- replies of calls

-- the reply tells neither of a stop nor of a save that failed, now or before
pub record IsPlain {A : Type 0} (reply : Reply A) : Type 0 where
  pub up : (b : Bool) → down_after reply b ≡ false
  pub same : (b : Bool) → failed_after reply b ≡ b
  pub unfailed : tells_failed reply ≡ false

pub record ArePlain {A : Type 0} (faults : Faults A) : Type 0 where
  pub failed_up : (b : Bool) → down_after faults.failed b ≡ false
  pub failed_same : (b : Bool) → failed_after faults.failed b ≡ b
  pub memory : IsPlain faults.memory
  pub save_up : (b : Bool) → down_after faults.save b ≡ false
  pub save_fails : (b : Bool) → failed_after faults.save b ≡ true
  pub save_unfailed : tells_failed faults.save ≡ false
  pub failed_untold : tells_of_save faults.failed ≡ false
  pub save_untold : tells_of_save faults.save ≡ false
  pub memory_untold : tells_of_save faults.memory ≡ false

-- nor of a save, as an answer without one
abbrev pub IsPlainAnswer : {A : Type 0} → Reply A → Type 0
IsPlainAnswer reply = IsPlain reply × (tells_of_save reply ≡ false)

abbrev pub IsPlainCourse : {A C : Type 0} → Course A C → Type 0
IsPlainCourse (Saves next goods reply) = IsPlain reply
IsPlainCourse (Answers reply) = IsPlainAnswer reply
IsPlainCourse LacksMemory = Unit {0}

-- it tells that one is down that did not come up again
pub record IsRefusal {A : Type 0} (refused : Reply A) : Type 0 where
  pub down : (b : Bool) → down_after refused b ≡ true
  pub unfailed : failed_after refused false ≡ false
  pub before : tells_failed refused ≡ false

-- ---- what each call comes to

pub print_plain : {A : Type 0} (before : ℕ) (document : List ℕ) (size : Size) (scheme : Scheme) (held : LedgerView)
    (course : Course A LedgerView) → PrintComes before document size scheme held course → IsPlainCourse course
print_plain before document size scheme held course comes = grind arith

pub give_plain : {A : Type 0} (before receiver : ℕ) (range : Range) (held : LedgerView) (course : Course A LedgerView) →
    GiveComes before receiver range held course → IsPlainCourse course
give_plain before receiver range held course comes = grind arith

pub take_plain : {A : Type 0} (number : ℕ) (ticket : TicketView) (held : LedgerView) (course : Course A LedgerView) →
    TakeComes number ticket held course → IsPlainCourse course
take_plain number ticket held course comes = grind arith

-- pages that are to be added are refused for what is held alone
add_plain : {A : Type 0} (tells : Answer → Reply A) (capacity : ℕ) (held : Documents) (id : ℕ) (pages : Pages) →
    ((added : imported_type.Imported) → IsPlain (tells (Ok added))
    × (tells_of_save (tells (Ok added)) ≡ is_new added.kind)) → IsPlainAnswer (tells (Err adds.Conflict)) →
    IsPlainAnswer (tells (Err adds.Full)) → IsPlainCourse (verdict_course tells (add_verdict capacity held id pages))
add_plain {A} tells capacity held id pages told conflict full = grind arith

may_be_plain : {A : Type 0} (wanted course : Course A Documents) → IsPlainCourse wanted → MayBe wanted course →
    IsPlainCourse course
may_be_plain {A} wanted course p is = grind arith

scan_plain : {A : Type 0} (capacity : ℕ) (grid : GridView) (held : Documents) (course : Course A Documents) →
    ScanComes capacity grid held course → IsPlainCourse course
scan_plain {A} capacity grid held course comes =
    may_be_plain (scan_course capacity held comes.0) course (by_read comes.0) comes.2
  where
    by_read : (read : Result PageView LabelFault) → IsPlainCourse {A = A} (scan_course capacity held read)
    by_read (Ok page) = grind (arith, add_plain)
    by_read (Err fault) = (record { up = λ b. refl; same = λ b. refl; unfailed = refl }, refl)

forget_plain : {A : Type 0} (id : ℕ) (held : Documents) (course : Course A Documents) → ForgetComes id held course →
    IsPlainCourse course
forget_plain {A} id held course comes = grind arith

import_plain : {A : Type 0} (capacity : ℕ) (export : relays.Export) (held : Documents) (course : Course A Documents) →
    ImportComes capacity export held course → IsPlainCourse course
import_plain {A} capacity export held course comes =
    may_be_plain _ course (add_plain {A = A} pages_reply capacity held export.id export.pages
    (λ added. (record { up = λ b. refl; same = λ b. refl; unfailed = refl }, refl))
    (record { up = λ b. refl; same = λ b. refl; unfailed = refl }, refl)
    (record { up = λ b. refl; same = λ b. refl; unfailed = refl }, refl)) comes

-- ---- looks

ask_plain : {A : Type 0} (id : ℕ) (held : Documents) (reply : Reply A) (goods : Goods) → AskTells id held reply goods →
    IsPlainAnswer reply
ask_plain {A} id held reply goods tells = grind arith

export_plain : {A : Type 0} (before id : ℕ) (held : Documents) (reply : Reply A) (goods : Goods) →
    ExportTells before id held reply goods → IsPlainAnswer reply
export_plain {A} before id held reply goods tells = grind arith

-- ---- the faults of each call

pub fine_print : {A : Type 0} → ArePlain {A = A} print_faults
fine_print = grind arith

pub fine_give : {A : Type 0} → ArePlain {A = A} give_faults
fine_give = grind arith

pub fine_take : {A : Type 0} → ArePlain {A = A} take_faults
fine_take = grind arith

fine_scan : {A : Type 0} → ArePlain {A = A} scan_faults
fine_scan = grind arith

fine_forget : {A : Type 0} → ArePlain {A = A} forget_faults
fine_forget = grind arith

fine_import : {A : Type 0} → ArePlain {A = A} import_faults
fine_import = grind arith

-- ---- restarts that are refused

is_refusal_there : {A : Type 0} → IsRefusal {A = A} (replies.PrinterRefused open_fault.Memory)
is_refusal_there = record { down = λ b. refl; unfailed = refl; before = refl }

is_refusal_here : {A : Type 0} → IsRefusal {A = A} (replies.DeskRefused desk_fault.Memory)
is_refusal_here = record { down = λ b. refl; unfailed = refl; before = refl }

-- ---- a walk over all events

-- What is so of calls, also where memory may be refused first, of looks and of restarts is so of what an event does. What
-- follows of it for a printer, and for a desk, follows of each event.
pub by_kind : {A : Type 0} (old new : Relay) (event : Event A) (reply : Reply A)
    (Q : (C : Type 0) → Option Stop → (Actor C → Ending A C → Type 0) → Type 0) (P : Type 0) →
    ((C : Type 0) (faults : Faults A) (stop : Stop) (Comes : C → Course A C → Type 0) → ArePlain faults →
    ((held : C) (course : Course A C) → Comes held course → IsPlainCourse course) →
    Q C (Some stop) (Calls faults stop Comes)) →
    ((C : Type 0) (stop : Option Stop) (Does : Actor C → Ending A C → Type 0) → Q C stop Does →
    Q C stop (MayLackFirst Does)) →
    ((C : Type 0) (Said : C → Reply A → Goods → Type 0) →
    ((held : C) (reply : Reply A) (goods : Goods) → Said held reply goods → IsPlainAnswer reply) →
    Q C None (Looks Said)) →
    (¬ NeedsRunning event → (C : Type 0) (refused : Reply A) → IsRefusal refused → Q C None (Restarts refused)) →
    ((printer : ℕ) (Does : Actor LedgerView → Ending A LedgerView → Type 0) → actor_of event ≡ PrinterAt printer →
    Q LedgerView (stop_of event) Does → PrinterGoes old printer Does reply new → P) →
    ((number : ℕ) (Does : ℕ → Actor Documents → Ending A Documents → Type 0) → actor_of event ≡ DeskAt number →
    ((capacity : ℕ) → Q Documents (stop_of event) (Does capacity)) → DeskGoes old number Does reply new → P) →
    Acts old event reply new → P
by_kind old new (Print printer document size scheme stop) reply Q P calls lacks looks restarts of_printer of_desk acts =
    of_printer printer _ refl
    (lacks _ _ _ (calls _ _ stop _ fine_print (print_plain (length old.labels) document size scheme))) acts
by_kind old new (Give printer receiver range stop) reply Q P calls lacks looks restarts of_printer of_desk acts =
    of_printer printer _ refl
    (lacks _ _ _ (calls _ _ stop _ fine_give (give_plain (length old.tickets) receiver range))) acts
by_kind old new (Take printer number stop) reply Q P calls lacks looks restarts of_printer of_desk acts =
    of_printer printer _ refl (calls _ _ stop _ fine_take (take_plain number acts.0)) acts.2
by_kind old new (RestartPrinter printer) reply Q P calls lacks looks restarts of_printer of_desk acts =
    of_printer printer _ refl (restarts (λ none. none) _ (replies.PrinterRefused open_fault.Memory) is_refusal_there) acts
by_kind old new (Scan desk number flips stop) reply Q P calls lacks looks restarts of_printer of_desk acts =
    of_desk desk _ refl
    (λ capacity. lacks _ _ _ (calls _ _ stop _ fine_scan (scan_plain capacity (flipped acts.0.grid flips)))) acts.2
by_kind old new (Forget desk id stop) reply Q P calls lacks looks restarts of_printer of_desk acts =
    of_desk desk _ refl (λ capacity. calls _ _ stop _ fine_forget (forget_plain id)) acts
by_kind old new (Import desk number stop) reply Q P calls lacks looks restarts of_printer of_desk acts =
    of_desk desk _ refl (λ capacity. calls _ _ stop _ fine_import (import_plain capacity acts.0)) acts.2
by_kind {A} old new (Ask desk id) reply Q P calls lacks looks restarts of_printer of_desk acts =
    of_desk desk _ refl (λ capacity. looks _ (AskTells {A = A} id) (ask_plain id)) acts
by_kind {A} old new (Export desk id) reply Q P calls lacks looks restarts of_printer of_desk acts =
    of_desk desk _ refl
    (λ capacity. lacks _ _ _ (looks _ (ExportTells {A = A} (length old.exports) id) (export_plain (length old.exports) id)))
    acts
by_kind old new (RestartDesk desk) reply Q P calls lacks looks restarts of_printer of_desk acts =
    of_desk desk _ refl (λ capacity. restarts (λ none. none) _ (replies.DeskRefused desk_fault.Memory) is_refusal_here) acts
