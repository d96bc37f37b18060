-- As long as each scan that may have saved is fair, all desks and all exports are clean.
use Rattle.std.proofs.Common.{arith, ◌≡◌, inl, inr, ℕ, Some, true, Result, List, [], ◌++◌, length, slice_get, sym, ap, subst, ◌∙◌}
use Rattle.dm_finder_frame.specs.Frame.{flipped}
use Rattle.dm_size.specs.declared.size.Size.{Size}
use Rattle.dm_encodation.specs.declared.scheme.Scheme.{Scheme}
use Rattle.dm_print_ledger.specs.{declared.range.Range.Range, Ledger.LedgerView, Ledger.TicketView}
use Rattle.dm_assembly_desk.specs.Documents.{Documents}
use Rattle.dm_event_history.specs.declared.{event.Event.Event, reply.Reply.Reply, stop.Stop.Stop}
use Rattle.dm_event_history.specs.declared.event.Event.TheVariants.{Print, Scan, RestartPrinter, RestartDesk, Ask, Forget, Give, Take, Export, Import}
use Rattle.dm_event_history.proofs.{Gotten.in_either, Gotten.set_at, Deciding.decided, Deciding.true_false}
use Rattle.dm_append_label.specs.Labels.{PageView}
use Rattle.dm_append_label.specs.declared.fault.LabelFault.{LabelFault}
use Rattle.dm_event_history.specs.Steps.{may_save, Acts, DeskGoes, IsNamedThere, PrinterGoes, Step, Calls, Course, Ending, Looks, MayLackFirst, ends, GiveComes, PrintComes, TakeComes, ExportTells, MayBe, ScanComes, scan_course, scan_faults}
use Rattle.dm_event_history.proofs.Having.{CourseHas, calls_have, may_lack_has}
use Rattle.dm_event_history.specs.Relay.{Actor, HasAll, Running, Desk, Goods, Label, Relay}
use Rattle.dm_event_history.specs.Relay as relays
use Rattle.dm_event_history.specs.Headline.{ArePrinted, HaveLeft, IsClean, IsCleanActor, IsCleanExport, IsHarmless, AreAllClean, IsFairEvent}
use Rattle.dm_event_history.proofs.LeavingGoods.{IsClosed, Leaves, OfCourse, calls_leave, may_lack_leaves, restarts_leave}
use Rattle.dm_event_history.proofs.DeskGoods.{ask_leaves, forget_leaves, import_leaves, scan_leaves}
use Rattle.dm_event_history.proofs.Stays.{actor_more, each_step_keeps_clean, more_left, more_pages}

-- each of the exports is clean
abbrev AreClean : List Label → List relays.Export → Type 0
AreClean labels exports = (number : ℕ) (export : relays.Export) → slice_get exports number ≡ Some export →
    IsCleanExport labels export

none_sent : (labels : List Label) → AreClean labels []
none_sent labels i export is = cc

both_clean : (labels : List Label) (xs ys : List relays.Export) → AreClean labels xs → AreClean labels ys →
    AreClean labels (xs ++ ys)
both_clean labels xs ys p q i export is = elim (in_either xs ys i export is) [
  | inl first ↦ p i export first
  | inr later ↦ q later.0 export later.2
]

more_clean : (labels more : List Label) (exports : List relays.Export) → AreClean labels exports →
    AreClean (labels ++ more) exports
more_clean labels more exports p i export is =
    let c = p i export is in
    grind (arith, more_left, more_pages)

abbrev Sends : List Label → Goods → Type 0
Sends labels goods = AreClean labels goods.exports

closed : (labels : List Label) → IsClosed (Sends labels)
closed labels = record { none = none_sent labels; cut = λ most goods p. none_sent labels }

print_sends : {A : Type 0} (labels : List Label) (before : ℕ) (document : List ℕ) (size : Size) (scheme : Scheme)
    (held : LedgerView) (course : Course A LedgerView) → PrintComes before document size scheme held course →
    OfCourse (Sends labels) course
print_sends labels before document size scheme held course comes = grind arith

give_sends : {A : Type 0} (labels : List Label) (before receiver : ℕ) (range : Range) (held : LedgerView)
    (course : Course A LedgerView) → GiveComes before receiver range held course → OfCourse (Sends labels) course
give_sends labels before receiver range held course comes = grind arith

take_sends : {A : Type 0} (labels : List Label) (number : ℕ) (ticket : TicketView) (held : LedgerView)
    (course : Course A LedgerView) → TakeComes number ticket held course → OfCourse (Sends labels) course
take_sends labels number ticket held course comes = grind arith

export_sends : {A : Type 0} (labels : List Label) (before id : ℕ) (actor : Actor Documents) (end : Ending A Documents) →
    IsCleanActor labels actor → MayLackFirst (Looks (ExportTells {A = A} before id)) actor end → Sends labels end.goods
export_sends labels before id actor end clean acts = grind arith

-- ---- steps

printer_sends : {A : Type 0} (old new : Relay) (printer : ℕ) (Acts : Actor LedgerView → Ending A LedgerView → Type 0)
    (reply : Reply A) → AreClean old.labels old.exports → Leaves (Sends old.labels) Acts →
    PrinterGoes old printer Acts reply new → AreClean new.labels new.exports
printer_sends old new printer Acts reply p each g =
    subst (λ (r : Relay). AreClean r.labels r.exports) (sym g.new_is)
    (more_clean old.labels g.end.goods.labels (old.exports ++ g.end.goods.exports)
    (both_clean old.labels old.exports g.end.goods.exports p (each g.actor g.end g.acts)))

desk_sends : {A : Type 0} (old new : Relay) (number : ℕ) (Acts : ℕ → Actor Documents → Ending A Documents → Type 0)
    (reply : Reply A) → AreAllClean old →
    ((capacity : ℕ) (actor : Actor Documents) (end : Ending A Documents) → IsCleanActor old.labels actor →
    Acts capacity actor end → Sends old.labels end.goods) → DeskGoes old number Acts reply new →
    AreClean new.labels new.exports
desk_sends old new number Acts reply all each g =
    subst (λ (r : Relay). AreClean r.labels r.exports) (sym g.new_is)
    (more_clean old.labels g.end.goods.labels (old.exports ++ g.end.goods.exports)
    (both_clean old.labels old.exports g.end.goods.exports all.exports
    (each g.desk.capacity g.desk.actor g.end (all.desks number g.desk g.was) g.acts)))

acts_send : {A : Type 0} (old new : Relay) (event : Event A) (reply : Reply A) → AreAllClean old →
    Acts old event reply new → AreClean new.labels new.exports
acts_send old new (Print printer document size scheme stop) reply all acts =
    printer_sends old new printer _ reply all.exports
    (may_lack_leaves (Sends old.labels) (closed old.labels) _ (calls_leave (Sends old.labels) (closed old.labels) _ stop _
    (print_sends old.labels (length old.labels) document size scheme))) acts
acts_send old new (Give printer receiver range stop) reply all acts =
    printer_sends old new printer _ reply all.exports
    (may_lack_leaves (Sends old.labels) (closed old.labels) _ (calls_leave (Sends old.labels) (closed old.labels) _ stop _
    (give_sends old.labels (length old.tickets) receiver range))) acts
acts_send old new (Take printer number stop) reply all acts =
    printer_sends old new printer _ reply all.exports
    (calls_leave (Sends old.labels) (closed old.labels) _ stop _ (take_sends old.labels number acts.0)) acts.2
acts_send old new (RestartPrinter printer) reply all acts =
    printer_sends old new printer _ reply all.exports (restarts_leave (Sends old.labels) (closed old.labels) _) acts
acts_send old new (Scan desk number flips stop) reply all acts =
    desk_sends old new desk _ reply all
    (λ capacity actor end clean. scan_leaves (Sends old.labels) (closed old.labels) _ stop capacity (flipped acts.0.grid flips)
    actor end) acts.2
acts_send old new (Forget desk id stop) reply all acts =
    desk_sends old new desk _ reply all
    (λ capacity actor end clean. forget_leaves (Sends old.labels) (closed old.labels) _ stop id actor end) acts
acts_send old new (Import desk number stop) reply all acts =
    desk_sends old new desk _ reply all
    (λ capacity actor end clean. import_leaves (Sends old.labels) (closed old.labels) _ stop capacity acts.0 actor end) acts.2
acts_send old new (Ask desk id) reply all acts =
    desk_sends old new desk _ reply all
    (λ capacity actor end clean. ask_leaves (Sends old.labels) (closed old.labels) id actor end) acts
acts_send old new (Export desk id) reply all acts =
    desk_sends old new desk _ reply all
    (λ capacity actor end clean. export_sends old.labels (length old.exports) id actor end clean) acts
acts_send old new (RestartDesk desk) reply all acts =
    desk_sends old new desk _ reply all
    (λ capacity actor end clean. restarts_leave (Sends old.labels) (closed old.labels) _ actor end) acts

-- a fair event of what is there does no harm where all is clean
harmless : {A : Type 0} (old : Relay) (event : Event A) (desk : ℕ) → AreAllClean old → IsFairEvent old event →
    IsNamedThere old event → IsHarmless old event desk
harmless old (Scan desk number flips stop) own all fair named = λ same. fair named
harmless old (Import desk number stop) own all fair named = λ same export there. all.exports number export there
harmless old event own all fair named = tt

pub all_stay_clean : {A : Type 0} (old new : Relay) (event : Event A) (reply : Reply A) → ArePrinted old.labels →
    AreAllClean old → IsFairEvent old event → Step old event reply new → AreAllClean new
all_stay_clean {A} old new event reply printed all fair (inl acts) = record {
  desks = λ desk. each_step_keeps_clean A old new event reply desk printed (all.desks desk)
      (harmless old event desk all fair acts.0) (inl acts);
  exports = acts_send old new event reply all acts.1;
}
all_stay_clean old new event reply printed all fair (inr none) = grind arith

-- ---- scans that did not save

-- what a scan that was answered so comes to is not kept
pub unsaved_course : {A : Type 0} (Q : Documents → Type 0) (desk number : ℕ) (flips : List (ℕ × ℕ)) (stop : Stop)
    (reply : Reply A) (held : Documents) (k : Result PageView LabelFault) (capacity : ℕ) (course : Course A Documents) →
    ¬ (may_save (Scan desk number flips stop) reply ≡ true) → MayBe (scan_course capacity held k) course →
    reply ≡ (ends scan_faults stop course (Running held)).reply → CourseHas Q stop course
unsaved_course {A} Q desk number flips stop reply held k capacity course unsaved lack is = grind arith

unsaved_clean : {A : Type 0} (old new : Relay) (desk number : ℕ) (flips : List (ℕ × ℕ)) (stop : Stop) (reply : Reply A) →
    AreAllClean old → ¬ (may_save (Scan desk number flips stop) reply ≡ true) →
    Acts old (Scan desk number flips stop) reply new → AreAllClean new
unsaved_clean {A} old new desk number flips stop reply all unsaved acts = record {
  desks = λ own. subst (λ (r : Relay). IsClean r own) (sym g.new_is) (λ d is. elim (set_at old.desks desk own _ d is) [
    | inl here ↦ subst (λ (x : Desk). IsCleanActor (old.labels ++ g.end.goods.labels) x.actor) here.1
        (actor_more old.labels g.end.goods.labels g.end.actor kept)
    | inr there ↦ actor_more old.labels g.end.goods.labels d.actor (all.desks own d there.1)
  ]);
  exports = acts_send old new (Scan desk number flips stop) reply all acts;
}
  where
    g : DeskGoes old desk
        (λ capacity. MayLackFirst (Calls scan_faults stop (ScanComes capacity (flipped acts.0.grid flips)))) reply new
    g = acts.2

    kept : HasAll (HaveLeft old.labels) g.end.actor
    kept =
        let before = all.desks desk g.desk g.was in
        may_lack_has (HaveLeft old.labels) (Calls scan_faults stop (ScanComes g.desk.capacity (flipped acts.0.grid flips)))
        g.desk.actor g.end before
        (λ called. calls_have (HaveLeft old.labels) (HaveLeft old.labels) scan_faults stop
        (ScanComes g.desk.capacity (flipped acts.0.grid flips)) g.desk.actor g.end before (λ held h. h)
        (λ held course h comes is. unsaved_course (HaveLeft old.labels) desk number flips stop reply held comes.0
        g.desk.capacity course unsaved comes.2 (g.reply_is ∙ ap (λ (e : Ending A Documents). e.reply) is)) called) g.acts

-- all stays clean where a scan that may have saved is fair
pub all_stay_so : {A : Type 0} (old new : Relay) (event : Event A) (reply : Reply A) → ArePrinted old.labels →
    AreAllClean old → (may_save event reply ≡ true → IsFairEvent old event) → Step old event reply new →
    AreAllClean new
all_stay_so old new event reply printed all fair (inr none) = grind arith
all_stay_so {A} old new (Scan desk number flips stop) reply printed all fair (inl acts) =
    elim (decided (may_save (Scan desk number flips stop) reply)) [
      | inl may ↦ all_stay_clean old new (Scan desk number flips stop) reply printed all (fair may) (inl acts)
      | inr none ↦ unsaved_clean old new desk number flips stop reply all (λ may. true_false _ may none) acts.1
    ]
all_stay_so old new event reply printed all fair (inl acts) =
    all_stay_clean old new event reply printed all tt (inl acts)
