-- Why events are refused.
use Rattle.std.proofs.Common.{arith, None, ◌≡◌, ◌≢◌, inl, inr, ℕ, true, false, Some, Err, Result, List, slice_get, sym, ap, subst, Option, is_some}
use Rattle.dm_finder_frame.specs.Frame.{GridView, flipped}
use Rattle.dm_size.specs.declared.size.Size.{Size}
use Rattle.dm_encodation.specs.declared.scheme.Scheme.{Scheme}
use Rattle.dm_append_label.specs.{Labels.PageView, Labels.HasNoEnds, Opening.LabelOpens, Opening.OpensNear}
use Rattle.dm_append_label.specs.declared.fault.LabelFault.{LabelFault}
use Rattle.dm_store.specs.declared.fuse.Kept.{Kept}
use Rattle.dm_print_ledger.specs.{Verdicts.print_verdict, Ledger.LedgerView, declared.fault.PrintFault.PrintFault}
use Rattle.dm_print_ledger.specs.declared.fault.PrintFault.TheVariants as print_fault
use Rattle.dm_event_history.proofs.{LedgerFacts.print_refuses, Reaching.reaches, Answered.IsOwn, Deciding.never}
use Rattle.dm_assembly_desk.specs.Documents.{Documents}
use Rattle.dm_event_history.specs.declared.event.Event.{Event, TheVariants.Print, TheVariants.Scan}
use Rattle.dm_event_history.specs.declared.{reply.Reply.Reply, reply.Reply.TheVariants.PrintRefused, stop.Stop.Stop}
use Rattle.dm_event_history.specs.{declared.stop.Stop.TheVariants.SaveFault, Headline.IsFairEvent}
use Rattle.dm_event_history.specs.Relay.{Actor, Running, Goods, Label, Relay}
use Rattle.dm_event_history.specs.Steps.{Answers, Calls, Course, Ending, Faults, Looks, MayLackFirst, Reaches, Restarts, ends, HasParts, print_faults, MayBe, ScanComes, scan_course, scan_faults, Acts, DeskGoes, PrinterGoes, Step, stop_of}
use Rattle.dm_event_history.specs.Told.{EachStepIsRefusedSo, IsFramedSo, failed_after}
use Rattle.dm_event_history.proofs.ByKind.{ArePlain, IsPlainAnswer, IsPlainCourse, by_kind}

-- ---- saves that fail

save_ends : {A C : Type 0} (faults : Faults A) (stop : Stop) (course : Course A C) (held : C) → ArePlain faults →
    Reaches stop (IsPlainCourse course) → failed_after (ends faults stop course (Running held)).reply false ≡ true →
    (kept : Kept) × (stop ≡ SaveFault kept)
save_ends faults stop course held fine plain save = grind arith

save_failed : {A C : Type 0} (faults : Faults A) (stop : Stop) (old : Actor C) → ArePlain faults →
    failed_after (ends faults stop (Answers faults.failed) old).reply false ≡ true → ⊥
save_failed faults stop old fine save = grind arith

-- `Save` is answered only where the save was to fail
abbrev FailsOnly : {A C : Type 0} → Type 0 → (Actor C → Ending A C → Type 0) → Type 0
FailsOnly {A} {C} Why Acts = (actor : Actor C) (end : Ending A C) → Acts actor end →
    failed_after end.reply false ≡ true → Why

calls_fail : {A C : Type 0} (faults : Faults A) (stop : Stop) (Comes : C → Course A C → Type 0) → ArePlain faults →
    ((held : C) (course : Course A C) → Comes held course → IsPlainCourse course) →
    FailsOnly ((kept : Kept) × (Some stop ≡ Some (SaveFault kept))) (Calls faults stop Comes)
calls_fail {A} {C} faults stop Comes fine each held end acts save =
    grind (arith, never, reaches, save_ends, save_failed)

may_lack_fails : {A C : Type 0} (Why : Type 0) (Acts : Actor C → Ending A C → Type 0) → FailsOnly Why Acts →
    FailsOnly Why (MayLackFirst Acts)
may_lack_fails {A} {C} Why Acts each acts end lack save = grind arith

looks_fail : {A C : Type 0} (Why : Type 0) (Said : C → Reply A → Goods → Type 0) →
    ((held : C) (reply : Reply A) (goods : Goods) → Said held reply goods → IsPlainAnswer reply) → FailsOnly Why (Looks Said)
looks_fail Why Said each held end acts save = grind arith

restarts_fail : {A C : Type 0} (Why : Type 0) (refused : Reply A) → failed_after refused false ≡ false →
    FailsOnly Why (Restarts {A = A} {C = C} refused)
restarts_fail {A} {C} Why refused none actor end is save = grind arith

printer_fails : {A : Type 0} (Why : Type 0) (old new : Relay) (printer : ℕ)
    (Acts : Actor LedgerView → Ending A LedgerView → Type 0) (reply : Reply A) → FailsOnly Why Acts →
    PrinterGoes old printer Acts reply new → failed_after reply false ≡ true → Why
printer_fails {A} Why old new printer Acts reply each g save = grind arith

desk_fails : {A : Type 0} (Why : Type 0) (old new : Relay) (number : ℕ)
    (Acts : ℕ → Actor Documents → Ending A Documents → Type 0) (reply : Reply A) →
    ((capacity : ℕ) → FailsOnly Why (Acts capacity)) → DeskGoes old number Acts reply new → failed_after reply false ≡ true → Why
desk_fails {A} Why old new number Acts reply each g save = grind arith

acts_fail : {A : Type 0} (old new : Relay) (event : Event A) (reply : Reply A) → Acts old event reply new →
    failed_after reply false ≡ true → (kept : Kept) × (stop_of event ≡ Some (SaveFault kept))
acts_fail old new event reply acts save =
    by_kind old new event reply (λ C stop Does. FailsOnly ((kept : Kept) × (stop ≡ Some (SaveFault kept))) Does) _
    (λ C. calls_fail) (λ C stop. may_lack_fails _) (λ C. looks_fail _) (λ some C refused is. restarts_fail _ refused is.unfailed)
    (λ printer Does named each g. printer_fails _ old new printer Does reply each g save)
    (λ number Does named each g. desk_fails _ old new number Does reply each g save) acts

-- ---- finder patterns

-- a fair scan of a desk that runs
framed : {A : Type 0} (grid : GridView) (page : PageView) (capacity : ℕ) (held : Documents) (stop : Stop)
    (course : Course A Documents) (read : Result PageView LabelFault) → LabelOpens grid read → OpensNear page read →
    MayBe (scan_course capacity held read) course →
    IsFramedSo grid (ends scan_faults stop course (Running held)).reply
framed grid page capacity held stop course read opens near may = grind arith

scan_framed : {A : Type 0} (grid : GridView) (page : PageView) (capacity : ℕ) (stop : Stop) (actor : Actor Documents)
    (end : Ending A Documents) → ((read : Result PageView LabelFault) → LabelOpens grid read → OpensNear page read) →
    MayLackFirst (Calls scan_faults stop (ScanComes capacity grid)) actor end → IsFramedSo grid end.reply
scan_framed {A} grid page capacity stop actor end near acts = grind (arith, framed)

-- ---- each step

pub own_print : {A : Type 0} (fault : PrintFault) → fault ≢ print_fault.Failed → fault ≢ print_fault.Save →
    fault ≢ print_fault.Memory → IsOwn {A = A} print_faults (PrintRefused fault)
own_print {A} fault failed save memory = grind arith

-- why a print was refused
pub record IsPrintRefused (old : Relay) (printer : ℕ) (document : List ℕ) (size : Size) (scheme : Scheme)
    (fault : PrintFault) : Type 0 where
  pub held : LedgerView
  pub runs : slice_get old.printers printer ≡ Some (Running held)
  pub parts : Option (List (List ℕ))
  pub cut : HasParts size scheme document parts
  pub verdict : print_verdict held (is_some parts) ≡ Err fault

pub print_refused : {A : Type 0} (old new : Relay) (printer : ℕ) (document : List ℕ) (size : Size) (scheme : Scheme)
    (stop : Stop) (fault : PrintFault) → IsOwn {A = A} print_faults (PrintRefused fault) →
    Step {A = A} old (Print printer document size scheme stop) (PrintRefused fault) new →
    IsPrintRefused old printer document size scheme fault
print_refused {A} old new printer document size scheme stop fault own acts = grind arith

-- a document that is refused as too long has no parts
no_parts : (size : Size) (scheme : Scheme) (document : List ℕ) (held : LedgerView) (parts : Option (List (List ℕ))) →
    HasParts size scheme document parts → print_verdict held (is_some parts) ≡ Err print_fault.TooLong →
    HasNoEnds size scheme document
no_parts size scheme document held None cut is = cut
no_parts size scheme document held (Some parts) cut is = grind (arith, print_refuses)

pub each_step_is_refused_so : (A : Type 0) → EachStepIsRefusedSo A
each_step_is_refused_so A old new event reply printed step = record {
  framed = λ desk number flips stop label is there fair. by_scan desk number flips stop label there
      (subst (λ (e : Event A). IsFairEvent old e) is fair) (subst (λ (e : Event A). Step old e reply new) is step);
  save = λ save. by_save step save;
  too_long = λ printer document size scheme stop is told.
      let r = print_refused old new printer document size scheme stop print_fault.TooLong
      (own_print print_fault.TooLong (λ e. cc (e)) (λ e. cc (e)) (λ e. cc (e)))
      (subst (λ (e : Event A). Step old e (PrintRefused print_fault.TooLong) new) is
      (subst (λ (r : Reply A). Step old event r new) told step)) in
      no_parts size scheme document r.held r.parts r.cut r.verdict;
}
  where
    by_save : Step old event reply new → failed_after reply false ≡ true →
        (kept : Kept) × (stop_of event ≡ Some (SaveFault kept))
    by_save (inl acts) save = acts_fail old new event reply acts.1 save
    by_save (inr none) save = never _ (ap (λ (r : Reply A). failed_after r false) none.1) save

    by_scan : (desk number : ℕ) (flips : List (ℕ × ℕ)) (stop : Stop) (label : Label) →
        slice_get old.labels number ≡ Some label → IsFairEvent {A = A} old (Scan desk number flips stop) →
        Step old (Scan desk number flips stop) reply new → IsFramedSo (flipped label.grid flips) reply
    by_scan desk number flips stop label there fair (inr none) = grind arith
    by_scan desk number flips stop label there fair (inl acts) =
        let own : Label = acts.1.0 in
        let same : own ≡ label = (let a : slice_get old.labels number ≡ Some own = acts.1.1 in cc (a, there)) in
        let p = printed number own acts.1.1 in
        let g = acts.1.2 in
        subst (λ (l : Label). IsFramedSo (flipped l.grid flips) reply) same
        (subst (λ (r : Reply A). IsFramedSo (flipped own.grid flips) r) (sym g.reply_is)
        (scan_framed (flipped own.grid flips) own.page g.desk.capacity stop g.desk.actor g.end
        (λ read opens. opens.near own.grid own.page p.carries (fair acts.0 own acts.1.1)) g.acts))
