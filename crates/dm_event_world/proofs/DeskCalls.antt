-- A call of a desk, as a world makes it, is one of the relay that it shows.
use Rattle.std.proofs.Common.{◌≡◌, ◌≤◌, inl, inr, ℕ, true, false, List, [], Option, Some, None, IsSome, Result, Ok, Err, take, refl, sym, ap, subst, ◌∙◌, arith}
use Rattle.std.specs.Prelude.{is_none, if◌then◌else◌, ◌<◌, ◌+◌, cond, is_some}
use Rattle.std.specs.{Cmp.nat_cmp_total, FinMap.len-insert}
use Rattle.std.specs.FinMap as finite
use Rattle.dm_finder_frame.specs.Frame.{GridView}
use Rattle.dm_append_label.specs.Labels.{PageView}
use Rattle.dm_append_label.specs.Opening.{LabelOpens}
use Rattle.dm_append_label.specs.declared.fault.LabelFault.{LabelFault}
use Rattle.dm_assembly_desk.specs.declared.reply.{Accepted.Accepted, Kind.TheVariants.Again}
use Rattle.dm_assembly_desk.specs.declared.reply.Imported as imported_type
use Rattle.dm_assembly_desk.specs.declared.{adding.AddFault.AddFault, fault.ScanFault.ScanFault}
use Rattle.dm_assembly_desk.specs.declared.adding.AddFault.TheVariants as adds
use Rattle.dm_assembly_desk.specs.declared.fault.ScanFault.TheVariants as scan_fault
use Rattle.dm_assembly_desk.specs.declared.fault.{ImportFault.ImportFault, ForgetFault.ForgetFault}
use Rattle.dm_assembly_desk.specs.declared.fault.ImportFault.TheVariants as import_fault
use Rattle.dm_assembly_desk.specs.Desk.{add_verdict, pages_with, reply_of, with_pages, AcceptsGrid, Scans, lone, ImportsBytes, Becomes, SavesDocument, Stays, Verdict, answer_by, Forgets, forget_verdict}
use Rattle.dm_assembly_desk.proofs.AddLaws as laws
use Rattle.dm_assembly_desk.proofs.{Undoing.get_here, Saving.few_remove}
use Rattle.dm_event_history.proofs.Adds as verdicts
use Rattle.dm_store.specs.Saved.{Done, Faulted, Outcome, Refused, SavedSet}
use Rattle.dm_store.specs.declared.{fuse.Kept.TheVariants.Old, fuse.Kept.TheVariants.New, mem_store.NextSave.NextSave}
use Rattle.dm_store.specs.declared.mem_store.NextSave.TheVariants as next_save
use Rattle.dm_assembly_desk.specs.Documents.{Pages, IsEntry, file, Documents, DeskView}
use Rattle.dm_assembly_desk.specs.Desk as holding
use Rattle.dm_assembly_desk.specs.declared.fault.ForgetFault.TheVariants as forget_fault
use Rattle.dm_event_history.specs.declared.{reply.Reply.Reply, stop.Stop.Stop}
use Rattle.dm_event_history.specs.declared.reply.Reply.TheVariants as replies
use Rattle.dm_event_history.specs.declared.reply.Reply.TheVariants.{ForgetRefused, ImportRefused, ScanRefused}
use Rattle.dm_event_history.specs.declared.stop.Stop.TheVariants as stops
use Rattle.dm_event_history.specs.declared.stop.Stop.TheVariants.{BeforeSave, InSave, SaveFault, AfterLabels}
use Rattle.dm_event_history.specs.Relay.{Actor, Running, Failed, Down, stored_of, Export, Goods, no_goods}
use Rattle.dm_event_history.specs.Steps.{Answers, Calls, Course, Ending, Faults, LacksMemory, MayLackFirst, Saves, ending, ends, ForgetComes, ImportComes, MayBe, ScanComes, forget_faults, forget_reply, import_faults, import_reply, page_reply, pages_reply, scan_course, scan_faults, scan_reply, verdict_course}
use Rattle.dm_event_world.specs.declared.actor.{DeskState.DeskState, LeftExport.LeftExport}
use Rattle.dm_event_world.specs.declared.actor.DeskState.TheVariants as states
use Rattle.dm_event_world.specs.Shows.{DeskIs, IsReady, ShowsDesk}
use Rattle.dm_event_world.specs.inner.Calls.{IsMadeUnder, next_save_of, stops_before, EndsEach, EndsSo, Left, state_after, ended_reply, lacks_memory}
use Rattle.dm_event_world.specs.inner.Desks.{Calling, desk_planned, down_desk}
use Rattle.dm_event_world.proofs.Endings.{lets_as, made_so, Ends, IsEmpty, TellsMemory, answers_end, lacks_end, empty, finish, lacks_first, none_left, not_first, plain, reaches, stopped_before, unsaved_empty, with_goods}

pub down_shows : {A : Type 0} (capacity : ℕ) (state : DeskState A) (shown : Actor Documents) → ShowsDesk capacity state shown →
    ShowsDesk capacity (down_desk state) (Down (stored_of shown))
down_shows capacity state shown s = grind arith

-- what is shown of a desk whose call saved nothing
same_again : (A : Type 0) (capacity : ℕ) (view mid : DeskView) (plan : NextSave) (shown : Actor Documents) →
    ShowsDesk {A = A} capacity (states.Running view) shown → IsReady view.saved.is_honest view.saved.load_plan view.saved.save_plan → mid ≡ desk_planned view plan →
    ShowsDesk {A = A} capacity (states.Running (desk_planned mid next_save.Fine)) shown
same_again A capacity view mid plan shown s ready same = grind arith

-- ---- a verdict that is carried out

-- these documents fit; a document that is not among them was held; and the reply tells of no lack of memory
pub record IsFit {A R : Type 0} (tells : R → Reply A) (capacity : ℕ) (held : Documents) (id : ℕ) (next : Documents)
    (told : R) : Type 0 where
  pub few : finite.len next ≤ capacity
  pub there : finite.get next id ≡ None → IsSome (finite.get held id)
  pub fine : lacks_memory (tells told) ≡ false

abbrev pub Fits : {A R : Type 0} → (R → Reply A) → ℕ → Documents → ℕ → Verdict R → Type 0
Fits tells capacity held id (Stays told) = lacks_memory (tells told) ≡ false
Fits tells capacity held id (Becomes next told) = IsFit tells capacity held id next told

-- a running desk that has not failed, after a call
pub record Carried {A : Type 0} (faults : Faults A) (capacity : ℕ) (stop : Stop) (held : Documents)
    (Comes : Course A Documents → Type 0) (reply : Reply A) (state : DeskState A) : Type 0 where
  pub course : Course A Documents
  pub comes : Comes course
  pub tells : TellsMemory faults course
  pub ends_so : Ends (ShowsDesk capacity) faults (plain stop) course (Running held) reply state
  pub leaves : IsEmpty (ends faults stop course (Running held)).goods

-- of what is saved nothing leaves either
none_taken : {X : Type 0} (most : ℕ) → (let none : List X = [] in take most none ≡ none)
none_taken most = grind arith

saved_empty : {A : Type 0} (faults : Faults A) (stop : Stop) (next : Documents) (reply : Reply A) (old : Actor Documents) →
    IsEmpty (ends faults stop (Saves next no_goods reply) old).goods
saved_empty faults BeforeSave next reply old = empty
saved_empty faults (InSave Old) next reply old = empty
saved_empty faults (InSave New) next reply old = record { labels = none_taken 0; tickets = refl; exports = refl }
saved_empty faults stops.None next reply old = empty
saved_empty faults (SaveFault Old) next reply old = empty
saved_empty faults (SaveFault New) next reply old = record { labels = none_taken 0; tickets = refl; exports = refl }
saved_empty faults (AfterLabels most) next reply old = record { labels = none_taken most; tickets = refl; exports = refl }

module _ {A R : Type 0} (tells : R → Reply A) (failed : Reply A) (memory save : R) (id capacity : ℕ) where
  abbrev faults : Faults A
  faults = record { failed = failed; save = tells save; memory = tells memory }

  stored : (view mid : DeskView) (plan : NextSave) (next : Documents) (told : R) →
      DeskIs view capacity view.held view.held false → IsFit tells capacity view.held id next told →
      holding.SaveEnds id next Done (desk_planned view plan) mid →
      DeskIs (desk_planned mid next_save.Fine) capacity next next false
  stored view mid plan next told s fit e = grind arith

  done_ends : (stop : Stop) (view mid : DeskView) (next : Documents) (told : R) →
      DeskIs view capacity view.held view.held false → IsFit tells capacity view.held id next told →
      holding.SaveEnds id next Done (desk_planned view (next_save_of stop)) mid →
      Ends (ShowsDesk {A = A} capacity) faults (plain stop) (Saves next no_goods (tells told)) (Running view.held)
      (tells told)
      (states.Running (desk_planned mid next_save.Fine))
  done_ends stop view mid next told s fit e = grind arith

  faulted_ends : (stop : Stop) (view mid : DeskView) (next : Documents) (told : R) →
      DeskIs view capacity view.held view.held false → IsFit tells capacity view.held id next told →
      holding.SaveEnds id next Faulted (desk_planned view (next_save_of stop)) mid →
      Ends (ShowsDesk {A = A} capacity) faults (plain stop) (Saves next no_goods (tells told)) (Running view.held)
      (tells save)
      (states.Running (desk_planned mid next_save.Fine))
  faulted_ends stop view mid next told s fit e = grind arith

  module _ (memory_told : lacks_memory (tells memory) ≡ true) (stop : Stop) (view mid : DeskView) (answer : R)
      (s : DeskIs view capacity view.held view.held false) where
    abbrev State : DeskState A
    State = states.Running (desk_planned mid next_save.Fine)

    abbrev CarriedBy : Verdict R → R → Type 0
    CarriedBy verdict given =
        Carried faults capacity stop view.held (MayBe (verdict_course tells verdict)) (tells given) State

    again : mid ≡ desk_planned view (next_save_of stop) → ShowsDesk capacity State (Running view.held)
    again same = same_again A capacity view mid (next_save_of stop) (Running view.held) s s.store.ready same

    pub carried : (verdict : Verdict R) → Fits tells capacity view.held id verdict →
        holding.DeskCarriesOut memory save id verdict (desk_planned view (next_save_of stop)) answer mid →
        CarriedBy verdict answer
    carried (Stays told) fine does = subst (CarriedBy (Stays told)) (sym does.0) (record {
      course = Answers (tells told);
      comes = inl refl;
      tells = fine;
      ends_so = answers_end (ShowsDesk {A = A} capacity) faults stop (Running view.held) (tells told) State (again does.1);
      leaves = unsaved_empty faults stop (Answers (tells told)) (Running view.held) tt;
    })
    carried (Becomes next told) fit does = by_outcome does.0 does.1 does.2
      where
        by_outcome : (outcome : Outcome) → answer ≡ answer_by told memory save outcome →
            holding.SaveEnds id next outcome (desk_planned view (next_save_of stop)) mid →
            CarriedBy (Becomes next told) answer
        by_outcome Done is e = subst (CarriedBy (Becomes next told)) (sym is) (record {
          course = Saves next no_goods (tells told);
          comes = inl refl;
          tells = fit.fine;
          ends_so = done_ends stop view mid next told s fit e;
          leaves = saved_empty faults stop next (tells told) (Running view.held);
        })
        by_outcome Faulted is e = subst (CarriedBy (Becomes next told)) (sym is) (record {
          course = Saves next no_goods (tells told);
          comes = inl refl;
          tells = fit.fine;
          ends_so = faulted_ends stop view mid next told s fit e;
          leaves = saved_empty faults stop next (tells told) (Running view.held);
        })
        by_outcome Refused is e = subst (CarriedBy (Becomes next told)) (sym is) (record {
          course = LacksMemory;
          comes = inr (refl, tt);
          tells = memory_told;
          ends_so = lacks_end (ShowsDesk {A = A} capacity) faults stop (Running view.held) State (again e.shows);
          leaves = unsaved_empty faults stop LacksMemory (Running view.held) tt;
        })

-- ---- a call that is made

module _ {A X : Type 0} (faults : Faults A) (reply : X → Reply A) (failed_answer : X)
    (Call : DeskView → X → DeskView → Type 0) (Comes : Documents → Course A Documents → Type 0) (capacity : ℕ) (stop : Stop)
    (failed_told : reply failed_answer ≡ faults.failed) (failed_fine : lacks_memory faults.failed ≡ false)
    (made : stops_before stop ≡ false) (view mid : DeskView) (answer : X)
    (call : Calling failed_answer Call (desk_planned view (next_save_of stop)) answer mid)
    (carry : DeskIs view capacity view.held view.held false → Call (desk_planned view (next_save_of stop)) answer mid →
    Carried faults capacity stop view.held (Comes view.held) (reply answer)
    (states.Running (desk_planned mid next_save.Fine))) where
  abbrev Now : DeskState A
  Now = states.Running (desk_planned mid next_save.Fine)

  abbrev EndsAs : Actor Documents → Reply A → Type 0
  EndsAs shown told = EndsSo (ShowsDesk capacity) (Calls faults stop Comes) IsEmpty shown (ended_reply stop told)
      (state_after down_desk stop told Now)

  running_ends : DeskIs view capacity view.held view.held false → EndsAs (Running view.held) (reply answer)
  running_ends s =
      let c = carry s (call.done s.failed) in
      let e = finish (ShowsDesk capacity) down_desk (down_shows capacity) faults stop c.course (Running view.held) (reply answer)
      Now made c.tells c.ends_so in
      record {
        end = ends faults stop c.course (Running view.held);
        acts = (c.course, reaches stop _ made c.comes, refl);
        reply_is = e.reply_is;
        shows = e.shows;
        lets = c.leaves;
      }

  failed_ends : (held stored : Documents) → DeskIs view capacity held stored true → EndsAs (Failed held stored) (reply answer)
  failed_ends held stored s =
      let f = call.failed s.failed in
      subst (EndsAs (Failed held stored)) (sym (ap reply f.0 ∙ failed_told)) (
      let e = finish (ShowsDesk capacity) down_desk (down_shows capacity) faults stop (Answers faults.failed)
      (Failed held stored) faults.failed Now made failed_fine
      (answers_end (ShowsDesk {A = A} capacity) faults stop (Failed held stored) faults.failed Now
      (same_again A capacity view mid (next_save_of stop) (Failed held stored) s s.store.ready f.1)) in
      record {
        end = ends faults stop (Answers faults.failed) (Failed held stored);
        acts = refl;
        reply_is = e.reply_is;
        shows = e.shows;
        lets = unsaved_empty faults stop (Answers faults.failed) (Failed held stored) tt;
      })

  pub call_ends : (shown : Actor Documents) → ShowsDesk {A = A} capacity (states.Running view) shown →
      EndsAs shown (reply answer)
  call_ends (Running held) s =
      subst (λ (d : Documents). EndsAs (Running d) (reply answer)) s.held_is
      (running_ends (subst (λ (d : Documents). DeskIs view capacity d d false) (sym s.held_is) s))
  call_ends (Failed held stored) s = failed_ends held stored s
  call_ends (Down stored) s = absurd s

-- ---- whatever it shows

abbrev pub NoneLeave : Type 0 → Goods → Type 0
NoneLeave A goods = Left {A = A} [] [] [] goods [] [] []

pub made_under : {X : Type 0} (failed_answer : X) (Call : DeskView → X → DeskView → Type 0) (stop : Stop)
    (next : NextSave) (view before mid after : DeskView) (answer : X) → next ≡ next_save_of stop →
    before ≡ desk_planned view next → Calling failed_answer Call before answer mid →
    after ≡ desk_planned mid next_save.Fine → IsMadeUnder desk_planned stop (Calling failed_answer Call) view answer after
made_under failed_answer Call stop next view before mid after answer next_is before_is call after_is = record {
  mid = mid;
  call = subst (λ (v : DeskView). Calling failed_answer Call v answer mid)
      (before_is ∙ ap (λ (n : NextSave). desk_planned view n) next_is) call;
  new_is = after_is;
}

-- a desk that is down
pub down_ends : {A : Type 0} (capacity : ℕ) (exports : List (LeftExport A))
    (Acts : Actor Documents → Ending A Documents → Type 0) →
    ((stored : Documents) → Acts (Down stored) (ending replies.Down (Down stored) no_goods)) → (state : DeskState A)
    (saved : SavedSet) → state ≡ states.Down saved →
    EndsEach (ShowsDesk capacity) Acts (λ goods. Left {A = A} [] [] exports goods [] [] exports) state replies.Down state
down_ends {A} capacity exports Acts acts state saved is shown s =
    by_shown shown (subst (λ (a : DeskState A). ShowsDesk capacity a shown) is s)
  where
    by_shown : (shown : Actor Documents) → ShowsDesk {A = A} capacity (states.Down saved) shown →
        EndsSo (ShowsDesk capacity) Acts (λ goods. Left {A = A} [] [] exports goods [] [] exports) shown replies.Down state
    by_shown (Running held) s = absurd s
    by_shown (Failed held stored) s = absurd s
    by_shown (Down stored) s = record {
      end = ending replies.Down (Down stored) no_goods;
      acts = acts stored;
      reply_is = refl;
      shows = subst (λ (a : DeskState A). ShowsDesk capacity a (Down stored)) (sym is) s;
      lets = none_left [] [] exports no_goods empty;
    }

-- one that runs is not down
pub is_up : {A : Type 0} (capacity : ℕ) (state : DeskState A) (view : DeskView) → state ≡ states.Running view →
    (stored : Documents) → ShowsDesk capacity state (Down stored) → ⊥
is_up {A} capacity state view is stored s = grind arith

-- a call that is stopped before its save
pub stopped_ends : {A : Type 0} (faults : Faults A) (Comes : Documents → Course A Documents → Type 0) (capacity : ℕ)
    (stop : Stop) (state new : DeskState A) (view : DeskView) → state ≡ states.Running view → new ≡ down_desk (states.Running view) →
    stops_before stop ≡ true →
    EndsEach (ShowsDesk capacity) (Calls faults stop Comes) (NoneLeave A) state replies.Stopped new
stopped_ends {A} faults Comes capacity stop state new view is new_is before shown s =
    subst (λ (a : DeskState A). EndsSo (ShowsDesk capacity) (Calls faults stop Comes) (NoneLeave A) shown replies.Stopped a)
    (sym (new_is ∙ sym (ap (λ (a : DeskState A). down_desk a) is)))
    (lets_as _ _ IsEmpty _ shown _ _ (none_left [] [] [])
    (stopped_before (ShowsDesk capacity) down_desk (down_shows capacity) faults Comes state (is_up capacity state view is) stop shown
    before s))

-- one that is made
pub made_ends : {A X : Type 0} (faults : Faults A) (reply : X → Reply A) (failed_answer : X)
    (Call : DeskView → X → DeskView → Type 0) (Comes : Documents → Course A Documents → Type 0) (capacity : ℕ) (stop : Stop) →
    reply failed_answer ≡ faults.failed → lacks_memory faults.failed ≡ false →
    stops_before stop ≡ false → (state new : DeskState A) (view after : DeskView) (answer : X) (told result : Reply A) →
    state ≡ states.Running view → IsMadeUnder desk_planned stop (Calling failed_answer Call) view answer after →
    told ≡ reply answer → result ≡ ended_reply stop told →
    new ≡ state_after down_desk stop told (states.Running after) →
    ((mid : DeskView) → DeskIs view capacity view.held view.held false →
    Call (desk_planned view (next_save_of stop)) answer mid →
    Carried faults capacity stop view.held (Comes view.held) (reply answer)
    (states.Running (desk_planned mid next_save.Fine))) →
    EndsEach (ShowsDesk capacity) (Calls faults stop Comes) (NoneLeave A) state result new
made_ends {A} {X} faults reply failed_answer Call Comes capacity stop failed_told failed_fine made state new view after answer
    told result is under told_is result_is new_is carry shown s =
    made_so (ShowsDesk capacity) down_desk _ _ stop (reply answer) told result shown _ new (sym told_is) result_is
    (new_is ∙ ap (λ (v : DeskView). state_after down_desk stop told (states.Running v)) under.new_is)
    (lets_as _ _ IsEmpty _ shown _ _ (none_left [] [] [])
    (call_ends faults reply failed_answer Call Comes capacity stop failed_told failed_fine made view under.mid answer under.call
    (carry under.mid) shown (subst (λ (a : DeskState A). ShowsDesk capacity a shown) is s)))

-- ---- forgets

forget_fits : (A : Type 0) (capacity : ℕ) (held : Documents) (id : ℕ) → finite.len held ≤ capacity →
    Fits (forget_reply {A = A}) capacity held id (forget_verdict held id)
forget_fits A capacity held id few = by_there (finite.get held id) refl
  where
    by_there : (o : Option Pages) → finite.get held id ≡ o → Fits (forget_reply {A = A}) capacity held id
        (if is_none o then Stays (Err forget_fault.NotHeld) else Becomes (finite.remove held id) (Ok tt))
    by_there None is = refl
    by_there (Some pages) is = record {
      few = few_remove held id capacity few;
      there = λ _. subst IsSome (sym is) refl;
      fine = refl;
    }

pub forget_carried : {A : Type 0} (id capacity : ℕ) (stop : Stop) (view : DeskView)
    (answer : Result (Unit {0}) ForgetFault) (mid : DeskView) → DeskIs view capacity view.held view.held false →
    Forgets id (desk_planned view (next_save_of stop)) answer mid →
    Carried forget_faults capacity stop view.held (ForgetComes {A = A} id view.held) (forget_reply answer)
    (states.Running (desk_planned mid next_save.Fine))
forget_carried {A} id capacity stop view answer mid s does =
    carried forget_reply (ForgetRefused forget_fault.Failed) (Err forget_fault.Memory) (Err forget_fault.Save) id
    capacity refl stop view mid answer s (forget_verdict view.held id) (forget_fits A capacity view.held id s.store.few) does

-- ---- pages that are added

few_insert : (o : Option Pages) (n capacity : ℕ) → n ≤ capacity → (o ≡ None → n < capacity) → cond (is_some o) n (n + 1) ≤ capacity
few_insert o n capacity le more = grind arith

no_none : (o : Option Pages) (pages : Pages) → o ≡ Some pages → o ≡ None → ⊥
no_none o pages is none = grind arith

add_fits : {A : Type 0} (tells : Result imported_type.Imported AddFault → Reply A) →
    lacks_memory (tells (Err adds.Conflict)) ≡ false → lacks_memory (tells (Err adds.Full)) ≡ false →
    ((done : imported_type.Imported) → lacks_memory (tells (Ok done)) ≡ false) → (capacity : ℕ) (held : Documents) (id : ℕ)
    (pages : Pages) → finite.len held ≤ capacity → Fits tells capacity held id (add_verdict capacity held id pages)
add_fits {A} tells conflict full well capacity held id pages few =
    verdicts.by_verdict (Fits tells capacity held id) capacity held id pages
    (λ fault is. verdicts.add_refuses (λ (f : AddFault). lacks_memory (tells (Err f)) ≡ false) capacity held id pages fault
    (λ own at why. conflict) (λ none filled. full) is)
    (λ is. well (reply_of held id pages Again))
    (λ kind other is. record {
      few = rw (len-insert nat_cmp_total held id (pages_with held id pages))
          (few_insert (finite.get held id) (finite.len held) capacity few (laws.room capacity held id pages kind is other));
      there = λ none. absurd (no_none (finite.get (with_pages held id pages) id) (pages_with held id pages)
          (get_here held id (pages_with held id pages)) none);
      fine = well (reply_of held id pages kind);
    })

-- an import of the file of these pages
pub import_carried : {A : Type 0} (export : Export) → IsEntry export.id export.pages → (bytes : List ℕ) →
    bytes ≡ file export.id export.pages → (capacity : ℕ) (stop : Stop) (view : DeskView)
    (answer : Result imported_type.Imported ImportFault) (mid : DeskView) → DeskIs view capacity view.held view.held false →
    ImportsBytes bytes (desk_planned view (next_save_of stop)) answer mid →
    Carried import_faults capacity stop view.held (ImportComes {A = A} capacity export view.held) (import_reply answer)
    (states.Running (desk_planned mid next_save.Fine))
import_carried {A} export entry bytes bytes_are capacity stop view answer mid s does =
    let i = does.spelled export.id export.pages (record { sound = entry; spelled = bytes_are }) in
    subst (λ (r : Result imported_type.Imported ImportFault). Carried import_faults capacity stop view.held
    (ImportComes {A = A} capacity export view.held) (import_reply r) (states.Running (desk_planned mid next_save.Fine)))
    (sym i.1)
    (carried pages_reply (ImportRefused import_fault.Failed) (Err adds.Memory) (Err adds.Save) export.id capacity
    refl stop view mid i.0 s (add_verdict capacity view.held export.id export.pages)
    (add_fits pages_reply refl refl (λ done. refl) capacity view.held export.id export.pages s.store.few)
    (subst (λ (c : ℕ). holding.DeskCarriesOut (Err adds.Memory) (Err adds.Save) export.id
    (add_verdict c view.held export.id export.pages) (desk_planned view (next_save_of stop)) i.0 mid) s.capacity_is i.2))

abbrev Scanned : Type 0 → GridView → ℕ → Stop → DeskView → DeskView → Result Accepted ScanFault → Type 0
Scanned A grid capacity stop view mid r = Carried scan_faults capacity stop view.held (ScanComes {A = A} capacity grid view.held)
    (scan_reply r) (states.Running (desk_planned mid next_save.Fine))

-- a scan
pub scan_carried : {A : Type 0} (grid : GridView) (capacity : ℕ) (stop : Stop) (view : DeskView)
    (answer : Result Accepted ScanFault) (mid : DeskView) → DeskIs view capacity view.held view.held false →
    AcceptsGrid grid (desk_planned view (next_save_of stop)) answer mid →
    Carried scan_faults capacity stop view.held (ScanComes {A = A} capacity grid view.held) (scan_reply answer)
    (states.Running (desk_planned mid next_save.Fine))
scan_carried {A} grid capacity stop view answer mid s does = by_read does.opened does.label does.scans
  where
    again : mid ≡ desk_planned view (next_save_of stop) →
        ShowsDesk {A = A} capacity (states.Running (desk_planned mid next_save.Fine)) (Running view.held)
    again same = same_again A capacity view mid (next_save_of stop) (Running view.held) s s.store.ready same

    by_read : (read : Result PageView LabelFault) → LabelOpens grid read →
        Scans read (desk_planned view (next_save_of stop)) answer mid → Scanned A grid capacity stop view mid answer
    by_read (Ok page) label scans =
        let c = carried (page_reply {A = A} page) (ScanRefused scan_fault.Failed) (Err adds.Memory)
        (Err adds.Save) page.id capacity refl stop view mid scans.0 s
        (add_verdict capacity view.held page.id (lone page))
        (add_fits (page_reply {A = A} page) refl refl (λ done. refl) capacity view.held page.id
        (lone page) s.store.few)
        (subst (λ (c : ℕ). holding.DeskCarriesOut (Err adds.Memory) (Err adds.Save) page.id
        (add_verdict c view.held page.id (lone page)) (desk_planned view (next_save_of stop)) scans.0 mid)
        s.capacity_is scans.2) in
        subst (Scanned A grid capacity stop view mid) (sym scans.1) (record {
          course = c.course;
          comes = (Ok page, label, c.comes);
          tells = c.tells;
          ends_so = c.ends_so;
          leaves = c.leaves;
        })
    by_read (Err f) label scans = subst (Scanned A grid capacity stop view mid) (sym scans.0) (record {
      course = Answers (ScanRefused (scan_fault.Label f));
      comes = (Err f, label, inl refl);
      tells = refl;
      ends_so = answers_end (ShowsDesk {A = A} capacity) scan_faults stop (Running view.held)
          (ScanRefused (scan_fault.Label f)) (states.Running (desk_planned mid next_save.Fine)) (again scans.1);
      leaves = unsaved_empty scan_faults stop (Answers (ScanRefused (scan_fault.Label f))) (Running view.held) tt;
    })

-- ---- memory that is asked for first

pub not_lacking : {A : Type 0} (capacity : ℕ) (Acts : Actor Documents → Ending A Documents → Type 0) (Q : Goods → Type 0)
    (state new : DeskState A) (reply : Reply A) → EndsEach (ShowsDesk capacity) Acts Q state reply new →
    EndsEach (ShowsDesk capacity) (MayLackFirst Acts) Q state reply new
not_lacking capacity Acts Q state new reply each shown s =
    with_goods (ShowsDesk capacity) Acts (MayLackFirst Acts) Q Q shown reply new (λ end acts. not_first Acts shown end acts)
    (λ goods l. l) (each shown s)

pub lacking : {A : Type 0} (capacity : ℕ) (exports : List (LeftExport A))
    (Acts : Actor Documents → Ending A Documents → Type 0) (state new : DeskState A) (view : DeskView) →
    state ≡ states.Running view → state ≡ new → EndsEach (ShowsDesk capacity) (MayLackFirst Acts)
    (λ goods. Left {A = A} [] [] exports goods [] [] exports) state replies.Memory new
lacking {A} capacity exports Acts state new view is same shown s =
    subst (λ (a : DeskState A). EndsSo (ShowsDesk capacity) (MayLackFirst Acts)
    (λ goods. Left {A = A} [] [] exports goods [] [] exports) shown replies.Memory a) same
    (lets_as _ _ IsEmpty _ shown _ state (none_left [] [] exports)
    (lacks_first (ShowsDesk capacity) Acts state (is_up capacity state view is) shown s))

pub scan_of_flipped : {A : Type 0} (scanned grid : GridView) (capacity : ℕ) (stop : Stop) (view : DeskView)
    (answer : Result Accepted ScanFault) (mid : DeskView) → scanned ≡ grid → DeskIs view capacity view.held view.held false →
    AcceptsGrid scanned (desk_planned view (next_save_of stop)) answer mid → Scanned A grid capacity stop view mid answer
scan_of_flipped {A} scanned grid capacity stop view answer mid is s does =
    scan_carried grid capacity stop view answer mid s
    (subst (λ (g : GridView). AcceptsGrid g (desk_planned view (next_save_of stop)) answer mid) is does)
