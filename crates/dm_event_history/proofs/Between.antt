-- What a desk holds, as long as each scan that may have saved is fair: all that it surely holds, and nothing but what
-- it may hold.
use Rattle.std.proofs.Common.{◌≡◌, ◌≢◌, ◌⊎◌, ◌<◌, inl, inr, true, ℕ, length, arith, Some, Ok, Result, List, [], ◌∷◌, slice_get, IsSome, refl, sym, ap, subst, ◌∙◌}
use Rattle.std.specs.FinMap as finite
use Rattle.dm_append_label.specs.Labels.{PageView}
use Rattle.dm_append_label.specs.{Labels.IsHead, Labels.head_of, Opening.LabelOpens, Opening.OpensNear}
use Rattle.dm_append_label.specs.declared.fault.LabelFault.{LabelFault}
use Rattle.dm_assembly_desk.specs.declared.fault.DeskFault.TheVariants as desk_fault
use Rattle.dm_assembly_desk.specs.declared.reply.{Accepted.Accepted, Kind.Kind}
use Rattle.dm_assembly_desk.specs.declared.reply.Kind.TheVariants as kinds
use Rattle.dm_assembly_desk.specs.Documents.{Pages, page, Documents}
use Rattle.dm_assembly_desk.specs.Desk.{lone, with_pages, add_kind}
use Rattle.dm_finder_frame.specs.Frame.{flipped}
use Rattle.dm_print_ledger.specs.declared.range.Range.{Range}
use Rattle.dm_event_history.specs.declared.{event.Event.Event, reply.Reply.Reply, reply.Reply.TheVariants.Scanned}
use Rattle.dm_event_history.specs.declared.event.Event.TheVariants.{Scan, RestartDesk, Ask, Forget, Export, Import}
use Rattle.dm_event_history.specs.declared.reply.Reply.TheVariants as replies
use Rattle.dm_event_history.specs.declared.stop.Stop.{Stop}
use Rattle.dm_event_history.specs.Steps.{may_save, Acts, DeskGoes, HasModules, IsNamedThere, Step, Moment, IsRun, PrinterAt, actor_of, Calls, Course, Ending, Faults, Looks, MayLackFirst, ends, AskTells, ExportTells, ForgetComes, ImportComes, ScanComes, forget_faults, import_faults, scan_course, scan_faults, page_reply}
use Rattle.dm_event_history.specs.Relay.{Actor, HasAll, Running, Desk, Label, Relay, start, no_goods}
use Rattle.dm_event_history.specs.Relay as relays
use Rattle.dm_event_history.specs.Headline.{ArePrinted, AreDisjoint, AreSavedFair, IsFairEvent}
use Rattle.dm_event_history.specs.Told.{AreBetween, ForgetsDocument, Has, IsBetween, MayForget, MayTake, TakesPage}
use Rattle.dm_event_history.proofs.{Deciding.same_or_other, AllClean.unsaved_course, Headline.each_run_is_sound}
use Rattle.dm_event_history.proofs.{Beginning.empty_there, Beginning.nothing_at, Gotten.set_at}
use Rattle.dm_event_history.proofs.Adds.{held_all, lone_some, Answer}
use Rattle.dm_event_history.proofs.Having.{CourseHas, calls_have, has_map, looks_have, may_lack_has, restarts_have}
use Rattle.dm_event_history.proofs.Answered.{IsAnswered, is_answered, is_made}
use Rattle.dm_event_history.proofs.Told.{AddTold, IsAfter, own_scan, scan_told, was_wanted, with_pages_has, with_pages_keeps, with_pages_only, without_keeps, without_only}
use Rattle.dm_assembly_desk.proofs.LonePages.{lone_here}

abbrev after : {A : Type 0} → Relay → Event A → Reply A → List (Moment A) → List (Moment A)
after before event reply earlier = record { before = before; event = event; reply = reply } ∷ earlier

-- what is held after an event, by what was held before
next : {A : Type 0} (before : Relay) (event : Event A) (reply : Reply A) (earlier : List (Moment A)) (at : ℕ)
    (old new : Documents) → IsBetween earlier at old →
    ((id m : ℕ) → Has old id m → (¬ MayForget event reply at id) → Has new id m) →
    ((id m : ℕ) → TakesPage before event reply at id m → Has new id m) →
    ((id m : ℕ) → Has new id m → MayTake before event reply at id m
    ⊎ ((¬ ForgetsDocument event reply at id) × Has old id m)) →
    IsBetween (after before event reply earlier) at new
next before event reply earlier at old new b keeps takes only = grind arith

-- what neither takes nor forgets leaves it so
stays : {A : Type 0} (before : Relay) (event : Event A) (reply : Reply A) (earlier : List (Moment A)) (at : ℕ) →
    ((id m : ℕ) → ¬ TakesPage before event reply at id m) → ((id : ℕ) → ¬ ForgetsDocument event reply at id) →
    (held : Documents) → IsBetween earlier at held → IsBetween (after before event reply earlier) at held
stays before event reply earlier at none still held b = grind arith

-- ---- scans and imports

-- an event at a desk by which pages of a document are to be added
module _ (A : Type 0) (before : Relay) (event : Event A) (stop : Stop) (faults : Faults A)
    (tells : Answer → Reply A) (desk id : ℕ) (pages : Pages)
    (earlier : List (Moment A)) (forgets : (reply : Reply A) (i : ℕ) → ¬ ForgetsDocument event reply desk i)
    (may : (reply : Reply A) (i m : ℕ) → may_save event reply ≡ true → i ≡ id → IsSome (page pages m) →
    MayTake before event reply desk i m) where
  -- by which just these are taken, if any
  abbrev TakesThese : Reply A → Type 0
  TakesThese reply = (i m : ℕ) → TakesPage before event reply desk i m → (id ≡ i) × IsSome (page pages m)

  -- they are added
  added : (held : Documents) (reply : Reply A) → may_save event reply ≡ true → TakesThese reply →
      IsBetween earlier desk held → IsBetween (after before event reply earlier) desk (with_pages held id pages)
  added held reply saved takes b = grind (arith, next, with_pages_has, with_pages_keeps, with_pages_only)

  -- it is answered that they were added, or were all held
  pub answered : (capacity : ℕ) (held : Documents) (reply : Reply A) (end : Actor Documents) → may_save event reply ≡ true →
      TakesThese reply → IsBetween earlier desk held → AddTold tells capacity held id pages reply end →
      HasAll (IsBetween (after before event reply earlier) desk) end
  answered capacity held reply end saved takes b told = by_kind told.kind told.kind_is told.after_is
    where
      known : (held : Documents) → IsBetween (after before event reply earlier) desk held → end ≡ Running held →
          HasAll (IsBetween (after before event reply earlier) desk) end
      known held new is = grind arith

      by_kind : (kind : Kind) → add_kind capacity held id pages ≡ Ok kind → IsAfter kind held (with_pages held id pages) end →
          HasAll (IsBetween (after before event reply earlier) desk) end
      by_kind kinds.Again at is = known held
          (next before event reply earlier desk held held b (λ i m has _. has)
          (λ i m t. let o = takes i m t in subst (λ (k : ℕ). Has held k m) o.0 (held_all capacity held id pages at m o.1))
          (λ i m has. inr (forgets reply i, has))) is
      by_kind kinds.New at is = known (with_pages held id pages) (added held reply saved takes b) is
      by_kind kinds.Complete at is = known (with_pages held id pages) (added held reply saved takes b) is

-- ---- scans

is_scanned : {A : Type 0} (reply : Reply A) → ((a : Accepted) × (reply ≡ Scanned a)) ⊎ ((a : Accepted) → reply ≢ Scanned a)
is_scanned (Scanned a) = inl (a, refl)
is_scanned reply = inr (λ a e. cc (e))

not_scanned : {A : Type 0} (before : Relay) (desk number : ℕ) (flips : List (ℕ × ℕ)) (stop : Stop) (reply : Reply A) →
    ((a : Accepted) → reply ≢ Scanned a) → (at id m : ℕ) →
    ¬ TakesPage before (Scan desk number flips stop) reply at id m
not_scanned before desk number flips stop reply never at id m took = grind arith

module _ (A : Type 0) (before : Relay) (desk number capacity : ℕ) (flips : List (ℕ × ℕ)) (stop : Stop) (label : Label)
    (earlier : List (Moment A)) (there : slice_get before.labels number ≡ Some label)
    (head : IsHead (head_of label.page)) where
  -- where it may have saved it was fair
  abbrev IsFairlyRead : Reply A → Type 0
  IsFairlyRead reply = may_save (Scan desk number flips stop) reply ≡ true → (read : Result PageView LabelFault) →
      LabelOpens (flipped label.grid flips) read → OpensNear label.page read

  may : (reply : Reply A) (i m : ℕ) → may_save {A = A} (Scan desk number flips stop) reply ≡ true → i ≡ label.page.id →
      IsSome (page (lone label.page) m) → MayTake {A = A} before (Scan desk number flips stop) reply desk i m
  may reply i m saved same some = grind (arith, lone_some)

  -- a scan that was answered with a page
  scanned_so : (actor end : Actor Documents) (a : Accepted) → IsFairlyRead (Scanned a) →
      HasAll (IsBetween earlier desk) actor →
      IsAnswered {A = A} (ScanComes capacity (flipped label.grid flips)) actor (Scanned a) end →
      HasAll (IsBetween (after before (Scan desk number flips stop) (Scanned a) earlier) desk) end
  scanned_so actor end a near between ans =
      let read = ans.comes.0 in
      let told = scan_told capacity label.page ans.held a end read (near refl read ans.comes.1)
      (was_wanted (scan_course capacity ans.held read) ans.course ans.held (Scanned a) end ans.comes.2 ans.ended) in
      let same : record { id = label.page.id; m = label.page.m; n = label.page.n; kind = told.kind } ≡ a =
      scanned_is told.told in
      answered A before (Scan desk number flips stop) stop scan_faults (page_reply label.page) desk
      label.page.id (lone label.page) earlier (λ reply i f. f) may capacity ans.held (Scanned a) end refl
      (λ i m t. (
        ap (λ (x : Accepted). x.id) same ∙ t.1,
        subst (λ (k : ℕ). IsSome (page (lone label.page) k)) (ap (λ (x : Accepted). x.m) same ∙ t.2)
            (subst IsSome (sym (lone_here label.page head.first head.last)) refl),
      ))
      (subst (λ (x : Actor Documents). HasAll (IsBetween earlier desk) x) ans.was between) told
    where
      scanned_is : {one other : Accepted} → ◌≡◌ {A = Reply A} (Scanned one) (Scanned other) → one ≡ other
      scanned_is e = cc (e)

  -- one that was not
  unscanned : (reply : Reply A) → ((a : Accepted) → reply ≢ Scanned a) → IsFairlyRead reply → (held : Documents)
      (course : Course A Documents) → IsBetween earlier desk held → ScanComes capacity (flipped label.grid flips) held course →
      reply ≡ (ends scan_faults stop course (Running held)).reply →
      CourseHas (IsBetween (after before (Scan desk number flips stop) reply earlier) desk) stop course
  unscanned reply never near held course b comes is = grind (arith, added, held_all, may, unsaved_course)

  pub scan_between : (actor : Actor Documents) (end : Ending A Documents) → IsFairlyRead end.reply →
      HasAll (IsBetween earlier desk) actor →
      MayLackFirst (Calls scan_faults stop (ScanComes capacity (flipped label.grid flips))) actor end →
      HasAll (IsBetween (after before (Scan desk number flips stop) end.reply earlier) desk) end.actor
  scan_between actor end near b acts = elim (is_scanned end.reply) [
    | inl told ↦
        let called = is_made (Calls scan_faults stop (ScanComes capacity (flipped label.grid flips))) actor end (Scanned told.0)
        (λ e. cc (e)) acts told.1 in
        subst (λ (r : Reply A). HasAll (IsBetween (after before (Scan desk number flips stop) r earlier) desk) end.actor)
        (sym told.1)
        (scanned_so actor end.actor told.0 (subst (λ (r : Reply A). IsFairlyRead r) told.1 near) b
        (is_answered scan_faults stop (ScanComes capacity (flipped label.grid flips)) actor end (Scanned told.0)
        (own_scan told.0) called told.1))
    | inr never ↦
        let Old : Documents → Type 0 = IsBetween earlier desk in
        let Q : Documents → Type 0 = IsBetween (after before (Scan desk number flips stop) end.reply earlier) desk in
        let keep : (held : Documents) → Old held → Q held = stays before (Scan desk number flips stop) end.reply earlier desk
        (λ id m t. not_scanned before desk number flips stop end.reply never desk id m t) (λ id f. f) in
        may_lack_has Q (Calls scan_faults stop (ScanComes capacity (flipped label.grid flips))) actor end
        (has_map Old Q keep actor b)
        (λ called. calls_have Old Q scan_faults stop (ScanComes capacity (flipped label.grid flips)) actor end b keep
        (λ held course old comes is. unscanned end.reply never near held course old comes
        (ap (λ (e : Ending A Documents). e.reply) is)) called) acts
  ]

-- ---- forgets

module _ (A : Type 0) (before : Relay) (desk name : ℕ) (stop : Stop) (earlier : List (Moment A)) where
  -- the document is not held
  without : (held : Documents) (reply : Reply A) → may_save (Forget desk name stop) reply ≡ true →
      IsBetween earlier desk held →
      IsBetween (after before (Forget desk name stop) reply earlier) desk (finite.remove held name)
  without held reply may b = grind (arith, may, next, same_or_other, without_keeps, without_only)

  pub forget_between : (actor : Actor Documents) (end : Ending A Documents) → HasAll (IsBetween earlier desk) actor →
      Calls forget_faults stop (ForgetComes name) actor end →
      HasAll (IsBetween (after before (Forget desk name stop) end.reply earlier) desk) end.actor
  forget_between actor end b acts = grind (arith, without)

-- ---- imports

module _ (A : Type 0) (before : Relay) (desk number capacity : ℕ) (stop : Stop) (export : relays.Export)
    (earlier : List (Moment A)) (there : slice_get before.exports number ≡ Some export) where
  -- the export that was taken is this
  own : (reply : Reply A) (id m : ℕ) → TakesPage before (Import desk number stop) reply desk id m →
      (export.id ≡ id) × IsSome (page export.pages m)
  own reply id m took = grind arith

  pub import_between : (actor : Actor Documents) (end : Ending A Documents) → HasAll (IsBetween earlier desk) actor →
      Calls import_faults stop (ImportComes capacity export) actor end →
      HasAll (IsBetween (after before (Import desk number stop) end.reply earlier) desk) end.actor
  import_between actor end b acts = grind (arith, added, held_all, own)

-- ---- steps

-- only an event of this desk takes or forgets here
scan_here : {A : Type 0} (before : Relay) (desk number : ℕ) (flips : List (ℕ × ℕ)) (stop : Stop) (reply : Reply A)
    (at id m : ℕ) → TakesPage before (Scan desk number flips stop) reply at id m → desk ≡ at
scan_here before desk number flips stop reply at id m t = grind arith

import_here : {A : Type 0} (before : Relay) (desk number : ℕ) (stop : Stop) (reply : Reply A) (at id m : ℕ) →
    TakesPage before (Import desk number stop) reply at id m → desk ≡ at
import_here before desk number stop reply at id m t = grind arith

forget_here : {A : Type 0} (desk name : ℕ) (stop : Stop) (reply : Reply A) (at id : ℕ) →
    ForgetsDocument (Forget desk name stop) reply at id → desk ≡ at
forget_here desk name stop reply at id f = grind arith

module _ (A : Type 0) (old new : Relay) (event : Event A) (reply : Reply A) (earlier : List (Moment A))
    (b : AreBetween earlier old) where
  desk_between : (number : ℕ) (Acts : ℕ → Actor Documents → Ending A Documents → Type 0) →
      ((at : ℕ) → number ≢ at → (held : Documents) → IsBetween earlier at held →
      IsBetween (after old event reply earlier) at held) →
      ((capacity : ℕ) (actor : Actor Documents) (end : Ending A Documents) → HasAll (IsBetween earlier number) actor →
      reply ≡ end.reply → Acts capacity actor end → HasAll (IsBetween (after old event reply earlier) number) end.actor) →
      DeskGoes old number Acts reply new → AreBetween (after old event reply earlier) new
  desk_between number Acts others own g = grind (arith, has_map, own, set_at)

  same_between : ((at : ℕ) (held : Documents) → IsBetween earlier at held →
      IsBetween (after old event reply earlier) at held) → new.desks ≡ old.desks →
      AreBetween (after old event reply earlier) new
  same_between others same = grind arith

-- an event of a printer leaves the desks
desks_same : {A : Type 0} (old new : Relay) (event : Event A) (reply : Reply A) (printer : ℕ) →
    actor_of event ≡ PrinterAt printer → Acts old event reply new → new.desks ≡ old.desks
desks_same old new event reply printer who acts = grind arith

-- the answer to a look takes nothing
quiet : {A : Type 0} (old : Relay) (event : Event A) (reply : Reply A) (earlier : List (Moment A)) →
    ((at id m : ℕ) → ¬ TakesPage old event reply at id m) → ((at id : ℕ) → ¬ ForgetsDocument event reply at id) →
    (at : ℕ) (held : Documents) → IsBetween earlier at held → IsBetween (after old event reply earlier) at held
quiet old event reply earlier none still at held b = grind arith

acts_between : (A : Type 0) (old new : Relay) (event : Event A) (reply : Reply A) (earlier : List (Moment A)) →
    ArePrinted old.labels → (may_save event reply ≡ true → IsFairEvent old event) → AreBetween earlier old →
    Acts old event reply new →
    ((number : ℕ) (flips : List (ℕ × ℕ)) (desk : ℕ) (stop : Stop) → event ≡ Scan desk number flips stop →
    (desk < length old.desks) × HasModules old number flips) → AreBetween (after old event reply earlier) new
acts_between A old new (Scan desk number flips stop) reply earlier p fair b acts named =
    let printed = p number acts.0 acts.1 in
    desk_between A old new _ reply earlier b desk _
    (λ at away held x. stays old (Scan desk number flips stop) reply earlier at
    (λ id m t. away (scan_here old desk number flips stop reply at id m t)) (λ id f. f) held x)
    (λ capacity actor end h is called.
    subst (λ (r : Reply A). HasAll (IsBetween (after old (Scan desk number flips stop) r earlier) desk) end.actor) (sym is)
    (scan_between A old desk number capacity flips stop acts.0 earlier acts.1 printed.carries.is_head actor end
    (λ saved read opens. opens.near acts.0.grid acts.0.page printed.carries
    (fair (ap (λ (r : Reply A). may_save (Scan desk number flips stop) r) is ∙ saved)
    (named number flips desk stop refl) acts.0 acts.1)) h called)) acts.2
acts_between A old new (Forget desk id stop) reply earlier p fair b acts named =
    desk_between A old new _ reply earlier b desk _
    (λ at away held x. stays old (Forget desk id stop) reply earlier at (λ i m t. t)
    (λ i f. away (forget_here desk id stop reply at i f)) held x)
    (λ capacity actor end h is called.
    subst (λ (r : Reply A). HasAll (IsBetween (after old (Forget desk id stop) r earlier) desk) end.actor) (sym is)
    (forget_between A old desk id stop earlier actor end h called)) acts
acts_between A old new (Import desk number stop) reply earlier p fair b acts named =
    desk_between A old new _ reply earlier b desk _
    (λ at away held x. stays old (Import desk number stop) reply earlier at
    (λ id m t. away (import_here old desk number stop reply at id m t)) (λ id f. f) held x)
    (λ capacity actor end h is called.
    subst (λ (r : Reply A). HasAll (IsBetween (after old (Import desk number stop) r earlier) desk) end.actor) (sym is)
    (import_between A old desk number capacity stop acts.0 earlier acts.1 actor end h called)) acts.2
acts_between A old new (Ask desk id) reply earlier p fair b acts named =
    let still = quiet old (Ask desk id) reply earlier (λ at i m t. t) (λ at i f. f) in
    desk_between A old new _ reply earlier b desk _ (λ at away. still at)
    (λ capacity actor end h is called. looks_have (IsBetween (after old (Ask desk id) reply earlier) desk)
    (AskTells {A = A} id) actor end
    (has_map (IsBetween earlier desk) (IsBetween (after old (Ask desk id) reply earlier) desk) (still desk) actor h)
    called) acts
acts_between A old new (Export desk id) reply earlier p fair b acts named =
    let still = quiet old (Export desk id) reply earlier (λ at i m t. t) (λ at i f. f) in
    desk_between A old new _ reply earlier b desk _ (λ at away. still at)
    (λ capacity actor end h is called.
    let own = has_map (IsBetween earlier desk) (IsBetween (after old (Export desk id) reply earlier) desk) (still desk)
    actor h in
    may_lack_has (IsBetween (after old (Export desk id) reply earlier) desk)
    (Looks (ExportTells {A = A} (length old.exports) id)) actor end own
    (λ looked. looks_have (IsBetween (after old (Export desk id) reply earlier) desk)
    (ExportTells {A = A} (length old.exports) id) actor end own looked) called) acts
acts_between A old new (RestartDesk desk) reply earlier p fair b acts named =
    let still = quiet old (RestartDesk desk) reply earlier (λ at i m t. t) (λ at i f. f) in
    desk_between A old new _ reply earlier b desk _ (λ at away. still at)
    (λ capacity actor end h is called. restarts_have (IsBetween (after old (RestartDesk desk) reply earlier) desk)
    (replies.DeskRefused desk_fault.Memory) actor end
    (has_map (IsBetween earlier desk) (IsBetween (after old (RestartDesk desk) reply earlier) desk) (still desk) actor h)
    called) acts
acts_between A old new event reply earlier p fair b acts named = grind (arith, desks_same, quiet, same_between)

-- what is not there takes and forgets nothing
none_taken : {A : Type 0} (old : Relay) (event : Event A) (at id m : ℕ) → ¬ TakesPage old event replies.NoSuch at id m
none_taken old event at id m t = grind arith

none_forgotten : {A : Type 0} (event : Event A) (at id : ℕ) → ¬ ForgetsDocument event replies.NoSuch at id
none_forgotten event at id f = grind arith

names_scan : {A : Type 0} (old : Relay) (event : Event A) → IsNamedThere old event → (number : ℕ) (flips : List (ℕ × ℕ))
    (desk : ℕ) (stop : Stop) → event ≡ Scan desk number flips stop →
    (desk < length old.desks) × HasModules old number flips
names_scan {A} old event named number flips desk stop is = grind arith

step_between : (A : Type 0) (old new : Relay) (event : Event A) (reply : Reply A) (earlier : List (Moment A)) →
    ArePrinted old.labels → (may_save event reply ≡ true → IsFairEvent old event) → AreBetween earlier old →
    Step old event reply new → AreBetween (after old event reply earlier) new
step_between A old new event reply earlier p fair b (inl acts) =
    acts_between A old new event reply earlier p fair b acts.1 (names_scan old event acts.0)
step_between A old new event reply earlier p fair b (inr none) =
    grind (arith, has_map, none_forgotten, none_taken, quiet)

-- a run in which each scan that may have saved was fair
pub run_between : (A : Type 0) (ranges : List Range) (capacities : List ℕ) (h : List (Moment A)) (end : Relay) →
    AreDisjoint ranges → IsRun (start ranges capacities) h end → AreSavedFair h → AreBetween h end
run_between A ranges capacities [] end apart run fair =
    (let none : List (Moment A) = [] in subst (λ (r : Relay). AreBetween none r) (sym run)
    (λ at desk is. subst (λ (x : Actor Documents). HasAll (IsBetween none at) x) (empty_there capacities at desk is) (record {
      surely = λ id m s. absurd s;
      possibly = λ id m has. absurd (nothing_at id m has);
    })))
run_between A ranges capacities (moment ∷ earlier) end apart run fair =
    step_between A moment.before end moment.event moment.reply earlier
    (each_run_is_sound A ranges capacities earlier moment.before apart run.0).1 fair.0
    (run_between A ranges capacities earlier moment.before apart run.0 fair.1) run.1
