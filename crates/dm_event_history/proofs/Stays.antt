-- A desk stays clean.
use Rattle.std.proofs.Common.{arith, ◌≡◌, ◌≢◌, inl, inr, ℕ, Option, Some, None, List, [], ◌++◌, length, slice_get, Result, Ok, Err, IsSome, refl, sym, ap, subst, ◌∙◌}
use Rattle.std.specs.{Prelude.unwrap_or, Option.option_or}
use Rattle.std.specs.FinMap as finite
use Rattle.dm_append_label.specs.{Labels.PageView, Labels.IsHead, Labels.head_of, Opening.OpensNear}
use Rattle.dm_append_label.specs.declared.fault.LabelFault.{LabelFault}
use Rattle.dm_assembly_desk.specs.declared.reply.Kind.{Kind}
use Rattle.dm_assembly_desk.specs.Documents.{Pages, page, Documents, page_at}
use Rattle.dm_assembly_desk.specs.Desk.{lone, add_kind, add_verdict, pages_with, with_pages}
use Rattle.dm_assembly_desk.proofs.{Undoing.get_here, AddLaws.no_longer, AddLaws.page_given, MergingLaws.length_both}
use Rattle.dm_print_ledger.specs.Ledger.{LedgerView}
use Rattle.dm_event_history.specs.declared.{event.Event.Event, reply.Reply.Reply, stop.Stop.Stop}
use Rattle.dm_event_history.specs.declared.event.Event.TheVariants.{Print, Scan, RestartPrinter, RestartDesk, Ask, Forget, Give, Take, Export, Import}
use Rattle.dm_event_history.proofs.{Deciding.same_or_other, Gotten.get_more, Gotten.set_at}
use Rattle.dm_event_history.proofs.HeldDocuments.{get_left, get_other, get_removed}
use Rattle.dm_event_history.specs.Relay.{Actor, Goods, Label, Relay}
use Rattle.dm_event_history.specs.Relay as relays
use Rattle.dm_event_history.specs.Steps.{Answers, Calls, Course, Ending, Faults, LacksMemory, Looks, MayLackFirst, Restarts, Saves, AskTells, ExportTells, MayBe, scan_course, verdict_course, page_reply, pages_reply, forget_reply, Acts, DeskGoes, PrinterGoes}
use Rattle.dm_event_history.specs.Headline.{ArePrinted, EachStepKeepsClean, HasLeft, HasPages, HaveLeft, IsClean, IsCleanActor, IsCleanExport, IsHarmless, IsPrinted}
use Rattle.dm_event_history.proofs.Adds.{length-lone, lone_some, Answer, by_verdict}
use Rattle.dm_event_history.proofs.Told.{forget_by, page_none, second_some}
use Rattle.dm_assembly_desk.proofs.LonePages.{lone_here}

-- ---- more labels

pub more_left : (labels more : List Label) (id m : ℕ) (bytes : List ℕ) → HasLeft labels id m bytes →
    HasLeft (labels ++ more) id m bytes
more_left labels more id m bytes h = grind (arith, get_more)

pub more_pages : (labels more : List Label) (id n : ℕ) → HasPages labels id n → HasPages (labels ++ more) id n
more_pages labels more id n h = grind (arith, get_more)

pub have_more : (labels more : List Label) (held : Documents) → HaveLeft labels held → HaveLeft (labels ++ more) held
have_more labels more held h = grind (arith, more_left, more_pages)

pub actor_more : (labels more : List Label) (actor : Actor Documents) → IsCleanActor labels actor →
    IsCleanActor (labels ++ more) actor
actor_more labels more actor h = grind (arith, have_more)

-- ---- what is held with a page

-- what is found of a document
page_found : (held new : Documents) (id m : ℕ) → finite.get new id ≡ finite.get held id →
    page_at new id m ≡ page_at held id m
page_found held new id m same = ap (λ (o : Option Pages). page (unwrap_or o []) m) same

-- a page of a document that is held
pub page_in : (held : Documents) (id m : ℕ) (pages : Pages) → finite.get held id ≡ Some pages →
    page_at held id m ≡ page pages m
page_in held id m pages is = ap (λ (o : Option Pages). page (unwrap_or o []) m) is

-- ---- what is held without a document

without_left : (labels : List Label) (held : Documents) (gone : ℕ) → HaveLeft labels held →
    HaveLeft labels (finite.remove held gone)
without_left labels held gone clean = grind (arith, get_left, get_removed, page_found, page_none, same_or_other)

-- ---- what is held with an export

with_pages_left : (labels : List Label) (capacity : ℕ) (held : Documents) (export : relays.Export) (kind : Kind) →
    add_kind capacity held export.id export.pages ≡ Ok kind → IsCleanExport labels export → HaveLeft labels held →
    HaveLeft labels (with_pages held export.id export.pages)
with_pages_left labels capacity held export kind answered sent clean = record {
  pages = grind (arith, either, kept, page_found, page_given, same_or_other);
  counts = grind (arith, all_count, get_here, kept, same_or_other);
  some = λ id pages is. elim (same_or_other id export.id) [
    | inl same ↦
        let there : finite.get new export.id ≡ Some pages =
        subst (λ (i : ℕ). finite.get new i ≡ Some pages) same is in (
          sent.some.0,
          subst (λ (o : Option (List ℕ)). IsSome o)
              (sym (page_given held export.id export.pages sent.some.0) ∙ page_in new export.id sent.some.0 pages there)
              (second_some (page_at held export.id sent.some.0) (page export.pages sent.some.0) sent.some.1),
        )
    | inr other ↦ clean.some id pages (sym (kept id other) ∙ is)
  ];
}
  where
    new : Documents
    new = with_pages held export.id export.pages

    kept : (id : ℕ) → id ≢ export.id → finite.get (with_pages held export.id export.pages) id ≡ finite.get held id
    kept id other = get_other held export.id id (pages_with held export.id export.pages) other

    all_count : length (pages_with held export.id export.pages) ≡ length export.pages
    all_count = grind (arith, length_both, no_longer)

    either : (m : ℕ) (bytes : List ℕ) (o : Option (List ℕ)) → page_at held export.id m ≡ o →
        option_or (page_at held export.id m) (page export.pages m) ≡ Some bytes → HasLeft labels export.id m bytes
    either m bytes None at given = grind arith
    either m bytes (Some found) at given = grind arith

-- ---- how a call ends

abbrev IsCleanCourse : {A : Type 0} → List Label → Course A Documents → Type 0
IsCleanCourse labels (Saves next goods reply) = HaveLeft labels next
IsCleanCourse labels (Answers reply) = Unit {0}
IsCleanCourse labels LacksMemory = Unit {0}

-- what is done at a desk keeps it clean
abbrev Keeps : {A : Type 0} → List Label → (Actor Documents → Ending A Documents → Type 0) → Type 0
Keeps {A} labels Acts = (actor : Actor Documents) (end : Ending A Documents) → IsCleanActor labels actor →
    Acts actor end → IsCleanActor labels end.actor

calls_keep : {A : Type 0} (labels : List Label) (faults : Faults A) (stop : Stop)
    (Comes : Documents → Course A Documents → Type 0) →
    ((held : Documents) (course : Course A Documents) → HaveLeft labels held → Comes held course →
    IsCleanCourse labels course) → Keeps labels (Calls faults stop Comes)
calls_keep labels faults stop Comes each held end h acts = grind arith

may_lack_keeps : {A : Type 0} (labels : List Label) (Acts : Actor Documents → Ending A Documents → Type 0) →
    Keeps labels Acts → Keeps labels (MayLackFirst Acts)
may_lack_keeps labels Acts each held end h acts = grind arith

restarts_keep : {A : Type 0} (labels : List Label) (refused : Reply A) →
    Keeps labels (Restarts {A = A} {C = Documents} refused)
restarts_keep labels refused actor end h is = grind arith

looks_keep : {A : Type 0} (labels : List Label) (Tells : Documents → Reply A → Goods → Type 0) →
    Keeps labels (Looks Tells)
looks_keep labels Tells held end h acts = grind arith

-- ---- call by call

may_be_clean : {A : Type 0} (labels : List Label) (wanted course : Course A Documents) → IsCleanCourse labels wanted →
    MayBe wanted course → IsCleanCourse labels course
may_be_clean {A} labels wanted course c is = grind arith

-- pages that are clean as those of an export are added
add_clean : {A : Type 0} (labels : List Label) (capacity : ℕ) (held : Documents) (export : relays.Export)
    (tells : Answer → Reply A) → HaveLeft labels held → IsCleanExport labels export →
    IsCleanCourse labels (verdict_course tells (add_verdict capacity held export.id export.pages))
add_clean {A} labels capacity held export tells h sent = grind (arith, by_verdict, with_pages_left)

-- the page of a label that left, as an export of it alone
abbrev pub lone_export : PageView → relays.Export
lone_export p = record { id = p.id; pages = lone p }

pub lone_clean : (labels : List Label) (number : ℕ) (label : Label) → slice_get labels number ≡ Some label →
    IsPrinted label → IsCleanExport labels (lone_export label.page)
lone_clean labels number label there printed =
    let head : IsHead (head_of label.page) = printed.carries.is_head in
    record {
      pages = λ m bytes is.
          let m_is : m ≡ label.page.m = lone_some label.page m head.first (subst IsSome (sym is) refl) in
          let here : page (lone label.page) label.page.m ≡ Some label.page.bytes =
          lone_here label.page head.first head.last in
          let own : page (lone label.page) label.page.m ≡ Some bytes =
          subst (λ (k : ℕ). page (lone label.page) k ≡ Some bytes) m_is is in
          record {
            number = number;
            label = label;
            there = there;
            id_is = refl;
            m_is = sym m_is;
            bytes_are = cc (here, own);
          };
      count = grind (arith, length-lone);
      some = (label.page.m, subst IsSome (sym (lone_here label.page head.first head.last)) refl);
    }

-- a fair scan is read as its label's page
reading_clean : (A : Type 0) (labels : List Label) (capacity number : ℕ) (held : Documents) (label : Label) →
    HaveLeft labels held → slice_get labels number ≡ Some label → IsPrinted label →
    (read : Result PageView LabelFault) → OpensNear label.page read →
    IsCleanCourse {A = A} labels (scan_course capacity held read)
reading_clean A labels capacity number held label h there printed (Ok page) near =
    subst (λ (p : PageView). IsCleanCourse {A = A} labels
    (verdict_course (page_reply p) (add_verdict capacity held p.id (lone p)))) (sym near)
    (add_clean labels capacity held (lone_export label.page) (page_reply label.page) h
    (lone_clean labels number label there printed))
reading_clean A labels capacity number held label h there printed (Err fault) near = tt

forget_clean : (A : Type 0) (labels : List Label) (id : ℕ) (held : Documents) (o : Option Pages) →
    HaveLeft labels held → IsCleanCourse {A = A} labels (verdict_course forget_reply (forget_by held id o))
forget_clean A labels id held None h = tt
forget_clean A labels id held (Some pages) h = without_left labels held id h

-- ---- steps

desk_keeps : {A : Type 0} (old new : Relay) (number own : ℕ)
    (Acts : ℕ → Actor Documents → Ending A Documents → Type 0) (reply : Reply A) → IsClean old own →
    (number ≡ own → (capacity : ℕ) → Keeps old.labels (Acts capacity)) → DeskGoes old number Acts reply new → IsClean new own
desk_keeps old new number own Acts reply clean each g = grind (arith, actor_more, set_at)

printer_keeps : {A : Type 0} (old new : Relay) (printer own : ℕ)
    (Acts : Actor LedgerView → Ending A LedgerView → Type 0) (reply : Reply A) → IsClean old own →
    PrinterGoes old printer Acts reply new → IsClean new own
printer_keeps old new printer own Acts reply clean g = grind (arith, actor_more)

acts_keep : {A : Type 0} (old new : Relay) (event : Event A) (reply : Reply A) (own : ℕ) → ArePrinted old.labels →
    IsClean old own → IsHarmless old event own → Acts old event reply new → IsClean new own
acts_keep old new (Print printer document size scheme stop) reply own p clean harm acts =
    printer_keeps old new printer own _ reply clean acts
acts_keep old new (Give printer receiver range stop) reply own p clean harm acts =
    printer_keeps old new printer own _ reply clean acts
acts_keep old new (Take printer number stop) reply own p clean harm acts =
    printer_keeps old new printer own _ reply clean acts.2
acts_keep old new (RestartPrinter printer) reply own p clean harm acts =
    printer_keeps old new printer own _ reply clean acts
acts_keep old new (Scan desk number flips stop) reply own p clean harm acts =
    desk_keeps old new desk own _ reply clean
    (λ same capacity. may_lack_keeps old.labels _ (calls_keep old.labels _ stop _
    (λ held course h comes. may_be_clean old.labels _ course
    (reading_clean _ old.labels capacity number held acts.0 h acts.1 (p number acts.0 acts.1) comes.0
    (comes.1.near acts.0.grid acts.0.page (p number acts.0 acts.1).carries (harm same acts.0 acts.1))) comes.2)))
    acts.2
acts_keep {A} old new (Forget desk id stop) reply own p clean harm acts =
    desk_keeps old new desk own _ reply clean
    (λ same capacity. calls_keep old.labels _ stop _
    (λ held course h comes. may_be_clean old.labels _ course
    (forget_clean A old.labels id held (finite.get held id) h) comes)) acts
acts_keep {A} old new (Import desk number stop) reply own p clean harm acts =
    desk_keeps old new desk own _ reply clean
    (λ same capacity. calls_keep old.labels _ stop _
    (λ held course h comes. may_be_clean old.labels _ course
    (add_clean {A = A} old.labels capacity held acts.0 pages_reply h (harm same acts.0 acts.1)) comes)) acts.2
acts_keep {A} old new (Ask desk id) reply own p clean harm acts =
    desk_keeps old new desk own _ reply clean (λ same capacity. looks_keep old.labels (AskTells {A = A} id)) acts
acts_keep {A} old new (Export desk id) reply own p clean harm acts =
    desk_keeps old new desk own _ reply clean
    (λ same capacity. may_lack_keeps old.labels _ (looks_keep old.labels (ExportTells {A = A} (length old.exports) id)))
    acts
acts_keep old new (RestartDesk desk) reply own p clean harm acts =
    desk_keeps old new desk own _ reply clean (λ same capacity. restarts_keep old.labels _) acts

pub each_step_keeps_clean : (A : Type 0) → EachStepKeepsClean A
each_step_keeps_clean A old new event reply own p clean harm step = grind (arith, acts_keep)
