-- What desks come to whose scans are fair, by what they answer: pages are added, or refused.
use Rattle.std.proofs.Common.{arith, ◌≡◌, ◌≢◌, ◌⊎◌, ℕ, List, [], Option, None, Result, Ok, Err, IsSome, sym, ap, subst, ◌∙◌}
use Rattle.std.specs.Prelude.{is_none, unwrap_or, if◌then◌else◌}
use Rattle.std.specs.Option.{option_or}
use Rattle.std.specs.FinMap as finite
use Rattle.dm_append_label.specs.{Labels.PageView, Opening.OpensNear}
use Rattle.dm_append_label.specs.declared.fault.LabelFault.{LabelFault}
use Rattle.dm_append_label.specs.declared.fault.LabelFault.TheVariants as label_fault
use Rattle.dm_assembly_desk.specs.Desk.{lone, add_kind, add_verdict, pages_with, reply_of, with_pages, Verdict, Stays, Becomes}
use Rattle.dm_assembly_desk.specs.declared.{adding.AddFault.AddFault, reply.Kind.Kind, reply.Accepted.Accepted}
use Rattle.dm_assembly_desk.specs.declared.reply.Kind.TheVariants as kinds
use Rattle.dm_assembly_desk.specs.declared.reply.Imported as imported_type
use Rattle.dm_assembly_desk.specs.declared.fault.{ScanFault.ScanFault, ForgetFault.ForgetFault}
use Rattle.dm_assembly_desk.specs.declared.fault.ScanFault.TheVariants as scan_fault
use Rattle.dm_assembly_desk.specs.Documents.{Pages, page, Documents, page_at}
use Rattle.dm_assembly_desk.proofs.AddLaws.{page_given}
use Rattle.dm_event_history.specs.{declared.reply.Reply.Reply, Relay.Actor, Relay.Running, Told.Has}
use Rattle.dm_event_history.specs.declared.reply.Reply.TheVariants.{Scanned, ScanRefused, Imported}
use Rattle.dm_event_history.specs.Steps.{Course, MayBe, import_faults, page_reply, scan_course, scan_faults, verdict_course}
use Rattle.dm_assembly_desk.specs.declared.fault.ForgetFault.TheVariants as forget_fault
use Rattle.dm_event_history.proofs.{Adds.Answer, Deciding.same_or_other, Answered.Ended, Answered.IsOwn}
use Rattle.dm_event_history.proofs.HeldDocuments.{get_left, get_other, get_removed}

-- ---- replies that calls come to

pub own_scan : {A : Type 0} (a : Accepted) → IsOwn {A = A} scan_faults (Scanned a)
own_scan a = grind arith

pub own_import : {A : Type 0} (i : imported_type.Imported) → IsOwn {A = A} import_faults (Imported i)
own_import i = grind arith

-- memory for it was not refused
pub was_wanted : {A C : Type 0} (wanted course : Course A C) (held : C) (reply : Reply A) (after : Actor C) →
    MayBe wanted course → Ended course held reply after → Ended wanted held reply after
was_wanted {A} {C} wanted course held reply after is ended = grind arith

-- ---- scans and imports

-- what a desk shows after pages were added, or were all held
abbrev pub IsAfter : Kind → Documents → Documents → Actor Documents → Type 0
IsAfter kinds.Again held next after = after ≡ Running held
IsAfter kinds.New held next after = after ≡ Running next
IsAfter kinds.Complete held next after = after ≡ Running next

-- pages were added, or were all held
pub record AddTold {A : Type 0} (tells : Answer → Reply A) (capacity : ℕ) (held : Documents) (id : ℕ) (pages : Pages)
    (reply : Reply A) (after : Actor Documents) : Type 0 where
  pub kind : Kind
  pub kind_is : add_kind capacity held id pages ≡ Ok kind
  pub told : tells (Ok (reply_of held id pages kind)) ≡ reply
  pub after_is : IsAfter kind held (with_pages held id pages) after

-- or they were refused
pub record AddRefused {A : Type 0} (tells : Answer → Reply A) (capacity : ℕ) (held : Documents) (id : ℕ) (pages : Pages)
    (reply : Reply A) : Type 0 where
  pub fault : AddFault
  pub fault_is : add_kind capacity held id pages ≡ Err fault
  pub told : tells (Err fault) ≡ reply

pub add_ended : {A : Type 0} (tells : Answer → Reply A) (capacity : ℕ) (held : Documents) (id : ℕ) (pages : Pages)
    (reply : Reply A) (after : Actor Documents) →
    Ended (verdict_course tells (add_verdict capacity held id pages)) held reply after →
    AddTold tells capacity held id pages reply after ⊎ AddRefused tells capacity held id pages reply
add_ended {A} tells capacity held id pages reply after = grind arith

-- a fair scan that is answered took its page, or the page was held
pub scan_told : {A : Type 0} (capacity : ℕ) (p : PageView) (held : Documents) (a : Accepted) (after : Actor Documents)
    (read : Result PageView LabelFault) → OpensNear p read →
    Ended {A = A} (scan_course capacity held read) held (Scanned a) after →
    AddTold {A = A} (page_reply p) capacity held p.id (lone p) (Scanned a) after
scan_told {A} capacity p held a after read near ended = grind arith

-- one that is refused was refused for its finder patterns, or by what is held
pub scan_was_refused : {A : Type 0} (capacity : ℕ) (p : PageView) (held : Documents) (fault : ScanFault)
    (after : Actor Documents) (read : Result PageView LabelFault) → OpensNear p read →
    Ended {A = A} (scan_course capacity held read) held (ScanRefused fault) after →
    AddRefused {A = A} (page_reply p) capacity held p.id (lone p) (ScanRefused fault)
    ⊎ ((wrong : ℕ) × (fault ≡ scan_fault.Label (label_fault.Border wrong)))
scan_was_refused {A} capacity p held fault after read near ended = grind arith

-- ---- forgets

-- the verdict by what is held of the document
abbrev pub forget_by : Documents → ℕ → Option Pages → Verdict (Result (Unit {0}) ForgetFault)
forget_by held id o = if is_none o then Stays (Err forget_fault.NotHeld) else Becomes (finite.remove held id) (Ok tt)

-- ---- what is held then, page by page

pub no_page : (o : Option (List ℕ)) → IsSome o → o ≡ None → ⊥
no_page o some none = grind arith

some_by : (o p : Option (List ℕ)) → o ≡ p → IsSome p → IsSome o
some_by o p same some = subst (λ (x : Option (List ℕ)). IsSome x) (sym same) some

-- a page that is added is held, and so is every page that was, and no other
either_some : (o p : Option (List ℕ)) → IsSome (option_or o p) → IsSome o ⊎ IsSome p
either_some o p some = grind arith

first_some : (o p : Option (List ℕ)) → IsSome o → IsSome (option_or o p)
first_some o p some = grind arith

pub second_some : (o p : Option (List ℕ)) → IsSome p → IsSome (option_or o p)
second_some o p some = grind arith

away_from : (held : Documents) (id : ℕ) (pages : Pages) (other m : ℕ) → other ≢ id →
    page_at (with_pages held id pages) other m ≡ page_at held other m
away_from held id pages other m away =
    ap (λ (o : Option Pages). page (unwrap_or o []) m) (get_other held id other (pages_with held id pages) away)

pub with_pages_has : (held : Documents) (id : ℕ) (pages : Pages) (m : ℕ) → IsSome (page pages m) →
    Has (with_pages held id pages) id m
with_pages_has held id pages m some =
    some_by _ _ (page_given held id pages m) (second_some (page_at held id m) (page pages m) some)

pub with_pages_keeps : (held : Documents) (id : ℕ) (pages : Pages) (other m : ℕ) → Has held other m →
    Has (with_pages held id pages) other m
with_pages_keeps held id pages other m has = grind (arith, away_from, first_some, page_given, same_or_other, some_by)

pub with_pages_only : (held : Documents) (id : ℕ) (pages : Pages) (other m : ℕ) →
    Has (with_pages held id pages) other m → ((other ≡ id) × IsSome (page pages m)) ⊎ Has held other m
with_pages_only held id pages other m has = grind (arith, away_from, either_some, page_given, same_or_other, some_by)

-- a document that is forgotten is not held, and every other that was
pub page_none : (m : ℕ) → page [] m ≡ None
page_none m = grind arith

pub without_has_not : (held : Documents) (id m : ℕ) → ¬ Has (finite.remove held id) id m
without_has_not held id m has =
    no_page _ has (ap (λ (o : Option Pages). page (unwrap_or o []) m) (get_removed held id) ∙ page_none m)

pub without_keeps : (held : Documents) (gone id m : ℕ) → id ≢ gone → Has held id m → Has (finite.remove held gone) id m
without_keeps held gone id m away has =
    some_by _ _ (ap (λ (o : Option Pages). page (unwrap_or o []) m) (get_left held gone id away)) has

pub without_only : (held : Documents) (gone id m : ℕ) → Has (finite.remove held gone) id m →
    (id ≢ gone) × Has held id m
without_only held gone id m has = grind (arith, get_left, same_or_other, some_by, without_has_not)
