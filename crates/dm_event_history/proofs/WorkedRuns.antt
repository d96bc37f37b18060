-- The worked runs, step by step.
use Rattle.std.proofs.Common.{◌&&◌, ◌==◌, ◌≡◌, ◌⊎◌, slice_get, inl, inr, ℕ, Some, None, Option, Result, List, [], ◌∷◌, Ok, Err, refl, sym, ap, subst, ◌∙◌, arith, cond, not, nat_le}
use Rattle.std.specs.Prelude.{◌<◌, unwrap_or, if◌then◌else◌, is_none}
use Rattle.std.specs.FinMap as finite
use Rattle.std.specs.{FinMap.get-empty, FinMap.len-empty, Ordering.nat_cmp}
use Rattle.dm_size.specs.declared.size.Size.TheVariants.{Side12}
use Rattle.dm_encodation.specs.declared.scheme.Scheme.TheVariants.{Ascii}
use Rattle.dm_symbol.specs.Correction.{CarriesItsWords}
use Rattle.dm_append_label.specs.Labels.{PageView}
use Rattle.dm_print_ledger.specs.{declared.giver.Giver.Giver, Ledger.LedgerView, Ledger.TicketView, Verdicts.opening}
use Rattle.dm_print_ledger.specs.declared.fault.TakeFault.TheVariants as take_fault
use Rattle.dm_assembly_desk.specs.declared.adding.AddFault.TheVariants as adds
use Rattle.dm_assembly_desk.specs.declared.reply.Kind.{TheVariants.New, TheVariants.Again, TheVariants.Complete, Kind}
use Rattle.dm_assembly_desk.specs.declared.fault.AskFault.TheVariants as ask_fault
use Rattle.dm_assembly_desk.specs.Documents.{Pages, Documents, union_of_pages, may_join, added_mask}
use Rattle.dm_assembly_desk.specs.declared.{adding.AddFault.AddFault, reply.Accepted.Accepted}
use Rattle.dm_assembly_desk.specs.Desk.{lone, add_kind, pages_with, verdict_by, with_pages, kind_of, Asks}
use Rattle.dm_event_history.specs.declared.reply.Reply.TheVariants.{Printed, Scanned, Document, AskRefused, Given, Taken, TakeRefused, Restarted, Stopped, PrinterRefused}
use Rattle.dm_event_history.specs.declared.reply.Reply.TheVariants as replies
use Rattle.dm_event_history.specs.Worked.{digits, first_ticket, range, AreRuns, gathered, range_moved, one_printer, scan, stopped, two_printers}
use Rattle.dm_event_history.proofs.HeldDocuments.{get_same}
use Rattle.dm_event_history.specs.Relay.{Running, Down, Desk, Goods, Label, Relay, Took, no_goods, with_desk, with_printer}
use Rattle.dm_event_history.specs.Steps.{Answers, Calls, Course, LacksMemory, Saves, cut_off, ending, ends, GiveComes, PrintComes, TakeComes, take_faults, ScanComes, scan_faults, verdict_course, page_reply, HasModules, PrinterGoes, Step, MaySay}
use Rattle.std.proofs.lemmas.Option.{slice_get_within}
use Rattle.dm_event_history.specs.declared.reply.Reply.{Reply}
use Rattle.dm_store.specs.declared.fuse.Kept.TheVariants.{Old}
use Rattle.dm_event_history.specs.declared.stop.Stop.TheVariants as stops
use Rattle.dm_event_history.proofs.WorkedLabels.{first_are, first_are_1, first_are_5, first_page, first_words, first_words_1, first_words_5, opens, second_are, second_are_1, second_are_5, second_page, second_words, second_words_1, second_words_5}
use Rattle.dm_event_history.proofs.WorkedSteps.{both_labels, desk_goes, label, ledger, printer_goes, saves_print}

-- ---- one step after another

-- the next relay, a step to it by what is named, and the rest from there
step_to : {Named : Type 0} {Goes None Rest : Relay → Type 0} (next : Relay) → Named → Goes next → Rest next →
    (relay : Relay) × ((Named × Goes relay) ⊎ None relay) × Rest relay
step_to next named goes rest = (next, inl (named, goes), rest)

step_so : {Goes Rest : Relay → Type 0} (next : Relay) → Goes next → Rest next →
    (relay : Relay) × Goes relay × Rest relay
step_so next goes rest = (next, goes, rest)

-- ---- prints that are stopped

abbrev fresh : LedgerView
fresh = opening 0 (range 0 9)

abbrev used_once : LedgerView
used_once = ledger 0 0 (range 1 9) []

abbrev used_twice : LedgerView
used_twice = ledger 0 0 (range 2 9) []

abbrev labels_0 : Goods
labels_0 = both_labels 0 first_words second_words

abbrev labels_1 : Goods
labels_1 = both_labels 1 first_words_1 second_words_1

print_0 : {A : Type 0} (before : ℕ) →
    PrintComes {A = A} before digits Side12 Ascii fresh (Saves used_once labels_0 (Printed 0 before 2))
print_0 before = saves_print before fresh used_once first_words second_words refl refl first_are second_are

print_1 : {A : Type 0} (before : ℕ) →
    PrintComes {A = A} before digits Side12 Ascii used_once (Saves used_twice labels_1 (Printed 1 before 2))
print_1 before = saves_print before used_once used_twice first_words_1 second_words_1 refl refl first_are_1 second_are_1

abbrev cut_short : Relay
cut_short = with_printer one_printer 0 (Down used_once) (cut_off 0 labels_0)

abbrev still_down : Relay
still_down = with_printer cut_short 0 (Down used_once) no_goods

abbrev up_again : Relay
up_again = with_printer still_down 0 (Running used_once) no_goods

pub after_is : (A : Type 0) → MaySay one_printer (stopped {A = A} (stops.AfterLabels 0) 1)
after_is A =
    step_to cut_short (omega arith)
    (printer_goes one_printer 0 _ (Running fresh) (ending Stopped (Down used_once) (cut_off 0 labels_0)) refl
    (inr (Saves used_once labels_0 (Printed 0 0 2), print_0 0, refl)))
    (step_to still_down (omega arith)
    (printer_goes cut_short 0 _ (Down used_once) (ending replies.Down (Down used_once) no_goods) refl refl)
    (step_to up_again (omega arith)
    (printer_goes still_down 0 _ (Down used_once) (ending Restarted (Running used_once) no_goods) refl (inl refl))
    (step_to (with_printer up_again 0 (Running used_twice) labels_1) (omega arith)
    (printer_goes up_again 0 _ (Running used_once) (ending (Printed 1 0 2) (Running used_twice) labels_1) refl
    (inr (Saves used_twice labels_1 (Printed 1 0 2), print_1 0, refl))) tt)))

abbrev cut_before : Relay
cut_before = with_printer one_printer 0 (Down fresh) no_goods

abbrev down_before : Relay
down_before = with_printer cut_before 0 (Down fresh) no_goods

abbrev up_as_before : Relay
up_as_before = with_printer down_before 0 (Running fresh) no_goods

pub before_is : (A : Type 0) → MaySay one_printer (stopped {A = A} (stops.InSave Old) 0)
before_is A =
    step_to cut_before (omega arith)
    (printer_goes one_printer 0 _ (Running fresh) (ending Stopped (Down fresh) no_goods) refl
    (inr (LacksMemory, tt, refl)))
    (step_to down_before (omega arith)
    (printer_goes cut_before 0 _ (Down fresh) (ending replies.Down (Down fresh) no_goods) refl refl)
    (step_to up_as_before (omega arith)
    (printer_goes down_before 0 _ (Down fresh) (ending Restarted (Running fresh) no_goods) refl (inl refl))
    (step_to (with_printer up_as_before 0 (Running used_once) labels_0) (omega arith)
    (printer_goes up_as_before 0 _ (Running fresh) (ending (Printed 0 0 2) (Running used_once) labels_0) refl
    (inr (Saves used_once labels_0 (Printed 0 0 2), print_0 0, refl))) tt)))

-- ---- ranges that move

abbrev given_once : LedgerView
given_once = ledger 0 1 (range 0 4) []

abbrev given_twice : LedgerView
given_twice = ledger 0 2 (range 2 4) []

abbrev other_fresh : LedgerView
other_fresh = opening 1 (range 10 19)

abbrev noted : List Giver
noted = record { number = 0; serial = 0 } ∷ []

abbrev taken : LedgerView
taken = ledger 1 0 (range 5 19) noted

abbrev taken_used : LedgerView
taken_used = ledger 1 0 (range 6 19) noted

abbrev a_ticket : TicketView → Goods
a_ticket ticket = record { labels = []; tickets = ticket ∷ []; exports = []; moves = [] }

abbrev second_ticket : TicketView
second_ticket = record { giver = 0; serial = 1; receiver = 1; range = range 0 1 }

abbrev took_first : Goods
took_first = record { labels = []; tickets = []; exports = []; moves = Took 0 ∷ [] }

abbrev labels_5 : Goods
labels_5 = both_labels 5 first_words_5 second_words_5

gives_first : {A : Type 0} (before : ℕ) →
    GiveComes {A = A} before 1 (range 5 9) fresh (Saves given_once (a_ticket first_ticket) (Given before first_ticket))
gives_first before = (refl, (refl, (refl, refl)))

gives_second : {A : Type 0} (before : ℕ) →
    GiveComes {A = A} before 1 (range 0 1) given_once
    (Saves given_twice (a_ticket second_ticket) (Given before second_ticket))
gives_second before = (refl, (refl, (refl, refl)))

takes_first : {A : Type 0} → TakeComes {A = A} 0 first_ticket other_fresh (Saves taken took_first Taken)
takes_first = (refl, refl, (refl, (refl, refl)))

print_5 : {A : Type 0} (before : ℕ) →
    PrintComes {A = A} before digits Side12 Ascii taken (Saves taken_used labels_5 (Printed 5 before 2))
print_5 before = saves_print before taken taken_used first_words_5 second_words_5 refl refl first_are_5 second_are_5

abbrev given : Relay
given = with_printer two_printers 0 (Running given_once) (a_ticket first_ticket)

abbrev received : Relay
received = with_printer given 1 (Running taken) took_first

abbrev refused : Relay
refused = with_printer received 1 (Running taken) no_goods

abbrev printed : Relay
printed = with_printer refused 1 (Running taken_used) labels_5

abbrev lost_one : Relay
lost_one = with_printer printed 0 (Down given_twice) (cut_off 0 (a_ticket second_ticket))

abbrev restarted : Relay
restarted = with_printer lost_one 0 (Running given_twice) no_goods

taken_first : {A : Type 0} →
    PrinterGoes {A = A} given 1 (Calls take_faults stops.None (TakeComes 0 first_ticket)) Taken received
taken_first = printer_goes given 1 _ (Running other_fresh) (ending Taken (Running taken) took_first) refl
    (Saves taken took_first Taken, takes_first, refl)

taken_again : {A : Type 0} → PrinterGoes {A = A} received 1 (Calls take_faults stops.None (TakeComes 0 first_ticket))
    (TakeRefused take_fault.Old) refused
taken_again =
    printer_goes received 1 _ (Running taken) (ending (TakeRefused take_fault.Old) (Running taken) no_goods) refl
    (Answers (TakeRefused take_fault.Old), (refl, refl, (take_fault.Old, refl, refl)), refl)

pub moved_is : (A : Type 0) → MaySay two_printers (range_moved A)
moved_is A =
    step_to given (omega arith)
    (printer_goes two_printers 0 _ (Running fresh)
    (ending (Given 0 first_ticket) (Running given_once) (a_ticket first_ticket)) refl
    (inr (Saves given_once (a_ticket first_ticket) (Given 0 first_ticket), gives_first 0, refl)))
    (step_to received (omega arith, omega arith) (first_ticket, refl, taken_first)
    (step_to refused (omega arith, omega arith) (first_ticket, refl, taken_again)
    (step_to printed (omega arith)
    (printer_goes refused 1 _ (Running taken) (ending (Printed 5 0 2) (Running taken_used) labels_5) refl
    (inr (Saves taken_used labels_5 (Printed 5 0 2), print_5 0, refl)))
    (step_to lost_one (omega arith)
    (printer_goes printed 0 _ (Running given_once)
    (ending Stopped (Down given_twice) (cut_off 0 (a_ticket second_ticket))) refl
    (inr (Saves given_twice (a_ticket second_ticket) (Given 1 second_ticket), gives_second 1, refl)))
    (step_to restarted (omega arith)
    (printer_goes lost_one 0 _ (Down given_twice) (ending Restarted (Running given_twice) no_goods) refl (inl refl))
    (step_so restarted (inr ((λ named. let past : 1 < 1 = named.1 in omega arith), refl, refl)) tt))))))

-- ---- a document that is gathered

abbrev none_held : Documents
none_held = finite.empty

abbrev half_held : Documents
half_held = with_pages none_held 0 (lone (second_page 0))

abbrev all_held : Documents
all_held = with_pages half_held 0 (lone (first_page 0))

none_at : (id : ℕ) → finite.get none_held id ≡ None
none_at id = get-empty nat_cmp id

half_at : finite.get half_held 0 ≡ Some (None ∷ Some (51 ∷ 52 ∷ []) ∷ [])
half_at = get_same none_held 0 (pages_with none_held 0 (lone (second_page 0))) ∙
    ap (λ (o : Option Pages). Some (union_of_pages (unwrap_or o []) (lone (second_page 0)))) (none_at 0)

all_at : finite.get all_held 0 ≡ Some (Some (49 ∷ 50 ∷ []) ∷ Some (51 ∷ 52 ∷ []) ∷ [])
all_at = get_same half_held 0 (pages_with half_held 0 (lone (first_page 0))) ∙
    ap (λ (o : Option Pages). Some (union_of_pages (unwrap_or o []) (lone (first_page 0)))) half_at

abbrev kind_by : Documents → ℕ → Pages → Option Pages → Result Kind AddFault
kind_by held capacity given o =
    if not (may_join o given) then Err adds.Conflict else
    if added_mask (unwrap_or o []) given == 0 then Ok Again else
    if is_none o && nat_le capacity (finite.len held) then Err adds.Full else
    Ok (kind_of (union_of_pages (unwrap_or o []) given))

is_new : add_kind 4 none_held 0 (lone (second_page 0)) ≡ Ok New
is_new = ap (λ (o : Option Pages). kind_by none_held 4 (lone (second_page 0)) o) (none_at 0) ∙
    ap (λ (n : ℕ). cond (nat_le 4 n) (Err adds.Full) (Ok New)) (len-empty nat_cmp Pages)

is_again : add_kind 4 half_held 0 (lone (second_page 0)) ≡ Ok Again
is_again = ap (λ (o : Option Pages). kind_by half_held 4 (lone (second_page 0)) o) half_at

is_complete : add_kind 4 half_held 0 (lone (first_page 0)) ≡ Ok Complete
is_complete = ap (λ (o : Option Pages). kind_by half_held 4 (lone (first_page 0)) o) half_at

abbrev accepted : PageView → Kind → Accepted
accepted page kind = record { id = page.id; m = page.m; n = page.n; kind = kind }

abbrev desk_with : Documents → Desk
desk_with held = record { capacity = 4; actor = Running held }

abbrev desk_goes_on : Relay → Documents → Relay
desk_goes_on relay held = with_desk relay 0 (desk_with held) no_goods

abbrev labelled : Relay
labelled = with_printer one_printer 0 (Running used_once) labels_0

abbrev scanned : Relay
scanned = desk_goes_on labelled half_held

abbrev scanned_again : Relay
scanned_again = desk_goes_on scanned half_held

abbrev whole : Relay
whole = desk_goes_on scanned_again all_held

abbrev asked : Relay
asked = desk_goes_on whole all_held

abbrev asked_other : Relay
asked_other = with_desk asked 1 (desk_with none_held) no_goods

not_held : Asks {X = List ℕ} (λ given. given) (finite.get none_held 0) (Err ask_fault.NotHeld)
not_held =
    subst (λ (o : Option Pages). Asks {X = List ℕ} (λ given. given) o (Err ask_fault.NotHeld)) (sym (none_at 0)) refl

-- a scan of a label as it left, by what it comes to
scan_step : {A : Type 0} (old : Relay) (number : ℕ) (own : Label) (held next : Documents) (course : Course A Documents)
    (reply : Reply A) → slice_get old.labels number ≡ Some own → slice_get old.desks 0 ≡ Some (desk_with held) →
    ScanComes 4 own.grid held course →
    ending reply (Running next) no_goods ≡ ends scan_faults stops.None course (Running held) →
    Step old (scan number) reply (desk_goes_on old next)
scan_step {A} old number own held next course reply there here comes is =
    let goes = desk_goes old 0 _ (desk_with held) (ending reply (Running next) no_goods) here (inr (course, comes, is))
    in
    let modules : HasModules old number [] = (own, there, (λ k flip below. absurd (omega (arith, below)))) in
    inl ((slice_get_within old.desks 0 (desk_with held) here, modules), (own, there, goes))

pub gathered_is : (A : Type 0) → CarriesItsWords Side12 → MaySay one_printer (gathered A)
gathered_is A law =
    let By : Documents → PageView → Result Kind AddFault → Course A Documents = λ held page judged.
    verdict_course (page_reply page) (verdict_by held page.id (lone page) judged) in
    let first = opens (first_page 0) first_words first_are law (omega arith) in
    let second = opens (second_page 0) second_words second_are law (omega arith) in
    step_to labelled (omega arith)
    (printer_goes one_printer 0 _ (Running fresh) (ending (Printed 0 0 2) (Running used_once) labels_0) refl
    (inr (Saves used_once labels_0 (Printed 0 0 2), print_0 0, refl)))
    (step_so scanned (scan_step labelled 1 (label (second_page 0) second_words) none_held half_held
    (Saves half_held no_goods (Scanned (accepted (second_page 0) New))) _ refl refl
    (Ok (second_page 0), second, inl (sym (ap (By none_held (second_page 0)) is_new))) refl)
    (step_so scanned_again (scan_step scanned 1 (label (second_page 0) second_words) half_held half_held
    (Answers (Scanned (accepted (second_page 0) Again))) _ refl refl
    (Ok (second_page 0), second, inl (sym (ap (By half_held (second_page 0)) is_again))) refl)
    (step_so whole (scan_step scanned_again 0 (label (first_page 0) first_words) half_held all_held
    (Saves all_held no_goods (Scanned (accepted (first_page 0) Complete))) _ refl refl
    (Ok (first_page 0), first, inl (sym (ap (By half_held (first_page 0)) is_complete))) refl)
    (step_to asked (omega arith)
    (desk_goes whole 0 _ (desk_with all_held) (ending (Document digits) (Running all_held) no_goods) refl
    ((Ok digits, subst (λ (o : Option Pages). Asks (λ given. given) o (Ok digits)) (sym all_at) refl, refl, refl), refl))
    (step_to asked_other (omega arith)
    (desk_goes asked 1 _ (desk_with none_held) (ending (AskRefused ask_fault.NotHeld) (Running none_held) no_goods) refl
    ((Err ask_fault.NotHeld, not_held, refl, refl), refl)) tt)))))

pub are_runs : (A : Type 0) → CarriesItsWords Side12 → AreRuns A
are_runs A law = grind (arith, after_is, before_is, gathered_is, moved_is)
