-- Each label that leaves is as it was printed.
use Rattle.std.proofs.Common.{◌≡◌, ◌+◌, ℕ, zero, suc, Some, List, [], ◌∷◌, ◌++◌, length, slice_get, take, sym, ap, subst, ◌∙◌, arith}
use Rattle.dm_size.specs.declared.size.Size.{Size}
use Rattle.dm_encodation.specs.declared.scheme.Scheme.{Scheme}
use Rattle.dm_append_label.specs.Labels.{Carries, PageView, AreParts}
use Rattle.dm_print_ledger.specs.{declared.range.Range.Range, Verdicts.least, Ledger.LedgerView, Ledger.TicketView}
use Rattle.dm_event_history.specs.declared.{event.Event.Event, reply.Reply.Reply}
use Rattle.dm_event_history.specs.declared.event.Event.TheVariants.{Print, RestartPrinter, Give, Take}
use Rattle.dm_event_history.specs.Relay.{CutDocument, Actor, Goods, Label, Relay}
use Rattle.dm_event_history.proofs.{Gotten.in_either, LedgerFacts.made_print}
use Rattle.dm_event_history.specs.Steps.{Answers, Course, Ending, LacksMemory, Saves, AreLabelsFor, GiveComes, PrintComes, TakeComes, cut_of, Acts, PrinterGoes}
use Rattle.dm_event_history.specs.Headline.{ArePrinted, EachStepPrints, IsPrinted}
use Rattle.dm_event_history.proofs.LeavingGoods.{IsClosed, Leaves, OfCourse, calls_leave, known_goods, may_lack_leaves, restarts_leave}
use Rattle.dm_event_history.proofs.QuietDesks.{ChangesDesk, IsQuiet, quiet_desks}

-- ---- lists of labels

none_printed : ArePrinted []
none_printed i label is = cc

pub both_printed : (xs ys : List Label) → ArePrinted xs → ArePrinted ys → ArePrinted (xs ++ ys)
both_printed xs ys p q i label is = grind (arith, in_either)

pub get_taken : {X : Type 0} (k : ℕ) (xs : List X) (i : ℕ) (x : X) → slice_get (take k xs) i ≡ Some x →
    slice_get xs i ≡ Some x
get_taken zero [] i x is = is
get_taken zero (y ∷ ys) i x is = cc
get_taken (suc k) [] i x is = is
get_taken (suc k) (y ∷ ys) zero x is = is
get_taken (suc k) (y ∷ ys) (suc i) x is = get_taken k ys i x is

some_printed : (k : ℕ) (xs : List Label) → ArePrinted xs → ArePrinted (take k xs)
some_printed k xs p i label is = p i label (get_taken k xs i label is)

-- the labels of a document's parts, from a place on
each_printed : (cut : CutDocument) (id k : ℕ) (parts : List (List ℕ)) (labels : List Label) →
    AreParts cut.size cut.scheme cut.bytes cut.parts →
    ((i : ℕ) → slice_get parts i ≡ slice_get cut.parts (k + i)) → AreLabelsFor cut id (k + 1) parts labels →
    ArePrinted labels
each_printed cut id k [] [] are within made i label is = cc
each_printed cut id k [] (x ∷ xs) are within made i label is = absurd made
each_printed cut id k (part ∷ parts) [] are within made i label is = absurd made
each_printed cut id k (part ∷ parts) (x ∷ xs) are within made zero label is =
    let same : x ≡ label = cc (is) in
    let place : k + 0 ≡ k = omega arith in
    let at : slice_get cut.parts k ≡ Some part =
    sym (ap (λ (j : ℕ). slice_get cut.parts j) place) ∙ sym (within 0) in
    let carries : Carries x.page x.grid =
    subst (λ (q : PageView). Carries q x.grid) (sym made.0.page_is) made.0.grid_is.carries in
    subst (λ (l : Label). IsPrinted l) same (record {
      are_parts = subst (λ (c : CutDocument). AreParts c.size c.scheme c.bytes c.parts) (sym made.0.cut_is) are;
      place = k;
      m_is = ap (λ (q : PageView). q.m) made.0.page_is;
      n_is = grind arith;
      part = grind arith;
      size_is = made.0.grid_is.size_is ∙ ap (λ (c : CutDocument). c.size) (sym made.0.cut_is);
      carries = carries;
    })
each_printed cut id k (part ∷ parts) (x ∷ xs) are within made (suc i) label is =
    each_printed cut id (k + 1) parts xs are
    (λ j. within (suc j) ∙ ap (λ (n : ℕ). slice_get cut.parts n) (let z : k + suc j ≡ (k + 1) + j = omega arith in z))
    made.1 i label is

-- what is so of goods whose labels are as they were printed
abbrev PrintedGoods : Goods → Type 0
PrintedGoods goods = ArePrinted goods.labels

closed : IsClosed PrintedGoods
closed = record { none = none_printed; cut = λ most goods p. some_printed most goods.labels p }

quiet_printed : (goods : Goods) → IsQuiet goods → ArePrinted goods.labels
quiet_printed goods q = subst ArePrinted (sym q.labels) none_printed

-- ---- call by call

print_prints : {A : Type 0} (before : ℕ) (document : List ℕ) (size : Size) (scheme : Scheme) (held : LedgerView)
    (course : Course A LedgerView) → PrintComes before document size scheme held course → OfCourse PrintedGoods course
print_prints before document size scheme held (Saves next goods reply) comes =
    let made = made_print before document size scheme held next goods reply comes in
    known_goods PrintedGoods goods _ made.left.goods_are (each_printed (cut_of document size scheme made.parts)
    (least held.free) 0 made.parts made.left.labels made.are_parts
    (λ j. ap (λ (n : ℕ). slice_get made.parts n) (let z : j ≡ 0 + j = omega arith in z)) made.left.are_labels)
print_prints before document size scheme held (Answers reply) comes = tt
print_prints before document size scheme held LacksMemory comes = tt

give_prints : {A : Type 0} (before receiver : ℕ) (range : Range) (held : LedgerView) (course : Course A LedgerView) →
    GiveComes before receiver range held course → OfCourse PrintedGoods course
give_prints before receiver range held course comes = grind arith

take_prints : {A : Type 0} (number : ℕ) (ticket : TicketView) (held : LedgerView) (course : Course A LedgerView) →
    TakeComes number ticket held course → OfCourse PrintedGoods course
take_prints number ticket held course comes = grind arith

-- ---- steps

printer_prints : {A : Type 0} (old new : Relay) (printer : ℕ) (Acts : Actor LedgerView → Ending A LedgerView → Type 0)
    (reply : Reply A) → ArePrinted old.labels → Leaves PrintedGoods Acts → PrinterGoes old printer Acts reply new →
    ArePrinted new.labels
printer_prints old new printer Acts reply p each g = grind (arith, both_printed)

desk_prints : (old new : Relay) → ArePrinted old.labels → ChangesDesk old new → ArePrinted new.labels
desk_prints old new p c = grind (arith, both_printed, quiet_printed)

acts_print : {A : Type 0} (old new : Relay) (event : Event A) (reply : Reply A) → ArePrinted old.labels →
    Acts old event reply new → ArePrinted new.labels
acts_print old new (Print printer document size scheme stop) reply p acts =
    printer_prints old new printer _ reply p
    (may_lack_leaves PrintedGoods closed _ (calls_leave PrintedGoods closed _ stop _
    (print_prints (length old.labels) document size scheme))) acts
acts_print old new (Give printer receiver range stop) reply p acts =
    printer_prints old new printer _ reply p
    (may_lack_leaves PrintedGoods closed _ (calls_leave PrintedGoods closed _ stop _
    (give_prints (length old.tickets) receiver range))) acts
acts_print old new (Take printer number stop) reply p acts =
    printer_prints old new printer _ reply p
    (calls_leave PrintedGoods closed _ stop _ (take_prints number acts.0)) acts.2
acts_print old new (RestartPrinter printer) reply p acts =
    printer_prints old new printer _ reply p (restarts_leave PrintedGoods closed _) acts
acts_print old new event reply p acts = desk_prints old new p (quiet_desks old new event reply tt acts)

pub each_step_prints : (A : Type 0) → EachStepPrints A
each_step_prints A old new event reply p step = grind (arith, acts_print)
