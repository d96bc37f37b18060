-- What a world and the relay that it shows are after one printer or one desk went on.
use Rattle.std.proofs.Common.{◌≡◌, ◌⊎◌, ◌<◌, ◌≤◌, inl, inr, ℕ, zero, suc, Some, List, [], ◌∷◌, ◌++◌, length, map, slice_get, slice_set, slice_index_or, refl, sym, ap, subst, ◌∙◌, arith}
use Rattle.std.proofs.lemmas.List.{append-nil, length-map, length-set, map-append}
use Rattle.std.proofs.lemmas.Option.{slice_get-get_or, slice_get_within}
use Rattle.dm_print_ledger.specs.Ledger.{LedgerView, TicketView}
use Rattle.dm_assembly_desk.specs.Documents.{Documents}
use Rattle.dm_event_history.specs.declared.{event.Event.Event, reply.Reply.Reply, reply.Reply.TheVariants.NoSuch}
use Rattle.dm_event_history.specs.Relay.{Actor, stored_of, Desk, Goods, Relay, with_desk, with_printer}
use Rattle.dm_event_history.specs.Steps.{Ending, DeskGoes, IsNamedThere, PrinterGoes, Step}
use Rattle.dm_event_history.proofs.Gotten.{in_either}
use Rattle.dm_event_world.specs.declared.actor.{PrinterActor.PrinterActor, DeskActor.DeskActor, DeskState.DeskState}
use Rattle.dm_event_world.specs.declared.actor.{LeftLabel.LeftLabel, LeftExport.LeftExport}
use Rattle.dm_event_world.specs.Shows.{WorldView, Shows, ShowsDesk, ShowsPrinter, left_export, left_label}
use Rattle.dm_event_world.specs.inner.{Calls.EndsSo, Calls.Left, Events.StepsEach}

-- ---- lists

-- an element that is read is there
pub read_at : {X : Type 0} (xs : List X) (i : ℕ) (x : X) → i < length xs → x ≡ slice_index_or xs i x →
    slice_get xs i ≡ Some x
read_at xs i x there is = slice_get-get_or xs i x there ∙ ap Some (sym is)

-- the same, where the elements are read elsewhere
pub read_by : {X : Type 0} (xs ys : List X) (i : ℕ) (x : X) → ys ≡ xs → x ≡ slice_index_or ys i x → i < length ys →
    slice_get xs i ≡ Some x
read_by {X} xs ys i x same is there = subst (λ (l : List X). slice_get l i ≡ Some x) same (read_at ys i x there is)

-- an element that is put back changes nothing
pub same_set : {X : Type 0} (xs : List X) (i : ℕ) (x : X) → slice_get xs i ≡ Some x → slice_set xs i x ≡ xs
same_set [] i x is = refl
same_set {X} (z ∷ zs) zero x is = (let e : x ≡ z = cc in ap (λ (u : X). u ∷ zs) e)
same_set (z ∷ zs) (suc i) x is = ap (λ l. z ∷ l) (same_set zs i x is)

-- what is at a place of a list has something at that place of one as long
pub at_place : {X Y : Type 0} (xs : List X) (ys : List Y) (i : ℕ) (x : X) → length xs ≡ length ys →
    slice_get xs i ≡ Some x → (y : Y) × (slice_get ys i ≡ Some y)
at_place [] ys i x same is = cc
at_place (z ∷ zs) [] i x same is = cc
at_place (z ∷ zs) (w ∷ ws) zero x same is = (w, refl)
at_place (z ∷ zs) (w ∷ ws) (suc i) x same is = at_place zs ws i x (cc (same)) is

both_set : {X Y : Type 0} (xs : List X) (ys : List Y) (i j : ℕ) (x a : X) (y b : Y) →
    slice_get (slice_set xs i x) j ≡ Some a → slice_get (slice_set ys i y) j ≡ Some b →
    ((i ≡ j) × (x ≡ a) × (y ≡ b)) ⊎ ((slice_get xs j ≡ Some a) × (slice_get ys j ≡ Some b))
both_set [] ys i j x a y b is other = cc
both_set (z ∷ zs) [] i j x a y b is other = cc
both_set (z ∷ zs) (w ∷ ws) zero zero x a y b is other = inl (refl, cc (is), cc (other))
both_set (z ∷ zs) (w ∷ ws) zero (suc j) x a y b is other = inr (is, other)
both_set (z ∷ zs) (w ∷ ws) (suc i) zero x a y b is other = inr (is, other)
both_set (z ∷ zs) (w ∷ ws) (suc i) (suc j) x a y b is other = elim (both_set zs ws i j x a y b is other) [
  | inl here ↦ inl (ap suc here.0, here.1, here.2)
  | inr there ↦ inr there
]

-- ---- goods

stay : {X : Type 0} (xs ys : List X) → [] ≡ ys → xs ≡ xs ++ ys
stay {X} xs ys none = sym (append-nil xs) ∙ ap (λ (l : List X). xs ++ l) none

-- goods of one kind, or of none, leave a world
pub left_labels_alone : {A : Type 0} (labels all_labels : List (LeftLabel A)) (tickets : List TicketView)
    (exports : List (LeftExport A)) (goods : Goods) → Left labels [] [] goods all_labels [] [] →
    Left labels tickets exports goods all_labels tickets exports
left_labels_alone {A} labels all_labels tickets exports goods left = record {
  labels_are = left.labels_are;
  tickets_are = stay tickets goods.tickets left.tickets_are;
  exports_are = stay exports (map left_export goods.exports) left.exports_are;
  entries = left.entries;
}

pub left_tickets_alone : {A : Type 0} (labels : List (LeftLabel A)) (tickets all_tickets : List TicketView)
    (exports : List (LeftExport A)) (goods : Goods) → Left {A = A} [] tickets [] goods [] all_tickets [] →
    Left labels tickets exports goods labels all_tickets exports
left_tickets_alone {A} labels tickets all_tickets exports goods left = record {
  labels_are = stay labels (map left_label goods.labels) left.labels_are;
  tickets_are = left.tickets_are;
  exports_are = stay exports (map left_export goods.exports) left.exports_are;
  entries = left.entries;
}

pub left_exports_alone : {A : Type 0} (labels : List (LeftLabel A)) (tickets : List TicketView)
    (exports all_exports : List (LeftExport A)) (goods : Goods) → Left {A = A} [] [] exports goods [] [] all_exports →
    Left labels tickets exports goods labels tickets all_exports
left_exports_alone {A} labels tickets exports all_exports goods left = record {
  labels_are = stay labels (map left_label goods.labels) left.labels_are;
  tickets_are = stay tickets goods.tickets left.tickets_are;
  exports_are = left.exports_are;
  entries = left.entries;
}

pub left_none : {A : Type 0} (labels : List (LeftLabel A)) (tickets : List TicketView) (exports : List (LeftExport A))
    (goods : Goods) → Left {A = A} [] [] [] goods [] [] [] → Left labels tickets exports goods labels tickets exports
left_none {A} labels tickets exports goods left = record {
  labels_are = stay labels (map left_label goods.labels) left.labels_are;
  tickets_are = stay tickets goods.tickets left.tickets_are;
  exports_are = stay exports (map left_export goods.exports) left.exports_are;
  entries = left.entries;
}

-- ---- worlds

-- the printers, the desks and what left, as they are seen
abbrev pub world_of : {A : Type 0} → List (PrinterActor A) → List (DeskActor A) → List (LeftLabel A) → List TicketView →
    List (LeftExport A) → WorldView A
world_of printers desks labels tickets exports =
    record { printers = printers; desks = desks; labels = labels; tickets = tickets; exports = exports }

-- what is named is not there
pub names_none : {A : Type 0} (old seen : WorldView A) (event : Event A) → old ≡ seen →
    ((relay : Relay) → Shows old relay → IsNamedThere relay event → ⊥) → StepsEach seen event NoSuch seen
names_none {A} old seen event is none = grind arith

pub names_none_still : {A : Type 0} (old seen : WorldView A) (event : Event A) → old ≡ seen →
    ((relay : Relay) → Shows old relay → IsNamedThere relay event → ⊥) → StepsEach seen event NoSuch old
names_none_still {A} old seen event is none = grind arith

pub no_printer : {A : Type 0} (old : WorldView A) (relay : Relay) (p : ℕ) → (p < length old.printers → ⊥) →
    Shows old relay → p < length relay.printers → ⊥
no_printer old relay p none s there = none (subst (λ (n : ℕ). p < n) (sym s.printer_count) there)

pub no_desk : {A : Type 0} (old : WorldView A) (relay : Relay) (d : ℕ) → (d < length old.desks → ⊥) →
    Shows old relay → d < length relay.desks → ⊥
no_desk old relay d none s there = none (subst (λ (n : ℕ). d < n) (sym s.desk_count) there)

-- there is nothing past the end of a list, nor of one that is mapped from it
pub past_end : {X : Type 0} (xs ys : List X) (i : ℕ) → xs ≡ ys → length xs ≤ i → i < length ys → ⊥
past_end {X} xs ys i same past there = grind arith

pub past_map : {X Y : Type 0} (f : Y → X) (xs : List X) (ys : List Y) (i : ℕ) → xs ≡ map f ys → length xs ≤ i →
    i < length ys → ⊥
past_map {X} f xs ys i same past there =
    let here = ap (λ (l : List X). length l) same ∙ length-map ys f in absurd (omega arith)

pub label_count : {A : Type 0} (old : WorldView A) (relay : Relay) → Shows old relay →
    length old.labels ≡ length relay.labels
label_count {A} old relay s =
    ap (λ (ls : List (LeftLabel A)). length ls) s.labels ∙ length-map relay.labels (left_label {A = A})

pub export_count : {A : Type 0} (old : WorldView A) (relay : Relay) → Shows old relay →
    length old.exports ≡ length relay.exports
export_count {A} old relay s =
    ap (λ (es : List (LeftExport A)). length es) s.exports ∙ length-map relay.exports (left_export {A = A})

-- ---- a printer goes on

pub printer_steps : {A : Type 0} (old : WorldView A) (labels : List (LeftLabel A)) (tickets : List TicketView)
    (seen : WorldView A) (event : Event A) (reply : Reply A) (printer : ℕ) (actor after : PrinterActor A)
    (Acts : Actor LedgerView → Ending A LedgerView → Type 0) → old ≡ seen →
    slice_get old.printers printer ≡ Some actor →
    ((shown : Actor LedgerView) → (stored_of shown).number ≡ printer → ShowsPrinter actor shown →
    EndsSo ShowsPrinter Acts (λ goods. Left old.labels old.tickets old.exports goods labels tickets old.exports)
    shown reply after) →
    ((relay next : Relay) → Shows old relay → printer < length relay.printers →
    PrinterGoes relay printer Acts reply next → Step relay event reply next) →
    StepsEach seen event reply (world_of (slice_set old.printers printer after) old.desks labels tickets old.exports)
printer_steps {A} old labels tickets seen event reply printer actor after Acts is was goes stepped =
    subst (λ (w : WorldView A). StepsEach w event reply
    (world_of (slice_set old.printers printer after) old.desks labels tickets old.exports)) is so
  where
    so : StepsEach old event reply
        (world_of (slice_set old.printers printer after) old.desks labels tickets old.exports)
    so relay order s = record {
      next = with_printer relay printer e.end.actor e.end.goods;
      step = stepped relay (with_printer relay printer e.end.actor e.end.goods) s
          (slice_get_within relay.printers printer here.0 here.1)
          (record {
            actor = here.0;
            was = here.1;
            end = e.end;
            acts = e.acts;
            reply_is = e.reply_is;
            new_is = refl;
          });
      shows = record {
        printer_count = length-set old.printers printer after ∙ s.printer_count ∙
            sym (length-set relay.printers printer e.end.actor);
        printers = at_printer;
        desk_count = s.desk_count;
        desks = s.desks;
        labels = e.lets.labels_are ∙ ap (λ (ls : List (LeftLabel A)). ls ++ map left_label e.end.goods.labels) s.labels ∙
            sym (map-append left_label relay.labels e.end.goods.labels);
        tickets = e.lets.tickets_are ∙ ap (λ (ts : List TicketView). ts ++ e.end.goods.tickets) s.tickets;
        exports = e.lets.exports_are ∙
            ap (λ (es : List (LeftExport A)). es ++ map left_export e.end.goods.exports) s.exports ∙
            sym (map-append left_export relay.exports e.end.goods.exports);
        entries = λ n export at. elim (in_either relay.exports e.end.goods.exports n export at) [
          | inl first ↦ s.entries n export first
          | inr later ↦ e.lets.entries later.0 export later.2
        ];
      };
    }
      where
        here : (shown : Actor LedgerView) × (slice_get relay.printers printer ≡ Some shown)
        here = at_place old.printers relay.printers printer actor s.printer_count was

        e : EndsSo ShowsPrinter Acts (λ goods. Left old.labels old.tickets old.exports goods labels tickets old.exports)
            here.0 reply after
        e = goes here.0 (order.numbers printer here.0 here.1) (s.printers printer actor here.0 was here.1)

        at_printer : (p : ℕ) (a : PrinterActor A) (b : Actor LedgerView) →
            slice_get (slice_set old.printers printer after) p ≡ Some a →
            slice_get (slice_set relay.printers printer e.end.actor) p ≡ Some b → ShowsPrinter a b
        at_printer p a b at other =
            elim (both_set old.printers relay.printers printer p after a e.end.actor b at other) [
              | inl own ↦ subst (λ (x : PrinterActor A). ShowsPrinter x b) own.1
                  (subst (λ (y : Actor LedgerView). ShowsPrinter after y) own.2 e.shows)
              | inr there ↦ s.printers p a b there.0 there.1
            ]

-- ---- a desk goes on

pub desk_steps : {A : Type 0} (old : WorldView A) (exports : List (LeftExport A))
    (seen : WorldView A) (event : Event A) (reply : Reply A) (number : ℕ) (actor : DeskActor A) (after : DeskState A)
    (Acts : (relay : Relay) → Shows old relay → ℕ → Actor Documents → Ending A Documents → Type 0) → old ≡ seen →
    slice_get old.desks number ≡ Some actor →
    ((relay : Relay) → (s : Shows old relay) → (capacity : ℕ) → capacity ≡ actor.capacity → (shown : Actor Documents) →
    ShowsDesk capacity actor.state shown →
    EndsSo (ShowsDesk capacity) (Acts relay s capacity)
    (λ goods. Left old.labels old.tickets old.exports goods old.labels old.tickets exports) shown reply after) →
    ((relay next : Relay) → (s : Shows old relay) → number < length relay.desks →
    DeskGoes relay number (Acts relay s) reply next → Step relay event reply next) →
    StepsEach seen event reply (world_of old.printers
    (slice_set old.desks number (record { capacity = actor.capacity; state = after })) old.labels old.tickets exports)
desk_steps {A} old exports seen event reply number actor after Acts is was goes stepped =
    subst (λ (w : WorldView A). StepsEach w event reply (world_of old.printers
    (slice_set old.desks number (record { capacity = actor.capacity; state = after })) old.labels old.tickets exports))
    is so
  where
    so : StepsEach old event reply (world_of old.printers
        (slice_set old.desks number (record { capacity = actor.capacity; state = after })) old.labels old.tickets exports)
    so relay order s = record {
      next = with_desk relay number mine e.end.goods;
      step = stepped relay (with_desk relay number mine e.end.goods) s
          (slice_get_within relay.desks number here.0 here.1)
          (record {
            desk = here.0;
            was = here.1;
            end = e.end;
            acts = e.acts;
            reply_is = e.reply_is;
            new_is = refl;
          });
      shows = record {
        printer_count = s.printer_count;
        printers = s.printers;
        desk_count = length-set old.desks number (record { capacity = actor.capacity; state = after }) ∙ s.desk_count ∙
            sym (length-set relay.desks number mine);
        desks = at_desk;
        labels = e.lets.labels_are ∙ ap (λ (ls : List (LeftLabel A)). ls ++ map left_label e.end.goods.labels) s.labels ∙
            sym (map-append left_label relay.labels e.end.goods.labels);
        tickets = e.lets.tickets_are ∙ ap (λ (ts : List TicketView). ts ++ e.end.goods.tickets) s.tickets;
        exports = e.lets.exports_are ∙
            ap (λ (es : List (LeftExport A)). es ++ map left_export e.end.goods.exports) s.exports ∙
            sym (map-append left_export relay.exports e.end.goods.exports);
        entries = λ n export at. elim (in_either relay.exports e.end.goods.exports n export at) [
          | inl first ↦ s.entries n export first
          | inr later ↦ e.lets.entries later.0 export later.2
        ];
      };
    }
      where
        here : (desk : Desk) × (slice_get relay.desks number ≡ Some desk)
        here = at_place old.desks relay.desks number actor s.desk_count was

        fits : (actor.capacity ≡ here.0.capacity) × ShowsDesk here.0.capacity actor.state here.0.actor
        fits = s.desks number actor here.0 was here.1

        e : EndsSo (ShowsDesk here.0.capacity) (Acts relay s here.0.capacity)
            (λ goods. Left old.labels old.tickets old.exports goods old.labels old.tickets exports)
            here.0.actor reply after
        e = goes relay s here.0.capacity (sym fits.0) here.0.actor fits.1

        mine : Desk
        mine = record { capacity = here.0.capacity; actor = e.end.actor }

        at_desk : (d : ℕ) (a : DeskActor A) (b : Desk) →
            slice_get (slice_set old.desks number (record { capacity = actor.capacity; state = after })) d ≡ Some a →
            slice_get (slice_set relay.desks number mine) d ≡ Some b →
            (a.capacity ≡ b.capacity) × ShowsDesk b.capacity a.state b.actor
        at_desk d a b at other =
            elim (both_set old.desks relay.desks number d (record { capacity = actor.capacity; state = after }) a mine b
            at other) [
              | inl own ↦ subst (λ (x : DeskActor A). (x.capacity ≡ b.capacity) × ShowsDesk b.capacity x.state b.actor) own.1
                  (subst (λ (y : Desk). (actor.capacity ≡ y.capacity) × ShowsDesk y.capacity after y.actor) own.2 (fits.0, e.shows))
              | inr there ↦ s.desks d a b there.0 there.1
            ]
