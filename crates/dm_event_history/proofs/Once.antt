-- No label leaves twice, and labels of one ID are cut from one document.
use Rattle.std.proofs.Common.{◌≡◌, ◌⊎◌, ◌+◌, ◌≤◌, inl, inr, ℕ, zero, suc, true, ◌==◌, Some, List, [], ◌∷◌, ◌++◌, length, slice_get, refl, sym, ap, subst, arith, eq-eqb}
use Rattle.dm_size.specs.declared.size.Size.{Size}
use Rattle.dm_encodation.specs.declared.scheme.Scheme.{Scheme}
use Rattle.dm_print_ledger.specs.{declared.range.Range.Range, Verdicts.least}
use Rattle.dm_print_ledger.specs.Ledger.{is_free, LedgerView, TicketView}
use Rattle.dm_event_history.specs.declared.{event.Event.Event, reply.Reply.Reply, stop.Stop.Stop}
use Rattle.dm_event_history.specs.declared.event.Event.TheVariants.{Print, RestartPrinter, Give, Take}
use Rattle.dm_event_history.specs.Relay.{CutDocument, Actor, Running, Failed, Down, stored_of, Goods, Label, Move, Relay}
use Rattle.dm_event_history.proofs.{Gotten.in_either, LedgerFacts.made_print, Reaching.reached, Reaching.reaches}
use Rattle.dm_event_history.specs.Steps.{Answers, Calls, Course, Ending, LacksMemory, MayLackFirst, Saves, AreLabelsFor, GiveComes, PrintComes, TakeComes, cut_of, print_faults, Acts, PrinterGoes}
use Rattle.dm_event_history.specs.Headline.{AreOfOneDocument, AreOnce, EachStepIsSound, RelayIsSound, gone, one_if}
use Rattle.dm_event_history.proofs.LeavingGoods.{IsClosed, OfCourse, as_known, calls_leave, ends_leave, known_goods, may_lack_leaves, restarts_leave}
use Rattle.dm_event_history.proofs.QuietDesks.{ChangesDesk, quiet_desks, take_none}
use Rattle.dm_event_history.proofs.{Numbers.free_some, Numbers.gone_more, Printed.get_taken}
use Rattle.dm_event_history.proofs.KeepsNumbers.{each_step_keeps_numbers}

-- ---- the labels of a print

-- a label of this document under this ID, at its place
pub record IsOfBatch (id : ℕ) (cut : CutDocument) (i : ℕ) (label : Label) : Type 0 where
  pub id_is : label.page.id ≡ id
  pub cut_is : label.cut ≡ cut
  pub m_is : label.page.m ≡ i + 1

-- the labels leave under an ID that was free, and is used
pub record IsBatch (held : LedgerView) (goods : Goods) : Type 0 where
  pub id : ℕ
  pub cut : CutDocument
  pub free : is_free held.free id ≡ true
  pub each : (i : ℕ) (label : Label) → slice_get goods.labels i ≡ Some label → IsOfBatch id cut i label
  pub used : 1 ≤ gone goods.moves id

abbrev pub MayBeBatch : LedgerView → Goods → Type 0
MayBeBatch held goods = (goods.labels ≡ []) ⊎ IsBatch held goods

batch_closed : (held : LedgerView) → IsClosed (MayBeBatch held)
batch_closed held = grind (arith, get_taken, gone_more, take_none)

each_of_batch : (cut : CutDocument) (id k : ℕ) (parts : List (List ℕ)) (labels : List Label) →
    AreLabelsFor cut id (k + 1) parts labels → (i : ℕ) (label : Label) → slice_get labels i ≡ Some label →
    IsOfBatch id cut (k + i) label
each_of_batch cut id k [] [] made i label is = cc
each_of_batch cut id k [] (x ∷ xs) made i label is = absurd made
each_of_batch cut id k (part ∷ parts) [] made i label is = absurd made
each_of_batch cut id k (part ∷ parts) (x ∷ xs) made zero label is = grind arith
each_of_batch cut id k (part ∷ parts) (x ∷ xs) made (suc i) label is =
    grind (arith, (each_of_batch cut id (k + 1) parts xs made.1 i label is))

print_batch : {A : Type 0} (before : ℕ) (document : List ℕ) (size : Size) (scheme : Scheme) (held : LedgerView)
    (course : Course A LedgerView) → PrintComes before document size scheme held course →
    OfCourse (MayBeBatch held) course
print_batch before document size scheme held (Saves next goods reply) comes =
    let made = made_print before document size scheme held next goods reply comes in
    let cut : CutDocument = cut_of document size scheme made.parts in
    let id : ℕ = least held.free in
    known_goods (MayBeBatch held) goods _ made.left.goods_are (inr (record {
      id = id;
      cut = cut;
      free = made.uses.least_is.free;
      each = λ i label is.
          let place : 0 + i ≡ i = omega arith in
          subst (λ (n : ℕ). IsOfBatch id cut n label) place
          (each_of_batch cut id 0 made.parts made.left.labels made.left.are_labels i label is);
      used = (let e : one_if (id == id) ≡ 1 = ap one_if (eq-eqb id id refl) in omega arith);
    }))
print_batch before document size scheme held (Answers reply) comes = tt
print_batch before document size scheme held LacksMemory comes = tt

print_leaves : {A : Type 0} (before : ℕ) (document : List ℕ) (size : Size) (scheme : Scheme) (stop : Stop)
    (actor : Actor LedgerView) (end : Ending A LedgerView) →
    MayLackFirst (Calls print_faults stop (PrintComes before document size scheme)) actor end →
    MayBeBatch (stored_of actor) end.goods
print_leaves before document size scheme stop (Running held) end (inl lack) = grind (arith, as_known)
print_leaves before document size scheme stop (Running held) end (inr acts) =
    as_known (MayBeBatch held) end _ acts.2
    (ends_leave (MayBeBatch held) (batch_closed held) print_faults stop acts.0 (Running held)
    (reaches stop (print_batch before document size scheme held acts.0) acts.1))
print_leaves before document size scheme stop (Failed shown stored) end (inl lack) = grind (arith, as_known)
print_leaves {A} before document size scheme stop (Failed shown stored) end (inr acts) =
    grind (arith, as_known, batch_closed, ends_leave, reached)
print_leaves before document size scheme stop (Down stored) end acts = grind (arith, as_known)

-- ---- labels that are added

-- goods that leave a relay: no label, or those of a number that was not used before
pub record IsFresh (old : Relay) (goods : Goods) : Type 0 where
  pub id : ℕ
  pub cut : CutDocument
  pub each : (i : ℕ) (label : Label) → slice_get goods.labels i ≡ Some label → IsOfBatch id cut i label
  pub used : 1 ≤ gone goods.moves id
  pub fresh : gone old.moves id ≡ 0

module _ (old : Relay) (goods : Goods) (sound : RelayIsSound old) where
  -- with no label
  still_used : goods.labels ≡ [] → (i : ℕ) (label : Label) → slice_get (old.labels ++ goods.labels) i ≡ Some label →
      1 ≤ gone (old.moves ++ goods.moves) label.page.id
  still_used none i label is = grind (arith, gone_more, in_either)

  still_there : goods.labels ≡ [] → (i : ℕ) (label : Label) → slice_get (old.labels ++ goods.labels) i ≡ Some label →
      slice_get old.labels i ≡ Some label
  still_there none i label is = grind (arith, in_either)

  -- a label that left before has another ID
  apart : (f : IsFresh old goods) (i : ℕ) (label : Label) {X : Type 0} → slice_get old.labels i ≡ Some label →
      label.page.id ≡ f.id → X
  apart f i label is same = grind arith

  more_used : IsFresh old goods → (i : ℕ) (label : Label) → slice_get (old.labels ++ goods.labels) i ≡ Some label →
      1 ≤ gone (old.moves ++ goods.moves) label.page.id
  more_used f i label is = grind (arith, gone_more, in_either)

  more_document : IsFresh old goods → AreOfOneDocument (old.labels ++ goods.labels)
  more_document f i j one other is there same = grind (arith, apart, in_either)

  more_once : IsFresh old goods → AreOnce (old.labels ++ goods.labels)
  more_once f i j one other is there same number = grind (arith, apart, in_either)

abbrev MayBeFresh : Relay → Goods → Type 0
MayBeFresh old goods = (goods.labels ≡ []) ⊎ IsFresh old goods

abbrev AreSoundLabels : List Label → List Move → Type 0
AreSoundLabels labels moves =
    ((i : ℕ) (label : Label) → slice_get labels i ≡ Some label → 1 ≤ gone moves label.page.id)
    × AreOfOneDocument labels × AreOnce labels

more_labels : (old : Relay) (goods : Goods) → RelayIsSound old → MayBeFresh old goods →
    AreSoundLabels (old.labels ++ goods.labels) (old.moves ++ goods.moves)
more_labels old goods sound none = grind (arith, more_document, more_once, more_used, still_there, still_used)

-- a number that is free is not used
fresh_of : (old : Relay) (printer : ℕ) (actor : Actor LedgerView) (goods : Goods) → RelayIsSound old →
    slice_get old.printers printer ≡ Some actor → MayBeBatch (stored_of actor) goods → MayBeFresh old goods
fresh_of old printer actor goods sound was none = grind (arith, free_some)

-- ---- steps

-- labels and moves after a step
printer_labels : {A : Type 0} (old new : Relay) (printer : ℕ) (Acts : Actor LedgerView → Ending A LedgerView → Type 0)
    (reply : Reply A) → RelayIsSound old →
    ((actor : Actor LedgerView) (end : Ending A LedgerView) → Acts actor end → MayBeBatch (stored_of actor) end.goods) →
    PrinterGoes old printer Acts reply new → AreSoundLabels new.labels new.moves
printer_labels old new printer Acts reply sound each g =
    subst (λ (r : Relay). AreSoundLabels r.labels r.moves) (sym g.new_is)
    (more_labels old g.end.goods sound
    (fresh_of old printer g.actor g.end.goods sound g.was (each g.actor g.end g.acts)))

abbrev HasNoLabels : Goods → Type 0
HasNoLabels goods = goods.labels ≡ []

no_labels : IsClosed HasNoLabels
no_labels = grind arith

desk_labels : (old new : Relay) → RelayIsSound old → ChangesDesk old new → AreSoundLabels new.labels new.moves
desk_labels old new sound c =
    subst (λ (r : Relay). AreSoundLabels r.labels r.moves) (sym c.new_is)
    (more_labels old c.goods sound (inl c.quiet.labels))

give_none : {A : Type 0} (before receiver : ℕ) (range : Range) (held : LedgerView) (course : Course A LedgerView) →
    GiveComes before receiver range held course → OfCourse HasNoLabels course
give_none before receiver range held course comes = grind arith

take_none_leave : {A : Type 0} (number : ℕ) (ticket : TicketView) (held : LedgerView) (course : Course A LedgerView) →
    TakeComes number ticket held course → OfCourse HasNoLabels course
take_none_leave number ticket held course comes = grind arith

acts_labels : {A : Type 0} (old new : Relay) (event : Event A) (reply : Reply A) → RelayIsSound old →
    Acts old event reply new → AreSoundLabels new.labels new.moves
acts_labels old new (Print printer document size scheme stop) reply sound acts =
    printer_labels old new printer _ reply sound (print_leaves (length old.labels) document size scheme stop) acts
acts_labels old new (Give printer receiver range stop) reply sound acts =
    printer_labels old new printer _ reply sound
    (λ actor end is. inl (may_lack_leaves HasNoLabels no_labels _ (calls_leave HasNoLabels no_labels _ stop _
    (give_none (length old.tickets) receiver range)) actor end is)) acts
acts_labels old new (Take printer number stop) reply sound acts =
    printer_labels old new printer _ reply sound
    (λ actor end is. inl (calls_leave HasNoLabels no_labels _ stop _ (take_none_leave number acts.0) actor end is)) acts.2
acts_labels old new (RestartPrinter printer) reply sound acts =
    printer_labels old new printer _ reply sound
    (λ actor end is. inl (restarts_leave HasNoLabels no_labels _ actor end is)) acts
acts_labels old new event reply sound acts = desk_labels old new sound (quiet_desks old new event reply tt acts)

pub each_step_is_sound : (A : Type 0) → EachStepIsSound A
each_step_is_sound A old new event reply sound step = grind (arith, acts_labels, apart, each_step_keeps_numbers)
