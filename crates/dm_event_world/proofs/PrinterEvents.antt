-- Events at printers: each ends as one of the relay that the printer shows.
use Rattle.std.proofs.Common.{◌≡◌, ◌≤◌, ◌+◌, ◌++◌, ◌⊎◌, inl, inr, ℕ, zero, suc, Bool, true, false, List, [], ◌∷◌, Option, Some, None, Result, Ok, Err, length, map, slice_get, take, refl, sym, ap, subst, ◌∙◌, arith}
use Rattle.std.specs.Prelude.{IfOk, IsTrue, is_some, if◌then◌else◌}
use Rattle.std.proofs.lemmas.List.{take_all}
use Rattle.dm_size.specs.declared.size.Size.{Size}
use Rattle.dm_encodation.specs.declared.scheme.Scheme.{Scheme}
use Rattle.dm_finder_frame.specs.Frame.{GridView}
use Rattle.dm_append_label.specs.Labels.{parts_from}
use Rattle.dm_store.specs.{declared.fuse.Kept.TheVariants.Old, declared.fuse.Kept.TheVariants.New, Saved.Saved}
use Rattle.dm_store.specs.declared.mem_store.NextSave.TheVariants as next_save
use Rattle.dm_print_ledger.specs.declared.{range.Range.Range, fault.PrintFault.PrintFault, fault.GiveFault.GiveFault}
use Rattle.dm_print_ledger.specs.declared.fault.PrintFault.TheVariants as print_fault
use Rattle.dm_print_ledger.specs.declared.fault.GiveFault.TheVariants as give_fault
use Rattle.dm_print_ledger.specs.declared.fault.{TakeFault.TakeFault, OpenFault.OpenFault}
use Rattle.dm_print_ledger.specs.declared.fault.TakeFault.TheVariants as take_fault
use Rattle.dm_print_ledger.specs.Verdicts.{CarriesOut, least, LoadsLedger, PrinterOpens, open_verdict, AreLabels, IsCutting, IsMade, Prints, give_verdict, print_verdict, take_verdict, ticket_of}
use Rattle.dm_print_ledger.specs.declared.fault.OpenFault.TheVariants as open_fault
use Rattle.dm_print_ledger.specs.Ledger.{is_range, JobView, LedgerView, PrinterView, TicketView}
use Rattle.dm_print_ledger.specs.Verdicts as verdicts
use Rattle.dm_event_history.specs.declared.{reply.Reply.Reply, stop.Stop.Stop}
use Rattle.dm_event_history.specs.declared.reply.Reply.TheVariants as replies
use Rattle.dm_event_history.specs.declared.stop.Stop.TheVariants as stops
use Rattle.dm_event_history.specs.declared.stop.Stop.TheVariants.{BeforeSave, InSave, SaveFault, AfterLabels}
use Rattle.dm_event_history.specs.Relay.{Actor, Running, Failed, Down, stored_of, CutDocument, Export, Goods, Label, Took, Used, no_goods}
use Rattle.dm_event_history.specs.Steps.{Calls, Course, Ending, Faults, MayLackFirst, Saves, ending, ends, AreLabelsFor, GiveComes, PrintComes, PrintLeaves, TakeComes, cut_of, give_faults, print_faults, take_faults}
use Rattle.dm_event_world.specs.declared.actor.{LeftLabel.LeftLabel, LeftExport.LeftExport, PrinterActor.PrinterActor}
use Rattle.dm_event_world.specs.declared.actor.PrinterActor.TheVariants as actors
use Rattle.dm_event_world.specs.Shows.{ShowsPrinter, StoresLedger, left_export, left_label}
use Rattle.dm_event_world.specs.inner.Calls.{IsMadeUnder, ends_early, most_labels, next_save_of, stops_before, EndsEach, EndsSo, Left, state_after, ended_reply, lacks_memory, RestartsAs, saved_of, down_printer, give_reply, job_labels, left_labels, left_ticket, planned, print_reply, take_reply}
use Rattle.dm_event_world.proofs.Endings.{lets_as, made_so, IsEmpty, empty, lacks_first, none_left, not_first, plain, stopped_before, with_goods}
use Rattle.dm_event_world.proofs.PrinterCalls.{Lets, call_ends, down_shows}

-- How many labels a job has.

-- a job has as many labels as parts
length-AreLabels : (size : Size) (scheme : Scheme) (id count number : ℕ) (parts : List (List ℕ))
    (grids : List GridView) →
    AreLabels size scheme id count number parts grids → length grids ≡ length parts
length-AreLabels size scheme id count number [] [] made = refl
length-AreLabels size scheme id count number (t ∷ ts) (g ∷ gs) made =
    ap suc (length-AreLabels size scheme id count (number + 1) ts gs made.1)
length-AreLabels size scheme id count number [] (g ∷ gs) made = absurd made
length-AreLabels size scheme id count number (t ∷ ts) [] made = absurd made

-- ---- what is not called

-- a printer that is down answers so
pub down_answers : {A : Type 0} (Acts : Actor LedgerView → Ending A LedgerView → Type 0) →
    ((stored : LedgerView) → Acts (Down stored) (ending replies.Down (Down stored) no_goods)) →
    (labels : List (LeftLabel A)) (tickets : List TicketView) (exports : List (LeftExport A)) (actor : PrinterActor A)
    (saved : _) → actor ≡ actors.Down saved →
    EndsEach ShowsPrinter Acts (λ goods. Left labels tickets exports goods labels tickets exports) actor replies.Down actor
down_answers {A} Acts acts labels tickets exports actor saved is shown s =
    by_shown shown (subst (λ (a : PrinterActor A). ShowsPrinter a shown) is s) s
  where
    by_shown : (shown : Actor LedgerView) → ShowsPrinter {A = A} (actors.Down saved) shown → ShowsPrinter actor shown →
        EndsSo ShowsPrinter Acts (λ goods. Left labels tickets exports goods labels tickets exports) shown replies.Down
        actor
    by_shown (Running held) t s = absurd t
    by_shown (Failed held stored) t s = absurd t
    by_shown (Down stored) t s = record {
      end = ending replies.Down (Down stored) no_goods;
      acts = acts stored;
      reply_is = refl;
      shows = s;
      lets = none_left labels tickets exports no_goods empty;
    }

not_down : (A : Type 0) (view : PrinterView) (stored : LedgerView) → ShowsPrinter {A = A} (actors.Running view) (Down stored) → ⊥
not_down A view stored s = s

-- memory for what is to leave is refused
pub lacks_its : {A : Type 0} (Acts : Actor LedgerView → Ending A LedgerView → Type 0)
    (labels : List (LeftLabel A)) (tickets : List TicketView) (exports : List (LeftExport A)) (actor : PrinterActor A)
    (view : PrinterView) → actor ≡ actors.Running view →
    EndsEach ShowsPrinter (MayLackFirst Acts) (λ goods. Left labels tickets exports goods labels tickets exports) actor
    replies.Memory (actors.Running view)
lacks_its {A} Acts labels tickets exports actor view is shown s =
    lets_as _ _ IsEmpty _ shown _ _ (none_left labels tickets exports)
    (lacks_first ShowsPrinter Acts (actors.Running view) (not_down A view) shown
    (subst (λ (a : PrinterActor A). ShowsPrinter a shown) is s))

-- it is stopped before its save
pub stopped_first : {A : Type 0} (faults : Faults A) (stop : Stop) (CallComes : LedgerView → Course A LedgerView → Type 0)
    (Acts : Actor LedgerView → Ending A LedgerView → Type 0) →
    ((shown : Actor LedgerView) (end : Ending A LedgerView) → Calls faults stop CallComes shown end → Acts shown end) →
    (labels : List (LeftLabel A)) (tickets : List TicketView) (exports : List (LeftExport A)) (actor after : PrinterActor A)
    (view : PrinterView) → actor ≡ actors.Running view → stops_before stop ≡ true →
    after ≡ down_printer (actors.Running view) →
    EndsEach ShowsPrinter Acts (λ goods. Left labels tickets exports goods labels tickets exports) actor replies.Stopped
    after
stopped_first {A} faults stop CallComes Acts acts labels tickets exports actor after view is before after_is shown s =
    subst (λ (a : PrinterActor A). EndsSo ShowsPrinter Acts
    (λ goods. Left labels tickets exports goods labels tickets exports) shown replies.Stopped a) (sym after_is)
    (with_goods ShowsPrinter (Calls faults stop CallComes) Acts IsEmpty _ shown replies.Stopped
    (down_printer (actors.Running view)) (acts shown) (none_left labels tickets exports)
    (stopped_before ShowsPrinter down_printer down_shows faults CallComes (actors.Running view) (not_down A view) stop
    shown before (subst (λ (a : PrinterActor A). ShowsPrinter a shown) is s)))

-- nothing leaves under any stop where nothing would
take_nil : {X : Type 0} (k : ℕ) → (let none : List X = [] in take k none ≡ none)
take_nil k = grind arith

take_zero : {X : Type 0} (xs : List X) → take 0 xs ≡ []
take_zero xs = grind arith

ends_empty : {A : Type 0} (faults : Faults A) (stop : Stop) (next : LedgerView) (goods : Goods) (reply : Reply A)
    (old : Actor LedgerView) → IsEmpty goods → IsEmpty (ends faults stop (Saves next goods reply) old).goods
ends_empty faults stops.None next goods reply old none = none
ends_empty faults BeforeSave next goods reply old none = empty
ends_empty faults (InSave Old) next goods reply old none = empty
ends_empty faults (SaveFault Old) next goods reply old none = empty
ends_empty faults (SaveFault New) next goods reply old none =
    record { labels = take_zero goods.labels; tickets = refl; exports = refl }
ends_empty faults (InSave New) next goods reply old none =
    record { labels = take_zero goods.labels; tickets = refl; exports = refl }
ends_empty faults (AfterLabels most) next goods reply old none =
    record { labels = ap (take most) none.labels ∙ take_nil most; tickets = refl; exports = refl }

-- ---- takes

abbrev took : ℕ → Goods
took number = record { labels = []; tickets = []; exports = []; moves = Took number ∷ [] }

take_told : (A : Type 0) (old : LedgerView) (ticket : TicketView) (fault : TakeFault) →
    take_verdict old ticket ≡ Err fault → lacks_memory {A = A} (replies.TakeRefused fault) ≡ false
take_told A old ticket fault is = grind arith

pub take_ends : {A : Type 0} (number : ℕ) (ticket : TicketView) (stop : Stop) (view after : PrinterView)
    (actor new : PrinterActor A) (answer : Result (Unit {0}) TakeFault) (reply result : Reply A) →
    actor ≡ actors.Running view → stops_before stop ≡ false →
    IsMadeUnder planned stop (λ old a now. verdicts.TakesTicket old ticket a now) view answer after →
    (view.is_failed ≡ false → IsTrue (is_range ticket.range)) → reply ≡ take_reply answer →
    result ≡ ended_reply stop reply → new ≡ state_after down_printer stop reply (actors.Running after) →
    EndsEach ShowsPrinter (Calls take_faults stop (TakeComes number ticket)) (λ goods. Left {A = A} [] [] [] goods [] [] [])
    actor result new
take_ends {A} number ticket stop view after actor new answer reply result is made under range reply_is result_is new_is
    shown s =
    made_so ShowsPrinter down_printer _ _ stop (take_reply answer) reply result shown _ new (sym reply_is) result_is
    (new_is ∙ ap (λ (v : PrinterView). state_after down_printer stop reply (actors.Running v)) under.new_is)
    (call_ends take_fault.Failed take_fault.Memory take_fault.Save replies.TakeRefused (λ done. replies.Taken)
    (take_verdict view.ledger ticket) (λ goods r. (goods ≡ took number) × (r ≡ replies.Taken))
    (λ done goods. IsEmpty goods) refl refl
    (take_told A view.ledger ticket) stop made view under.mid answer under.call
    (λ _. record {
      goods = took number;
      reply = replies.Taken;
      leaves = (refl, refl);
      tells = refl;
      given = λ x at. (refl, record { labels = refl; tickets = refl; exports = refl });
    })
    (TakeComes number ticket) _
    (λ fine course comes. (under.call.in_order.sound, range fine, comes))
    (λ fault goods at none. none_left [] [] [] goods none)
    (λ x next goods r at none p. none_left [] [] [] _ (ends_empty take_faults stop next goods r (Running view.ledger) none))
    shown (subst (λ (a : PrinterActor A). ShowsPrinter a shown) is s))

-- ---- gives

abbrev gave : TicketView → Goods
gave ticket = record { labels = []; tickets = ticket ∷ []; exports = []; moves = [] }

give_told : (A : Type 0) (old : LedgerView) (receiver : ℕ) (range : Range) (fault : GiveFault) →
    give_verdict old receiver range ≡ Err fault → lacks_memory {A = A} (replies.GiveRefused fault) ≡ false
give_told A old receiver range fault is = grind arith

-- no ticket is among those that left
no_ticket : {A : Type 0} (stop : Stop) (fault : GiveFault) (old new : List TicketView) (goods : Goods) →
    new ≡ old ++ (if ends_early stop then [] else left_ticket (Err fault)) → IsEmpty goods →
    Left {A = A} [] old [] goods [] new []
no_ticket {A} stop fault old new goods is none = grind arith

its_ticket : {A : Type 0} (faults : Faults A) (stop : Stop) (ticket : TicketView) (old new : List TicketView)
    (next : LedgerView) (goods : Goods) (reply : Reply A) (actor : Actor LedgerView) → stops_before stop ≡ false →
    plain stop ≡ stops.None → goods ≡ gave ticket →
    new ≡ old ++ (if ends_early stop then [] else left_ticket (Ok ticket)) →
    Left {A = A} [] old [] (ends faults stop (Saves next goods reply) actor).goods [] new []
its_ticket faults BeforeSave ticket old new next goods reply actor made p gives is = cc (made)
its_ticket faults (InSave Old) ticket old new next goods reply actor made p gives is = cc (made)
its_ticket faults (SaveFault kept) ticket old new next goods reply actor made p gives is = cc (p)
its_ticket faults stops.None ticket old new next goods reply actor made p gives is = record {
  labels_are = ap (λ (g : Goods). map left_label g.labels) (sym gives);
  tickets_are = is ∙ ap (λ (g : Goods). old ++ g.tickets) (sym gives);
  exports_are = ap (λ (g : Goods). map left_export g.exports) (sym gives);
  entries = λ number export there.
      let none = ap (λ (g : Goods). slice_get g.exports number) gives in cc (none, there);
}
its_ticket faults (InSave New) ticket old new next goods reply actor made p gives is = record {
  labels_are = sym (ap (map left_label) (take_zero goods.labels));
  tickets_are = is;
  exports_are = refl;
  entries = λ number export there. cc (there);
}
its_ticket faults (AfterLabels most) ticket old new next goods reply actor made p gives is = record {
  labels_are = sym (ap (λ (g : Goods). map left_label (take most g.labels)) gives ∙
      ap (map left_label) (take_nil most));
  tickets_are = is;
  exports_are = refl;
  entries = λ number export there. cc (there);
}

pub give_ends : {A : Type 0} (receiver : ℕ) (range : Range) (stop : Stop) (view after : PrinterView)
    (actor new : PrinterActor A) (answer : Result TicketView GiveFault) (reply result : Reply A)
    (tickets all : List TicketView) →
    actor ≡ actors.Running view → stops_before stop ≡ false →
    IsMadeUnder planned stop (λ old a now. verdicts.GivesTicket old receiver range a now) view answer after →
    reply ≡ give_reply (length tickets) answer →
    all ≡ tickets ++ (if ends_early stop then [] else left_ticket answer) →
    result ≡ ended_reply stop reply → new ≡ state_after down_printer stop reply (actors.Running after) →
    EndsEach ShowsPrinter (MayLackFirst (Calls give_faults stop (GiveComes (length tickets) receiver range)))
    (λ goods. Left {A = A} [] tickets [] goods [] all []) actor result new
give_ends {A} receiver range stop view after actor new answer reply result tickets all is made under reply_is all_is
    result_is new_is shown s =
    made_so ShowsPrinter down_printer _ _ stop (give_reply (length tickets) answer) reply result shown _ new
    (sym reply_is) result_is
    (new_is ∙ ap (λ (v : PrinterView). state_after down_printer stop reply (actors.Running v)) under.new_is)
    (with_goods ShowsPrinter _ _ Q Q shown _ _
    (not_first (Calls give_faults stop (GiveComes (length tickets) receiver range)) shown) (λ goods q. q)
    (call_ends give_fault.Failed give_fault.Memory give_fault.Save replies.GiveRefused tell
    (give_verdict view.ledger receiver range)
    (λ goods r. (goods ≡ gave ticket) × (r ≡ replies.Given (length tickets) ticket)) (λ x goods. goods ≡ gave x) refl refl
    (give_told A view.ledger receiver range) stop made view under.mid answer under.call.0
    (λ _. record {
      goods = gave ticket;
      reply = replies.Given (length tickets) ticket;
      leaves = (refl, refl);
      tells = refl;
      given = λ x at. (ap tell (its x at), sym (ap gave (its x at)));
    })
    (GiveComes (length tickets) receiver range) Q
    (λ fine course comes. (under.call.0.in_order.sound, comes))
    (λ fault goods at none. no_ticket stop fault tickets all goods
    (subst (λ (a : Result TicketView GiveFault). all ≡ tickets ++ (if ends_early stop then [] else left_ticket a)) at all_is)
    none)
    (λ x next goods r at gives p. its_ticket give_faults stop x tickets all next goods r (Running view.ledger) made p gives
    (subst (λ (a : Result TicketView GiveFault). all ≡ tickets ++ (if ends_early stop then [] else left_ticket a)) at
    all_is))
    shown (subst (λ (a : PrinterActor A). ShowsPrinter a shown) is s)))
  where
    ticket : TicketView
    ticket = ticket_of view.ledger receiver range

    Q : Goods → Type 0
    Q goods = Left {A = A} [] tickets [] goods [] all []

    tell : TicketView → Reply A
    tell x = replies.Given (length tickets) x

    its : (x : TicketView) → answer ≡ Ok x → x ≡ ticket
    its x at = subst (λ (a : Result TicketView GiveFault). IfOk a (λ t. t ≡ ticket)) at under.call.1

-- ---- prints

labels_of : CutDocument → ℕ → ℕ → List (List ℕ) → List GridView → List Label
labels_of cut id m [] grids = []
labels_of cut id m (part ∷ parts) [] = []
labels_of cut id m (part ∷ parts) (grid ∷ grids) =
    record { page = record { id = id; m = m; n = length cut.parts; bytes = part }; cut = cut; grid = grid }
    ∷ labels_of cut id (m + 1) parts grids

made_labels : (cut : CutDocument) (id m : ℕ) (parts : List (List ℕ)) (grids : List GridView) →
    AreLabels cut.size cut.scheme id (length cut.parts) m parts grids →
    AreLabelsFor cut id m parts (labels_of cut id m parts grids)
unfolding labels_of
made_labels cut id m [] [] made = tt
made_labels cut id m [] (grid ∷ grids) made = absurd made
made_labels cut id m (part ∷ parts) [] made = absurd made
made_labels cut id m (part ∷ parts) (grid ∷ grids) made =
    (record { page_is = refl; cut_is = refl; grid_is = made.0 }, made_labels cut id (m + 1) parts grids made.1)

same_left : (A : Type 0) (cut : CutDocument) (id m : ℕ) (parts : List (List ℕ)) (grids : List GridView) →
    AreLabels cut.size cut.scheme id (length cut.parts) m parts grids →
    map (left_label {A = A}) (labels_of cut id m parts grids) ≡ left_labels id (length cut.parts) m grids
unfolding labels_of
same_left A cut id m [] [] made = refl
same_left A cut id m [] (grid ∷ grids) made = absurd made
same_left A cut id m (part ∷ parts) [] made = absurd made
same_left A cut id m (part ∷ parts) (grid ∷ grids) made =
    let first : LeftLabel A = record { id = id; number = m; count = length cut.parts; grid = grid } in
    ap (λ (ls : List (LeftLabel A)). first ∷ ls) (same_left A cut id (m + 1) parts grids made.1)

map_take : {X Y : Type 0} (f : X → Y) (k : ℕ) (xs : List X) → map f (take k xs) ≡ take k (map f xs)
map_take f zero [] = refl
map_take f zero (x ∷ xs) = refl
map_take f (suc k) [] = refl
map_take {X} {Y} f (suc k) (x ∷ xs) = ap (λ (ys : List Y). f x ∷ ys) (map_take f k xs)

take_left : (A : Type 0) (id count m k : ℕ) (grids : List GridView) →
    take k (left_labels {A = A} id count m grids) ≡ left_labels id count m (take k grids)
take_left A id count m zero [] = refl
take_left A id count m zero (g ∷ gs) = refl
take_left A id count m (suc k) [] = refl
take_left A id count m (suc k) (g ∷ gs) =
    let first : LeftLabel A = record { id = id; number = m; count = count; grid = g } in
    ap (λ (ls : List (LeftLabel A)). first ∷ ls) (take_left A id count (m + 1) k gs)

-- the goods have the labels of the job, and nothing else
record HaveIts (A : Type 0) (job : JobView) (goods : Goods) : Type 0 where
  pub labels : map (left_label {A = A}) goods.labels ≡ left_labels job.id job.count 1 job.labels
  pub few : length job.labels ≤ 16
  pub tickets : goods.tickets ≡ []
  pub exports : goods.exports ≡ []

print_told : (A : Type 0) (old : LedgerView) (has_parts : Bool) (fault : PrintFault) →
    print_verdict old has_parts ≡ Err fault → lacks_memory {A = A} (replies.PrintRefused fault) ≡ false
print_told A old has_parts fault is = grind arith

-- no label is among those that left
no_label : {A : Type 0} (most : ℕ) (fault : PrintFault) (old new : List (LeftLabel A)) (goods : Goods) →
    new ≡ old ++ job_labels most (Err fault) → IsEmpty goods → Left {A = A} old [] [] goods new [] []
no_label {A} most fault old new goods is none = grind arith

-- as many are as leave under the stop
its_labels : {A : Type 0} (faults : Faults A) (stop : Stop) (job : JobView) (old new : List (LeftLabel A))
    (next : LedgerView) (goods : Goods) (reply : Reply A) (actor : Actor LedgerView) → stops_before stop ≡ false →
    plain stop ≡ stops.None → HaveIts A job goods → new ≡ old ++ job_labels (most_labels stop) (Ok job) →
    Left old [] [] (ends faults stop (Saves next goods reply) actor).goods new [] []
its_labels faults BeforeSave job old new next goods reply actor made p its is = cc (made)
its_labels faults (InSave Old) job old new next goods reply actor made p its is = cc (made)
its_labels faults (SaveFault kept) job old new next goods reply actor made p its is = cc (p)
its_labels {A} faults stops.None job old new next goods reply actor made p its is = record {
  labels_are = is ∙ ap (λ (ls : List (LeftLabel A)). old ++ ls)
      (ap (left_labels job.id job.count 1) (take_all 255 job.labels (let few = its.few in omega arith)) ∙ sym its.labels);
  tickets_are = sym its.tickets;
  exports_are = sym (ap (map (left_export {A = A})) its.exports);
  entries = λ number export there.
      let none = ap (λ (es : List Export). slice_get es number) its.exports in absurd (no_export number export none there);
}
  where
    no_export : (number : ℕ) (export : Export) → slice_get goods.exports number ≡ slice_get [] number →
        slice_get goods.exports number ≡ Some export → ⊥
    no_export number export none there = cc (none, there)
its_labels {A} faults (InSave New) job old new next goods reply actor made p its is = record {
  labels_are = is ∙ ap (λ (ls : List (LeftLabel A)). old ++ ls)
      (sym (take_left A job.id job.count 1 0 job.labels) ∙ ap (take 0) (sym its.labels)
      ∙ sym (map_take left_label 0 goods.labels));
  tickets_are = refl;
  exports_are = refl;
  entries = λ number export there. absurd (cc (there));
}
its_labels {A} faults (AfterLabels most) job old new next goods reply actor made p its is = record {
  labels_are = is ∙ ap (λ (ls : List (LeftLabel A)). old ++ ls)
      (sym (take_left A job.id job.count 1 most job.labels) ∙ ap (take most) (sym its.labels)
      ∙ sym (map_take left_label most goods.labels));
  tickets_are = refl;
  exports_are = refl;
  entries = λ number export there. absurd (cc (there));
}

module _ {A : Type 0} (size : Size) (scheme : Scheme) (document : List ℕ) (stop : Stop) (view after : PrinterView)
    (actor new : PrinterActor A) (answer : Result JobView PrintFault) (reply result : Reply A)
    (labels all : List (LeftLabel A)) (is : actor ≡ actors.Running view) (made : stops_before stop ≡ false)
    (reply_is : reply ≡ print_reply (length labels) answer) (all_is : all ≡ labels ++ job_labels (most_labels stop) answer)
    (result_is : result ≡ ended_reply stop reply)
    (mid : PrinterView) (after_is : after ≡ planned mid next_save.Fine)
    (new_is : new ≡ state_after down_printer stop reply (actors.Running after)) where
  abbrev Q : Goods → Type 0
  Q goods = Left labels [] [] goods all [] []

  abbrev printed : ℕ → ℕ → Reply A
  printed id count = replies.Printed id (length labels) count

  abbrev tell : JobView → Reply A
  tell job = replies.Printed job.id (length labels) job.count

  abbrev Acts : Actor LedgerView → Ending A LedgerView → Type 0
  Acts = Calls print_faults stop (PrintComes (length labels) document size scheme)

  by_cutting : (cutting : Option (List ℕ)) →
      (view.is_failed ≡ false → IsCutting size scheme document cutting) →
      CarriesOut print_fault.Failed print_fault.Memory print_fault.Save (Unit {0})
      (print_verdict view.ledger (is_some cutting))
      (planned view (next_save_of stop)) answer mid →
      IfOk answer (IsMade view.ledger size scheme document cutting) →
      (answer ≡ Err print_fault.Save → (job : JobView) × IsMade view.ledger size scheme document cutting job) →
      EndsEach ShowsPrinter (MayLackFirst Acts) (λ goods. Left labels [] [] goods all [] []) actor result new
  by_cutting None is_cutting carries made_job lost shown s =
      made_so ShowsPrinter down_printer _ Q stop (print_reply (length labels) answer) reply result shown _ new
      (sym reply_is) result_is
      (new_is ∙ ap (λ (v : PrinterView). state_after down_printer stop reply (actors.Running v)) after_is)
      (with_goods ShowsPrinter Acts (MayLackFirst Acts) Q Q shown _ _ (not_first Acts shown) (λ goods q. q)
      (call_ends print_fault.Failed print_fault.Memory print_fault.Save replies.PrintRefused tell
      (print_verdict view.ledger false)
      (λ goods r. ⊥) (HaveIts A) refl refl (print_told A view.ledger false) stop made view mid answer carries
      (λ saved. absurd (none saved)) (PrintComes (length labels) document size scheme) Q
      (λ fine course comes. (carries.in_order.sound, None, is_cutting fine, comes))
      (λ fault goods at empty. no_label (most_labels stop) fault labels all goods
      (subst (λ (a : Result JobView PrintFault). all ≡ labels ++ job_labels (most_labels stop) a) at all_is) empty)
      (λ x next goods r at its p. its_labels print_faults stop x labels all next goods r (Running view.ledger) made p its
      (subst (λ (a : Result JobView PrintFault). all ≡ labels ++ job_labels (most_labels stop) a) at all_is))
      shown (subst (λ (a : PrinterActor A). ShowsPrinter a shown) is s)))
    where
      none : ((x : JobView) × (answer ≡ Ok x)) ⊎ (answer ≡ Err print_fault.Save) → ⊥
      none (inl x) =
          subst (λ (a : Result JobView PrintFault). IfOk a (IsMade view.ledger size scheme document None)) x.1 made_job
      none (inr at) = (lost at).1
  by_cutting (Some ends_at) is_cutting carries made_job lost shown s =
      made_so ShowsPrinter down_printer _ Q stop (print_reply (length labels) answer) reply result shown _ new
      (sym reply_is) result_is
      (new_is ∙ ap (λ (v : PrinterView). state_after down_printer stop reply (actors.Running v)) after_is)
      (with_goods ShowsPrinter Acts (MayLackFirst Acts) Q Q shown _ _ (not_first Acts shown) (λ goods q. q)
      (call_ends print_fault.Failed print_fault.Memory print_fault.Save replies.PrintRefused tell
      (print_verdict view.ledger true)
      (PrintLeaves (length labels) cut id) (HaveIts A) refl refl (print_told A view.ledger true) stop made view mid answer
      carries lets (PrintComes (length labels) document size scheme) Q
      (λ fine course comes. (
        carries.in_order.sound,
        Some parts,
        record { ends = ends_at; are_ends = is_cutting fine; parts_are = refl },
        comes,
      ))
      (λ fault goods at empty. no_label (most_labels stop) fault labels all goods
      (subst (λ (a : Result JobView PrintFault). all ≡ labels ++ job_labels (most_labels stop) a) at all_is) empty)
      (λ x next goods r at its p. its_labels print_faults stop x labels all next goods r (Running view.ledger) made p its
      (subst (λ (a : Result JobView PrintFault). all ≡ labels ++ job_labels (most_labels stop) a) at all_is))
      shown (subst (λ (a : PrinterActor A). ShowsPrinter a shown) is s)))
    where
      parts : List (List ℕ)
      parts = parts_from document 0 ends_at

      id : ℕ
      id = least view.ledger.free

      cut : CutDocument
      cut = cut_of document size scheme parts

      of_job : (job : JobView) → IsMade view.ledger size scheme document (Some ends_at) job →
          ((x : JobView) → answer ≡ Ok x → x ≡ job) → Lets (PrintLeaves {A = A} (length labels) cut id) (HaveIts A) tell answer
      of_job job its alone = record {
        goods = record { labels = labels_of cut id 1 parts job.labels; tickets = []; exports = []; moves = Used id ∷ [] };
        reply = replies.Printed id (length labels) (length parts);
        leaves = record {
          labels = labels_of cut id 1 parts job.labels;
          are_labels = made_labels cut id 1 parts job.labels its.labels;
          goods_are = refl;
          reply_is = refl;
        };
        tells = refl;
        given = λ x at. subst (λ (j : JobView). (tell j ≡ replies.Printed id (length labels) (length parts))
            × HaveIts A j (record {
              labels = labels_of cut id 1 parts job.labels;
              tickets = [];
              exports = [];
              moves = Used id ∷ [];
            })) (sym (alone x at)) (
              ap (λ (i : ℕ). printed i job.count) its.id_is ∙ ap (λ (n : ℕ). printed id n) its.count_is,
              record {
                labels = same_left A cut id 1 parts job.labels its.labels
                    ∙ ap (λ (i : ℕ). left_labels i (length parts) 1 job.labels) (sym its.id_is)
                    ∙ ap (λ (n : ℕ). left_labels job.id n 1 job.labels) (sym its.count_is);
                few = (let same = length-AreLabels size scheme id (length parts) 1 parts job.labels its.labels in
                    let most = its.most in omega arith);
                tickets = refl;
                exports = refl;
              },
            );
      }

      lets : ((x : JobView) × (answer ≡ Ok x)) ⊎ (answer ≡ Err print_fault.Save) →
          Lets (PrintLeaves {A = A} (length labels) cut id) (HaveIts A) tell answer
      lets (inl x) = of_job x.0
          (subst (λ (a : Result JobView PrintFault). IfOk a (IsMade view.ledger size scheme document (Some ends_at))) x.1
          made_job)
          (λ y at. ok_once y x.0 (sym at ∙ x.1))
        where
          ok_once : (y z : JobView) → ◌≡◌ {A = Result JobView PrintFault} (Ok y) (Ok z) → y ≡ z
          ok_once y z e = cc (e)
      lets (inr at) = of_job (lost at).0 (lost at).1 (λ y is_ok. absurd (clash y (sym is_ok ∙ at)))
        where
          clash : (y : JobView) → ◌≡◌ {A = Result JobView PrintFault} (Ok y) (Err print_fault.Save) → ⊥
          clash y e = cc (e)

pub print_ends : {A : Type 0} (size : Size) (scheme : Scheme) (document : List ℕ) (stop : Stop) (view after : PrinterView)
    (actor new : PrinterActor A) (answer : Result JobView PrintFault) (reply result : Reply A)
    (labels all : List (LeftLabel A)) → actor ≡ actors.Running view → stops_before stop ≡ false →
    IsMadeUnder planned stop (λ old a now. Prints old size scheme document a now) view answer after →
    reply ≡ print_reply (length labels) answer → all ≡ labels ++ job_labels (most_labels stop) answer →
    result ≡ ended_reply stop reply → new ≡ state_after down_printer stop reply (actors.Running after) →
    EndsEach ShowsPrinter (MayLackFirst (Calls print_faults stop (PrintComes (length labels) document size scheme)))
    (λ goods. Left labels [] [] goods all [] []) actor result new
print_ends size scheme document stop view after actor new answer reply result labels all is made under reply_is all_is
    result_is new_is =
    by_cutting size scheme document stop view after actor new answer reply result labels all is made reply_is all_is
    result_is under.mid under.new_is new_is under.call.cutting under.call.is_cutting under.call.carries under.call.made
    under.call.lost

-- a job has at most 16 labels
pub few_labels : (ledger : LedgerView) (size : Size) (scheme : Scheme) (document : List ℕ) (cutting : Option (List ℕ))
    (job : JobView) → IsMade ledger size scheme document cutting job → length job.labels ≤ 16
few_labels ledger size scheme document None job is = absurd is
few_labels ledger size scheme document (Some ends_at) job is =
    let same = length-AreLabels size scheme (least ledger.free) (length (parts_from document 0 ends_at)) 1
    (parts_from document 0 ends_at) job.labels is.labels in
    let most = is.most in omega arith

pub most_sixteen : {stop : Stop} {old new : PrinterView} (size : Size) (scheme : Scheme) (document : List ℕ)
    (answer : Result JobView PrintFault) →
    IsMadeUnder planned stop (λ old a now. Prints old size scheme document a now) old answer new →
    IfOk answer (λ job. length job.labels ≤ 16)
most_sixteen {stop} {old} {new} size scheme document answer under =
    by_answer answer (subst (λ (o : Option (List ℕ)). IfOk answer (IsMade old.ledger size scheme document o)) refl
    under.call.made)
  where
    by_answer : (a : Result JobView PrintFault) → IfOk a (IsMade old.ledger size scheme document under.call.cutting) →
        IfOk a (λ job. length job.labels ≤ 16)
    by_answer (Ok job) made = few_labels old.ledger size scheme document under.call.cutting job made
    by_answer (Err fault) made = tt

-- ---- restarts

stored_store : {A : Type 0} (actor : PrinterActor A) (shown : Actor LedgerView) → ShowsPrinter actor shown →
    StoresLedger (saved_of actor) (stored_of shown)
stored_store actor shown s = grind arith

-- an honest store gives what it holds, unless memory is refused
module _ (saved : Saved) (stored : LedgerView) (number : ℕ) (store : StoresLedger saved stored)
    (own : stored.number ≡ number) where
  loads : (ledger : LedgerView) → LoadsLedger saved (open_verdict saved.content number) (Ok ledger) → ledger ≡ stored
  loads ledger l = grind arith

  refuses_memory : (fault : OpenFault) → LoadsLedger {X = LedgerView} saved (open_verdict saved.content number) (Err fault) →
      fault ≡ open_fault.Memory
  refuses_memory fault l = grind arith

pub restarted : {A : Type 0} (number : ℕ) (actor : PrinterActor A) (saved : Saved) (view : PrinterView) →
    saved ≡ saved_of actor → PrinterOpens saved number (Ok view) →
    RestartsAs number actor replies.Restarted (actors.Running view)
restarted {A} number actor saved view is opens shown s own =
    let store : StoresLedger saved (stored_of shown) =
    subst (λ (x : Saved). StoresLedger x (stored_of shown)) (sym is) (stored_store actor shown s) in
    let ledger : view.ledger ≡ stored_of shown = loads saved (stored_of shown) number store own view.ledger opens.0 in
    let saved_is : view.saved ≡ saved = ap (λ (v : PrinterView). v.saved) opens.1 in
    record {
      end = ending replies.Restarted (Running (stored_of shown)) no_goods;
      acts = inl refl;
      reply_is = refl;
      shows = (
        subst (λ (x : Saved). StoresLedger x (stored_of shown)) (sym saved_is) store,
        ap (λ (v : PrinterView). v.is_failed) opens.1,
        ledger,
      );
      lets = none_left [] [] [] no_goods empty;
    }

abbrev refused_so : (A : Type 0) → OpenFault → Reply A
refused_so A fault = replies.PrinterRefused fault

pub restart_refused : {A : Type 0} (number : ℕ) (actor : PrinterActor A) (saved back : Saved) (fault : OpenFault) →
    saved ≡ saved_of actor → PrinterOpens saved number (Err fault) → back ≡ saved →
    RestartsAs number actor (replies.PrinterRefused fault) (actors.Down back)
restart_refused {A} number actor saved back fault is opens back_is shown s own =
    let store : StoresLedger saved (stored_of shown) =
    subst (λ (x : Saved). StoresLedger x (stored_of shown)) (sym is) (stored_store actor shown s) in
    let memory : fault ≡ open_fault.Memory = refuses_memory saved (stored_of shown) number store own fault opens in
    record {
      end = ending (replies.PrinterRefused open_fault.Memory) (Down (stored_of shown)) no_goods;
      acts = inr refl;
      reply_is = ap (refused_so A) memory;
      shows = subst (λ (x : Saved). StoresLedger x (stored_of shown)) (sym back_is) store;
      lets = none_left [] [] [] no_goods empty;
    }
