-- What a printer stores, over a run: `Exhausted` is answered only where no number is free, since what the printer began
-- with and took is used and given away; its next serial is the number of its gives that saved; and its givers are those of
-- its takes that saved.
use Rattle.std.proofs.Common.{◌≡◌, ◌≢◌, ◌⊎◌, ◌+◌, ◌<◌, ◌==◌, ◌&&◌, ◌||◌, not, inl, inr, ℕ, zero, suc, Bool, true, false, true≢false, Ok, Option, None, Some, List, [], ◌∷◌, length, slice_get, slice_set, refl, sym, ap, subst, ◌∙◌, arith, eq-eqb}
use Rattle.std.specs.{Prelude.IfSome, Prelude.is_some, Prelude.option_map, Option.option_map_or}
use Rattle.std.proofs.lemmas.Bool.Decides.{nat_tests}
use Rattle.dm_size.specs.declared.size.Size.{Size}
use Rattle.dm_encodation.specs.declared.scheme.Scheme.{Scheme}
use Rattle.dm_print_ledger.specs.Ledger.{free_count, is_range, last_taken, size_of, LedgerView, TicketView}
use Rattle.dm_print_ledger.specs.Verdicts.{give_verdict, print_verdict, take_verdict}
use Rattle.dm_print_ledger.specs.declared.range.Range.{Range}
use Rattle.dm_print_ledger.specs.declared.fault.OpenFault.TheVariants as open_fault
use Rattle.dm_print_ledger.specs.declared.fault.PrintFault.TheVariants as print_fault
use Rattle.dm_event_history.specs.declared.{event.Event.Event, reply.Reply.Reply, reply.Reply.TheVariants.PrintRefused}
use Rattle.dm_event_history.specs.declared.event.Event.TheVariants.{Print, RestartPrinter, Give, Take}
use Rattle.dm_event_history.specs.declared.reply.Reply.TheVariants as replies
use Rattle.dm_store.specs.declared.fuse.Kept.TheVariants.{Old}
use Rattle.dm_event_history.specs.declared.stop.Stop.{Stop}
use Rattle.dm_event_history.specs.declared.stop.Stop.TheVariants as stops
use Rattle.dm_event_history.specs.declared.stop.Stop.TheVariants.{BeforeSave, InSave, SaveFault}
use Rattle.dm_event_history.specs.Told.{CountsTickets, EachExhaustedIsSo, EachRunCountsTickets, EachTakeIsLater, gains, gives, has_saved, loses, serial_from, stock, stored_at, sum_saved, tells_of_save}
use Rattle.dm_event_history.specs.Steps.{Named, PrinterAt, actor_of, is_same, leaves_new, may_save, stop_of, Acts, PrinterGoes, Step, IsRun, Moment, Answers, Calls, Course, Ending, Faults, LacksMemory, MayLackFirst, Reaches, Restarts, Saves, ends, GiveComes, PrintComes, TakeComes, give_faults, print_faults, take_faults}
use Rattle.dm_event_history.specs.Relay.{Actor, Running, Failed, stored_of, Goods, Relay, fresh_from, start}
use Rattle.dm_event_history.proofs.{Deciding.other_number, Having.saves_may, Having.Stores}
use Rattle.dm_event_history.proofs.ByKind.{ArePlain, IsPlainCourse, fine_give, fine_print, fine_take, give_plain, print_plain, take_plain}
use Rattle.dm_event_history.proofs.LedgerFacts.{give_loses, made_print, print_refuses, take_gains}
use Rattle.dm_event_history.proofs.Reasons.{own_print, print_refused}
use Rattle.dm_event_history.proofs.QuietDesks.{ChangesDesk, quiet_desks}

-- ---- what a call stores

pub record HasSaved {A C : Type 0} (faults : Faults A) (stop : Stop) (Comes : C → Course A C → Type 0) (actor : Actor C)
    (end : Ending A C) : Type 0 where
  pub held : C
  pub was : actor ≡ Running held
  pub next : C
  pub goods : Goods
  pub reply : Reply A
  pub comes : Comes held (Saves next goods reply)
  pub stores : Stores stop
  pub told : end.reply ≡ (ends faults stop (Saves next goods reply) (Running held)).reply
  pub stored_is : stored_of end.actor ≡ next

-- what is stored is left, and the reply tells of no save
abbrev IsIdle : {A C : Type 0} → Actor C → Ending A C → Type 0
IsIdle actor end = (stored_of end.actor ≡ stored_of actor) × (tells_of_save end.reply ≡ false)

ends_store : {A C : Type 0} (faults : Faults A) (stop : Stop) (Comes : C → Course A C → Type 0) (held : C)
    (course : Course A C) → ArePlain faults → ((came : Course A C) → Comes held came → IsPlainCourse came) →
    Reaches stop (Comes held course) →
    (let e = ends faults stop course (Running held) in IsIdle (Running held) e ⊎ HasSaved faults stop Comes (Running held) e)
ends_store faults BeforeSave Comes held course plain each came = inl (refl, refl)
ends_store faults (InSave Old) Comes held course plain each came = inl (refl, refl)
ends_store faults (SaveFault Old) Comes held (Saves next goods reply) plain each came = inl (refl, plain.save_untold)
ends_store faults stop Comes held (Saves next goods reply) plain each came = grind arith
ends_store faults stops.None Comes held (Answers reply) plain each came = inl (refl, (each (Answers reply) came).1)
ends_store faults (SaveFault kept) Comes held (Answers reply) plain each came = inl (refl, (each (Answers reply) came).1)
ends_store faults stops.None Comes held LacksMemory plain each came = inl (refl, plain.memory_untold)
ends_store faults (SaveFault kept) Comes held LacksMemory plain each came = inl (refl, plain.memory_untold)
ends_store faults stop Comes held course plain each came = inl (refl, refl)

failed_store : {A C : Type 0} (faults : Faults A) (stop : Stop) (shown stored : C) →
    tells_of_save faults.failed ≡ false →
    IsIdle (Failed shown stored) (ends faults stop (Answers faults.failed) (Failed shown stored))
failed_store faults stop shown stored quiet = grind arith

-- a call is idle, or it has saved
calls_store : {A C : Type 0} (faults : Faults A) (stop : Stop) (Comes : C → Course A C → Type 0) (actor : Actor C)
    (end : Ending A C) → ArePlain faults →
    ((held : C) (course : Course A C) → Comes held course → IsPlainCourse course) →
    Calls faults stop Comes actor end →
    IsIdle actor end ⊎ HasSaved faults stop Comes actor end
calls_store {A} {C} faults stop Comes actor end plain each acts = grind (arith, ends_store, failed_store)

-- ---- what an event that saved makes

abbrev stored_count : Actor LedgerView → ℕ
stored_count actor = free_count (stored_of actor).free

-- what an event that saved makes of the ledger that its printer stores
abbrev Makes : {A : Type 0} → Relay → Event A → LedgerView → LedgerView → Type 0
Makes before event old new = (free_count old.free + gains before event ≡ free_count new.free + loses before event)
    × (new.next_serial ≡ gives before event + old.next_serial)
    × ((giver : ℕ) → last_taken new.givers giver
    ≡ option_map_or (λ serial. Some serial) (serial_from before event giver) (last_taken old.givers giver))
    × ((giver serial : ℕ) → serial_from before event giver ≡ Some serial
    → IfSome (last_taken old.givers giver) (λ last. last < serial))

-- what is stored stays, or the event saved
abbrev Outcome : Bool → Option LedgerView → Option LedgerView → (LedgerView → LedgerView → Type 0) → Type 0
Outcome saved old new Makes = ((saved ≡ false) × (new ≡ old))
    ⊎ ((saved ≡ true) × (held : LedgerView) × (next : LedgerView) × (old ≡ Some held) × (new ≡ Some next) × Makes held next)

abbrev Keeps : {A : Type 0} → Relay → Event A → (Actor LedgerView → Ending A LedgerView → Type 0) → Type 0
Keeps {A} before event Acts = (actor : Actor LedgerView) (end : Ending A LedgerView) → Acts actor end →
    Outcome (may_save event end.reply && (tells_of_save end.reply || not (stored_count actor == stored_count end.actor)))
    (Some (stored_of actor)) (Some (stored_of end.actor)) (Makes before event)

quiet : (may told : Bool) (old new : ℕ) → old ≡ new → told ≡ false → (may && (told || not (old == new))) ≡ false
quiet may told old new same untold = grind (arith, eq-eqb)

changed : (may told : Bool) (old new : ℕ) → may ≡ true → old ≢ new → (may && (told || not (old == new))) ≡ true
changed may told old new may_be apart = grind (arith, nat_tests)

calls_make : {A : Type 0} (before : Relay) (event : Event A) (faults : Faults A) (stop : Stop)
    (Comes : LedgerView → Course A LedgerView → Type 0) → stop_of event ≡ Some stop → ArePlain faults →
    may_save event faults.save ≡ leaves_new (stop_of event) →
    ((held : LedgerView) (course : Course A LedgerView) → Comes held course → IsPlainCourse course) →
    ((held next : LedgerView) (goods : Goods) (reply : Reply A) → Comes held (Saves next goods reply) →
    (may_save event reply ≡ true) × (free_count held.free ≢ free_count next.free) × Makes before event held next) →
    Keeps before event (Calls faults stop Comes)
calls_make {A} before event faults stop Comes is plain save each saves actor end acts =
    elim (calls_store faults stop Comes actor end plain each acts) [
      | inl idle ↦ inl (
        quiet _ _ _ _ (ap (λ (l : LedgerView). free_count l.free) (sym idle.0)) idle.1,
        ap (λ (l : LedgerView). Some l) idle.0,
      )
      | inr s ↦
          let made = saves s.held s.next s.goods s.reply s.comes in
          let held = ap (λ (a : Actor LedgerView). stored_of a) s.was in
          inr (
            changed _ _ _ _ (ap (λ (r : Reply A). may_save event r) s.told
                ∙ saves_may event faults stop s.next s.goods s.reply (Running s.held) is save made.0 s.stores)
                (λ same. made.1 (ap (λ (l : LedgerView). free_count l.free) (sym held) ∙ same
                ∙ ap (λ (l : LedgerView). free_count l.free) s.stored_is)),
            s.held,
            s.next,
            ap (λ (l : LedgerView). Some l) held,
            ap (λ (l : LedgerView). Some l) s.stored_is,
            made.2,
          )
    ]

may_lack_makes : {A : Type 0} (before : Relay) (event : Event A) (Acts : Actor LedgerView → Ending A LedgerView → Type 0) →
    Keeps before event Acts → Keeps before event (MayLackFirst Acts)
may_lack_makes {A} before event Acts each actor end lack = grind (arith, quiet)

-- an event that is neither a give nor a take, and leaves serials and givers
plain_makes : {A : Type 0} (before : Relay) (event : Event A) (old new : LedgerView) →
    free_count old.free + gains before event ≡ free_count new.free + loses before event → gives before event ≡ 0 →
    ((giver : ℕ) → serial_from before event giver ≡ None) → new.next_serial ≡ old.next_serial → new.givers ≡ old.givers →
    Makes before event old new
plain_makes before event old new count none nothing serial givers = grind arith

-- ---- call by call

print_stays : (old next : LedgerView) (has_parts : Bool) → print_verdict old has_parts ≡ Ok next →
    (next.next_serial ≡ old.next_serial) × (next.givers ≡ old.givers)
print_stays old next has_parts is = grind arith

give_counts : (old next : LedgerView) (receiver : ℕ) (range : Range) → give_verdict old receiver range ≡ Ok next →
    (is_range range ≡ true) × (next.next_serial ≡ old.next_serial + 1) × (next.givers ≡ old.givers)
give_counts old next receiver range is = grind arith

take_stays : (old next : LedgerView) (ticket : TicketView) → take_verdict old ticket ≡ Ok next →
    next.next_serial ≡ old.next_serial
take_stays old next ticket is = grind arith

some_size : (range : Range) → is_range range ≡ true → 0 < size_of range
some_size range is = grind arith

print_makes : {A : Type 0} (old : Relay) (printer : ℕ) (document : List ℕ) (size : Size) (scheme : Scheme) (stop : Stop) →
    Keeps {A = A} old (Print printer document size scheme stop)
    (MayLackFirst (Calls print_faults stop (PrintComes (length old.labels) document size scheme)))
print_makes {A} old printer document size scheme stop =
    let event : Event A = Print printer document size scheme stop in
    may_lack_makes old event _ (calls_make old event print_faults stop _ refl
    fine_print refl (print_plain (length old.labels) document size scheme)
    (λ held next goods reply comes.
    let made = made_print (length old.labels) document size scheme held next goods reply comes in
    let stays = print_stays held next (is_some comes.1) comes.3.0 in (
      ap (λ (r : Reply A). may_save event r) made.left.reply_is,
      (λ same. let count = made.uses.loses.free.count in absurd (omega (arith, same))),
      plain_makes old event held next (let count = made.uses.loses.free.count in omega arith) refl (λ giver. refl) stays.0 stays.1,
    )))

give_makes : {A : Type 0} (old : Relay) (printer receiver : ℕ) (range : Range) (stop : Stop) →
    Keeps {A = A} old (Give printer receiver range stop)
    (MayLackFirst (Calls give_faults stop (GiveComes (length old.tickets) receiver range)))
give_makes {A} old printer receiver range stop =
    let event : Event A = Give printer receiver range stop in
    may_lack_makes old event _ (calls_make old event give_faults stop _ refl
    fine_give refl (give_plain (length old.tickets) receiver range)
    (λ held next goods reply comes.
    let counts = give_counts held next receiver range comes.1.0 in (
      ap (λ (r : Reply A). may_save event r) comes.1.1.1,
      (λ same. let count = (give_loses held next receiver range comes.0 comes.1.0).free.count in
          let some = some_size range counts.0 in absurd (omega (arith, same))),
      (
        (let count = (give_loses held next receiver range comes.0 comes.1.0).free.count in omega arith),
        (let serial = counts.1 in omega arith),
        (λ giver. ap (λ gs. last_taken gs giver) counts.2),
        (λ giver serial is. cc (is)),
      ),
    )))

take_makes : {A : Type 0} (old : Relay) (printer number : ℕ) (ticket : TicketView) (stop : Stop) →
    slice_get old.tickets number ≡ Some ticket →
    Keeps {A = A} old (Take printer number stop) (Calls take_faults stop (TakeComes number ticket))
take_makes {A} old printer number ticket stop there =
    calls_make {A = A} old (Take printer number stop) take_faults stop _ refl fine_take refl (take_plain number ticket)
    (λ held next goods reply comes.
    let made = take_gains held next ticket comes.0 comes.1 comes.2.0 in (
      ap (λ (r : Reply A). may_save (Take printer number stop) r) comes.2.1.1,
      (λ same. let count = made.free.count in
          let some = some_size ticket.range comes.1 in absurd (omega (arith, same))),
      (
        (let count = made.free.count in
            let gain = ap (λ (o : Option TicketView). option_map_or (λ (t : TicketView). size_of t.range) o 0) there in omega arith),
        (let serial = take_stays held next ticket comes.2.0 in grind arith),
        (λ giver. let last = made.givers.last giver in grind arith),
        (λ giver serial is. let new = made.is_new in grind (arith, eq-eqb)),
      ),
    ))

restart_makes : {A : Type 0} (old : Relay) (printer : ℕ) →
    Keeps {A = A} old (RestartPrinter printer) (Restarts (replies.PrinterRefused open_fault.Memory))
restart_makes {A} old printer actor end is = grind (arith, quiet)

-- ---- steps

-- what stands at a place once another element was put somewhere
set_or : {X : Type 0} (xs : List X) (i j : ℕ) (x y : X) → slice_get xs i ≡ Some y →
    ((i ≡ j) × (slice_get (slice_set xs i x) j ≡ Some x))
    ⊎ ((i ≢ j) × (slice_get (slice_set xs i x) j ≡ slice_get xs j))
set_or [] i j x y is = cc (is)
set_or (z ∷ zs) zero zero x y is = inl (refl, refl)
set_or (z ∷ zs) zero (suc j) x y is = inr ((λ e. absurd (omega (arith, e))), refl)
set_or (z ∷ zs) (suc i) zero x y is = inr ((λ e. absurd (omega (arith, e))), refl)
set_or (z ∷ zs) (suc i) (suc j) x y is = grind (arith, (set_or zs i j x y is))

-- what is stored at a printer by a step, whichever printer acts
module _ (A : Type 0) (old new : Relay) (event : Event A) (reply : Reply A) where
  abbrev StepStores : Type 0
  StepStores = (p : ℕ) → Outcome (has_saved (record { before = old; event = event; reply = reply }) new p)
      (stored_at old p) (stored_at new p) (Makes old event)

  printer_makes : (printer : ℕ) (Acts : Actor LedgerView → Ending A LedgerView → Type 0) →
      actor_of event ≡ PrinterAt printer → Keeps old event Acts → PrinterGoes old printer Acts reply new → StepStores
  printer_makes printer Acts named each g p = elim (set_or old.printers printer p g.end.actor g.actor g.was) [
    | inl here ↦
        let was = subst (λ (k : ℕ). slice_get old.printers k ≡ Some g.actor) here.0 g.was in
        let same = ap (λ (who : Named). is_same who (PrinterAt p)) named ∙ eq-eqb printer p here.0 in
        let stored = each g.actor g.end g.acts in
        grind (arith, here.1, g.new_is, g.reply_is)
    | inr there ↦
        let other = ap (λ (who : Named). is_same who (PrinterAt p)) named ∙ other_number printer p there.0 in
        grind (arith, there.1, g.new_is)
  ]

  desk_makes : ((p : ℕ) → is_same (actor_of event) (PrinterAt p) ≡ false) → ChangesDesk old new → StepStores
  desk_makes other c p = grind arith

acts_make : (A : Type 0) (old new : Relay) (event : Event A) (reply : Reply A) → Acts old event reply new →
    StepStores A old new event reply
acts_make A old new (Print printer document size scheme stop) reply acts =
    printer_makes A old new (Print printer document size scheme stop) reply printer _ refl
    (print_makes old printer document size scheme stop) acts
acts_make A old new (Give printer receiver range stop) reply acts =
    printer_makes A old new (Give printer receiver range stop) reply printer _ refl
    (give_makes old printer receiver range stop) acts
acts_make A old new (Take printer number stop) reply acts =
    printer_makes A old new (Take printer number stop) reply printer _ refl
    (take_makes old printer number acts.0 stop acts.1) acts.2
acts_make A old new (RestartPrinter printer) reply acts =
    printer_makes A old new (RestartPrinter printer) reply printer _ refl (restart_makes old printer) acts
acts_make A old new event reply acts = grind (arith, desk_makes, quiet_desks)

step_makes : (A : Type 0) (old new : Relay) (event : Event A) (reply : Reply A) → Step old event reply new →
    StepStores A old new event reply
step_makes A old new event reply step p = grind (arith, acts_make)

-- ---- runs

fresh_stock : (from : ℕ) (ranges : List Range) (p : ℕ) (range : Range) → slice_get ranges p ≡ Some range →
    option_map_or stored_count (slice_get (fresh_from from ranges) p) 0 ≡ size_of range
fresh_stock from [] p range there = cc (there)
fresh_stock from (own ∷ ranges) zero range there = grind arith
fresh_stock from (own ∷ ranges) (suc p) range there = fresh_stock (from + 1) ranges p range there

-- what a printer began with and took is what it stores and what it used and gave
run_counts : (A : Type 0) (ranges : List Range) (capacities : List ℕ) (h : List (Moment A)) (end : Relay) (p : ℕ)
    (range : Range) → IsRun (start ranges capacities) h end → slice_get ranges p ≡ Some range →
    size_of range + sum_saved gains h end p ≡ stock end p + sum_saved loses h end p
run_counts A ranges capacities [] end p range run there =
    let same = ap (λ (r : Relay). stock r p) run in let s = fresh_stock 0 ranges p range there in omega arith
run_counts A ranges capacities (moment ∷ earlier) end p range run there =
    grind (arith, step_makes, (run_counts A ranges capacities earlier moment.before p range run.0 there))

none_free : {A : Type 0} (old new : Relay) (printer : ℕ) (document : List ℕ) (size : Size) (scheme : Scheme)
    (stop : Stop) →
    Step {A = A} old (Print printer document size scheme stop) (PrintRefused print_fault.Exhausted) new →
    stock old printer ≡ 0
none_free old new printer document size scheme stop step = grind (arith, own_print, print_refused, print_refuses)

pub each_exhausted_is_so : (A : Type 0) → EachExhaustedIsSo A
each_exhausted_is_so A ranges capacities moment earlier end printer range document size scheme stop run asked there told =
    grind (arith, none_free, run_counts)

fresh_serial : (from : ℕ) (ranges : List Range) (capacities : List ℕ) (p : ℕ) →
    (let stored = option_map (λ (actor : Actor LedgerView). stored_of actor) (slice_get (fresh_from from ranges) p) in
    (option_map_or (λ (ledger : LedgerView). ledger.next_serial) stored 0 ≡ 0)
    × ((giver : ℕ) → option_map_or (λ (ledger : LedgerView). last_taken ledger.givers giver) stored None ≡ None))
fresh_serial from [] capacities p = (refl, λ giver. refl)
fresh_serial from (own ∷ ranges) capacities zero = (refl, λ giver. refl)
fresh_serial from (own ∷ ranges) capacities (suc p) = fresh_serial (from + 1) ranges capacities p

pub each_run_counts_tickets : (A : Type 0) → EachRunCountsTickets A
each_run_counts_tickets A ranges capacities [] end p run =
    let fresh = fresh_serial 0 ranges capacities p in
    subst (λ (r : Relay). CountsTickets {A = A} [] r p) (sym run) (record { gave = fresh.0; took = fresh.1 })
each_run_counts_tickets A ranges capacities (moment ∷ earlier) end p run =
    by_step (each_run_counts_tickets A ranges capacities earlier moment.before p run.0)
    (step_makes A moment.before end moment.event moment.reply run.1 p)
  where
    by_step : CountsTickets earlier moment.before p →
        Outcome (has_saved moment end p) (stored_at moment.before p) (stored_at end p) (Makes moment.before moment.event) →
        CountsTickets (moment ∷ earlier) end p
    by_step before (inl stays) = record { gave = let gave = before.gave in grind arith; took = λ giver. let took = before.took giver in grind arith }
    by_step before (inr (saved, held, next, was, is, makes)) = record {
      gave = let gave = before.gave in let serial = makes.1 in grind arith;
      took = λ giver. let took = before.took giver in let last = makes.2 giver in grind arith;
    }

pub each_take_is_later : (A : Type 0) → EachTakeIsLater A
each_take_is_later A ranges capacities moment earlier end p giver serial last run saved taken newest =
    by_step (each_run_counts_tickets A ranges capacities earlier moment.before p run.0)
    (step_makes A moment.before end moment.event moment.reply run.1 p)
  where
    by_step : CountsTickets earlier moment.before p →
        Outcome (has_saved moment end p) (stored_at moment.before p) (stored_at end p) (Makes moment.before moment.event) →
        last < serial
    by_step before (inl stays) = absurd (true≢false (sym saved ∙ stays.0))
    by_step before (inr (so, held, next, was, is, makes)) =
        let took = before.took giver in let later = makes.3 giver serial taken in grind arith
