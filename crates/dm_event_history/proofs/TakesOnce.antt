-- No ticket is taken twice, and none is refused since a number of it is free at its receiver.
use Rattle.std.proofs.Common.{◌≡◌, ◌≢◌, ◌+◌, ◌≤◌, ◌==◌, ◌||◌, inl, inr, ℕ, zero, suc, Bool, false, Some, List, [], ◌∷◌, ◌++◌, length, slice_get, refl, sym, ap, subst, ◌∙◌, arith, eq-eqb}
use Rattle.std.specs.Prelude.{IsSomeAnd}
use Rattle.dm_print_ledger.specs.declared.{range.Range.Range, fault.TakeFault.TakeFault}
use Rattle.dm_print_ledger.specs.Ledger.{last_taken, is_in, LedgerView, TicketView}
use Rattle.dm_print_ledger.proofs.InLaws.{HasFree}
use Rattle.dm_print_ledger.specs.declared.fault.TakeFault.TheVariants as take_fault
use Rattle.dm_event_history.specs.declared.{event.Event.Event, reply.Reply.Reply, reply.Reply.TheVariants.TakeRefused}
use Rattle.dm_event_history.specs.declared.event.Event.TheVariants.{Print, RestartPrinter, Give, Take}
use Rattle.dm_event_history.specs.{declared.stop.Stop.Stop, Told.EachRunTakesOnce}
use Rattle.dm_event_history.specs.Relay.{Actor, Running, Lost, Move, Relay, Took, Used, start}
use Rattle.dm_event_history.specs.Steps.{Answers, Calls, Course, Ending, LacksMemory, Saves, TakeComes, take_faults, Acts, PrinterGoes, Step, IsRun, Moment}
use Rattle.dm_event_history.specs.Headline.{AreDisjoint, RelayIsInOrder, RelayIsSound, is_taken, one_if}
use Rattle.dm_event_history.proofs.Deciding.{decided, same_or_other, other_number}
use Rattle.dm_event_history.proofs.{Numbers.free_some, Numbers.on_taken, QuietDesks.ChangesDesk, QuietDesks.quiet_desks}
use Rattle.dm_event_history.proofs.LedgerFacts.{IsOverlapping, old_or_new, overlap_free, take_refuses}
use Rattle.dm_event_history.proofs.Balance.{Balances, calls_balance, give_balanced, may_lack_balances, print_balanced, restarts_balance}
use Rattle.dm_event_history.proofs.{Taking.take_ends, Taking.untaken, Headline.each_run_is_sound}
use Rattle.dm_event_history.proofs.Answered.{Ended, IsOwn, is_answered}

-- ---- how often a ticket was taken

taken : List Move → ℕ → ℕ
taken [] ticket = 0
taken (Used id ∷ moves) ticket = taken moves ticket
taken (Took other ∷ moves) ticket = one_if (other == ticket) + taken moves ticket
taken (Lost range ∷ moves) ticket = taken moves ticket

taken_more : (xs ys : List Move) (k : ℕ) → taken (xs ++ ys) k ≡ taken xs k + taken ys k
unfolding taken
taken_more [] ys k = omega arith
taken_more (Used id ∷ xs) ys k = taken_more xs ys k
taken_more (Took other ∷ xs) ys k = (let more = taken_more xs ys k in omega arith)
taken_more (Lost range ∷ xs) ys k = taken_more xs ys k

or_false : (b c : Bool) → (b || c) ≡ false → (b ≡ false) × (c ≡ false)
or_false b c none = grind arith

taken_none : (xs : List Move) (k : ℕ) → is_taken xs k ≡ false → taken xs k ≡ 0
unfolding taken
taken_none [] k none = refl
taken_none (Used id ∷ xs) k none = taken_none xs k none
taken_none (Took other ∷ xs) k none =
    let apart = or_false (other == k) (is_taken xs k) none in
    let rest = taken_none xs k apart.1 in let e : one_if (other == k) ≡ 0 = ap one_if apart.0 in omega arith
taken_none (Lost range ∷ xs) k none = taken_none xs k none

-- a take counts at its place, and one that comes after it no less
taken_here : (move : Move) (moves : List Move) (k : ℕ) → Some move ≡ Some (Took k) → taken (move ∷ moves) k ≡ 1 + taken moves k
unfolding taken
taken_here move moves k is = grind (arith, eq-eqb)

taken_later : (move : Move) (moves : List Move) (k : ℕ) → taken moves k ≤ taken (move ∷ moves) k
unfolding taken
taken_later move moves k = grind arith

at_least_one : (moves : List Move) (i k : ℕ) → slice_get moves i ≡ Some (Took k) → 1 ≤ taken moves k
at_least_one [] i k is = cc (is)
at_least_one (move ∷ moves) zero k is = (let here = taken_here move moves k is in omega arith)
at_least_one (move ∷ moves) (suc i) k is =
    (let more = at_least_one moves i k is in let later = taken_later move moves k in omega arith)

just_one : (moves : List Move) (i j k : ℕ) → taken moves k ≤ 1 → slice_get moves i ≡ Some (Took k) →
    slice_get moves j ≡ Some (Took k) → i ≡ j
just_one [] i j k most is there = cc (is)
just_one (move ∷ moves) zero zero k most is there = refl
just_one (move ∷ moves) zero (suc j) k most is there =
    (let here = taken_here move moves k is in let more = at_least_one moves j k there in absurd (omega arith))
just_one (move ∷ moves) (suc i) zero k most is there =
    (let here = taken_here move moves k there in let more = at_least_one moves i k is in absurd (omega arith))
just_one (move ∷ moves) (suc i) (suc j) k most is there =
    (let later = taken_later move moves k in ap suc (just_one moves i j k (omega arith) is there))

-- ---- steps

abbrev AreTakenOnce : Relay → Type 0
AreTakenOnce relay = (ticket : ℕ) → taken relay.moves ticket ≤ 1

quiet_once : (old : Relay) (moves : List Move) → AreTakenOnce old → ((k : ℕ) → is_taken moves k ≡ false) → (k : ℕ) →
    taken (old.moves ++ moves) k ≤ 1
quiet_once old moves once none k =
    (let m = taken_more old.moves moves k in let z = taken_none moves k (none k) in let o = once k in omega arith)

taken_once : (old : Relay) (moves : List Move) (n : ℕ) → AreTakenOnce old → is_taken old.moves n ≡ false →
    moves ≡ Took n ∷ [] → (k : ℕ) → taken (old.moves ++ moves) k ≤ 1
unfolding taken
taken_once old moves n once free is k =
    grind (arith, eq-eqb, other_number, same_or_other, taken, taken_more, taken_none)

printer_once : {A : Type 0} (old new : Relay) (printer : ℕ) (Acts : Actor LedgerView → Ending A LedgerView → Type 0)
    (reply : Reply A) → AreTakenOnce old → Balances Acts → PrinterGoes old printer Acts reply new → AreTakenOnce new
printer_once old new printer Acts reply once each g = grind (arith, quiet_once)

desk_once : (old new : Relay) → AreTakenOnce old → ChangesDesk old new → AreTakenOnce new
desk_once old new once c = grind (arith, quiet_once)

taker_once : {A : Type 0} (old new : Relay) (printer number : ℕ) (ticket : TicketView) (stop : Stop) (reply : Reply A) →
    AreTakenOnce old → RelayIsInOrder old → slice_get old.tickets number ≡ Some ticket →
    PrinterGoes old printer (Calls take_faults stop (TakeComes number ticket)) reply new → AreTakenOnce new
taker_once old new printer number ticket stop reply once order there g =
    subst (λ (r : Relay). AreTakenOnce r) (sym g.new_is)
    (elim (take_ends stop number ticket g.actor g.end g.acts) [
      | inl b ↦ quiet_once old g.end.goods.moves once b.none_taken
      | inr t ↦ taken_once old g.end.goods.moves number once
          (untaken old printer number ticket g.actor g.end.actor g.end.goods order g.was there t) t.moves_are
    ])

acts_once : {A : Type 0} (old new : Relay) (event : Event A) (reply : Reply A) → RelayIsInOrder old → AreTakenOnce old →
    Acts old event reply new → AreTakenOnce new
acts_once old new (Print printer document size scheme stop) reply order once acts =
    printer_once old new printer _ reply once
    (may_lack_balances _ (calls_balance _ stop _ (print_balanced (length old.labels) document size scheme))) acts
acts_once old new (Give printer receiver range stop) reply order once acts =
    printer_once old new printer _ reply once
    (may_lack_balances _ (calls_balance _ stop _ (give_balanced (length old.tickets) receiver range))) acts
acts_once old new (Take printer number stop) reply order once acts =
    taker_once old new printer number acts.0 stop reply once order acts.1 acts.2
acts_once old new (RestartPrinter printer) reply order once acts =
    printer_once old new printer _ reply once (restarts_balance _) acts
acts_once old new event reply order once acts = desk_once old new once (quiet_desks old new event reply tt acts)

-- ---- a take is never refused for an overlap

own_overlap : {A : Type 0} → IsOwn {A = A} take_faults (TakeRefused take_fault.Overlap)
own_overlap = grind arith

no_overlap : {A : Type 0} (old new : Relay) (printer number : ℕ) (ticket : TicketView) (stop : Stop) →
    RelayIsSound old → slice_get old.tickets number ≡ Some ticket →
    PrinterGoes {A = A} old printer (Calls take_faults stop (TakeComes number ticket)) (TakeRefused take_fault.Overlap) new →
    ⊥
no_overlap {A} old new printer number ticket stop sound there g =
    let ans = is_answered take_faults stop (TakeComes number ticket) g.actor g.end (TakeRefused take_fault.Overlap)
    own_overlap g.acts (sym g.reply_is) in
    clash ans.held (g.was ∙ ap (λ (a : Actor LedgerView). Some a) ans.was)
    (by_course ans.held ans.course ans.comes ans.ended)
  where
    fault_is : {f : TakeFault} → ◌≡◌ {A = Reply A} (TakeRefused f) (TakeRefused take_fault.Overlap) →
        f ≡ take_fault.Overlap
    fault_is e = cc (e)

    by_course : (held : LedgerView) (course : Course A LedgerView) → TakeComes number ticket held course →
        Ended course held (TakeRefused take_fault.Overlap) g.end.actor →
        IsOverlapping held ticket × HasFree held.free ticket.range
    by_course held (Saves next goods reply) comes ended = (let e = sym comes.2.1.1 ∙ ended.0 in cc (e))
    by_course held (Answers reply) comes ended = grind (arith, fault_is, overlap_free, take_refuses)
    by_course held LacksMemory comes ended = absurd ended

    clash : (held : LedgerView) → slice_get old.printers printer ≡ Some (Running held) →
        IsOverlapping held ticket × HasFree held.free ticket.range → ⊥
    clash held was cannot =
        let own : ticket.receiver ≡ printer = cannot.0.is_for ∙ sound.order.numbers printer (Running held) was in
        let m : ℕ = cannot.1.0 in
        let free = free_some old.printers printer m (Running held) was cannot.1.2 in
        let one : one_if (is_in ticket.range m) ≡ 1 = ap one_if cannot.1.1 in
        let on = on_taken old.moves 0 number old.tickets ticket number m there (omega arith) (untaken_so own) in
        let most = sound.apart m in
        absurd (omega arith)
      where
        untaken_so : ticket.receiver ≡ printer → is_taken old.moves number ≡ false
        untaken_so own = elim (decided (is_taken old.moves number)) [
          | inl so ↦
              let noted = sound.order.noted number so in
              let same_some : Some noted.ticket ≡ Some ticket = sym noted.there ∙ there in
              let same : noted.ticket ≡ ticket = cc (same_some) in
              let at : slice_get old.printers noted.ticket.receiver ≡ Some (Running held) =
              subst (λ (p : ℕ). slice_get old.printers p ≡ Some (Running held))
              (sym (ap (λ (x : TicketView). x.receiver) same ∙ own)) was in
              let last = subst (λ (x : TicketView). IsSomeAnd (last_taken held.givers x.giver)
              (λ last. x.serial ≤ last)) same (noted.noted (Running held) at) in
              absurd (old_or_new (last_taken held.givers ticket.giver) ticket.serial last cannot.0.is_new)
          | inr none ↦ none
        ]

-- ---- runs

run_once : (A : Type 0) (ranges : List Range) (capacities : List ℕ) (h : List (Moment A)) (end : Relay) →
    AreDisjoint ranges → IsRun (start ranges capacities) h end → AreTakenOnce end
unfolding taken
run_once A ranges capacities [] end apart run =
    subst (λ (r : Relay). AreTakenOnce r) (sym run) (λ k. omega arith)
run_once A ranges capacities (moment ∷ earlier) end apart run =
    by_step (run_once A ranges capacities earlier moment.before apart run.0)
    (each_run_is_sound A ranges capacities earlier moment.before apart run.0).0.order run.1
  where
    by_step : AreTakenOnce moment.before → RelayIsInOrder moment.before →
        Step moment.before moment.event moment.reply end → AreTakenOnce end
    by_step once order (inl acts) = acts_once moment.before end moment.event moment.reply order once acts.1
    by_step once order (inr none) = subst (λ (r : Relay). AreTakenOnce r) (sym none.2) once

run_never : (A : Type 0) (ranges : List Range) (capacities : List ℕ) (h : List (Moment A)) (end : Relay) →
    AreDisjoint ranges → IsRun (start ranges capacities) h end → (i printer ticket : ℕ) (stop : Stop) (moment : Moment A) →
    slice_get h i ≡ Some moment → moment.event ≡ Take printer ticket stop →
    moment.reply ≢ TakeRefused take_fault.Overlap
run_never A ranges capacities [] end apart run i printer ticket stop moment is asked told = cc (is)
run_never A ranges capacities (own ∷ earlier) end apart run zero printer ticket stop moment is asked told =
    let same : own ≡ moment = cc (is) in
    by_step (each_run_is_sound A ranges capacities earlier own.before apart run.0).0
    (subst (λ (e : Event A). Step own.before e (TakeRefused take_fault.Overlap) end)
    (ap (λ (m : Moment A). m.event) same ∙ asked)
    (subst (λ (r : Reply A). Step own.before own.event r end) (ap (λ (m : Moment A). m.reply) same ∙ told) run.1))
  where
    by_step : RelayIsSound own.before →
        Step {A = A} own.before (Take printer ticket stop) (TakeRefused take_fault.Overlap) end → ⊥
    by_step sound (inl acts) = no_overlap own.before end printer ticket acts.1.0 stop sound acts.1.1 acts.1.2
    by_step sound (inr none) = (let e = none.1 in cc (e))
run_never A ranges capacities (own ∷ earlier) end apart run (suc i) printer ticket stop moment is asked told =
    run_never A ranges capacities earlier own.before apart run.0 i printer ticket stop moment is asked told

pub each_run_takes_once : (A : Type 0) → EachRunTakesOnce A
each_run_takes_once A ranges capacities h end apart run = record {
  once = λ i j k is there. just_one end.moves i j k (run_once A ranges capacities h end apart run k) is there;
  never = run_never A ranges capacities h end apart run;
}
