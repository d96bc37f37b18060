-- The printers and desks of a run are down, and have failed, as its replies tell.
use Rattle.std.proofs.Common.{arith, ◌≡◌, ◌+◌, inl, inr, ℕ, zero, suc, Bool, true, false, Some, List, [], ◌∷◌, slice_get, sym, ap, subst, ◌∙◌, eq-eqb}
use Rattle.dm_print_ledger.specs.{declared.range.Range.Range, Verdicts.opening, Ledger.LedgerView}
use Rattle.dm_assembly_desk.specs.Documents.{Documents}
use Rattle.dm_event_history.specs.declared.{event.Event.Event, reply.Reply.Reply, stop.Stop.Stop}
use Rattle.dm_event_history.specs.declared.reply.Reply.TheVariants as replies
use Rattle.dm_event_history.specs.Steps.{DeskAt, Named, PrinterAt, actor_of, is_same, Acts, DeskGoes, PrinterGoes, Step, Moment, Answers, Calls, Course, Ending, Faults, Looks, MayLackFirst, Reaches, Restarts, ends}
use Rattle.dm_event_history.specs.Relay.{Actor, Running, Failed, Goods, Relay, fresh_from}
use Rattle.dm_event_history.specs.Told.{AreAsTold, EachRunIsAsTold, IsAsTold, down_after, failed_after, is_down, is_failed}
use Rattle.dm_event_history.proofs.{Deciding.other_number, Beginning.empty_there, Reaching.reaches, Gotten.set_at}
use Rattle.dm_event_history.proofs.ByKind.{ArePlain, IsPlainAnswer, IsPlainCourse, by_kind}

-- ---- how a call ends

told_ends : {A C : Type 0} (faults : Faults A) (stop : Stop) (course : Course A C) (held : C) → ArePlain faults →
    Reaches stop (IsPlainCourse course) →
    (let e = ends faults stop course (Running held) in
    IsAsTold (down_after e.reply false) (failed_after e.reply false) e.actor)
told_ends faults stop course held fine plain = grind arith

failed_ends : {A C : Type 0} (faults : Faults A) (stop : Stop) (shown stored : C) → ArePlain faults →
    (let e = ends faults stop (Answers faults.failed) (Failed shown stored) in
    IsAsTold (down_after e.reply false) (failed_after e.reply true) e.actor)
failed_ends faults stop shown stored fine = grind arith

-- the one that acts is as it tells, if it was
abbrev Tells : {A C : Type 0} → (Actor C → Ending A C → Type 0) → Type 0
Tells {A} {C} Acts = (actor : Actor C) (end : Ending A C) (down failed : Bool) → IsAsTold down failed actor →
    Acts actor end → IsAsTold (down_after end.reply down) (failed_after end.reply failed) end.actor

told_of : {A C : Type 0} (down failed : Bool) (end known : Ending A C) → end ≡ known →
    IsAsTold (down_after known.reply down) (failed_after known.reply failed) known.actor →
    IsAsTold (down_after end.reply down) (failed_after end.reply failed) end.actor
told_of {A} {C} down failed end known is t = grind arith

by_flags : {A C : Type 0} (down failed d f : Bool) (end : Ending A C) → down ≡ d → failed ≡ f →
    IsAsTold (down_after end.reply d) (failed_after end.reply f) end.actor →
    IsAsTold (down_after end.reply down) (failed_after end.reply failed) end.actor
by_flags {A} {C} down failed d f end x y t = grind arith

calls_tell : {A C : Type 0} (faults : Faults A) (stop : Stop) (Comes : C → Course A C → Type 0) → ArePlain faults →
    ((held : C) (course : Course A C) → Comes held course → IsPlainCourse course) → Tells (Calls faults stop Comes)
calls_tell faults stop Comes fine each held end down failed t acts =
    grind (arith, by_flags, failed_ends, reaches, told_ends, told_of)

may_lack_tells : {A C : Type 0} (Acts : Actor C → Ending A C → Type 0) → Tells Acts → Tells (MayLackFirst Acts)
may_lack_tells Acts each held end down failed t acts = grind arith

restarts_tell : {A C : Type 0} (refused : Reply A) → ((b : Bool) → down_after refused b ≡ true) →
    Tells (Restarts {A = A} {C = C} refused)
restarts_tell refused down_so actor end down failed t is = grind arith

looks_tell : {A C : Type 0} (Said : C → Reply A → Goods → Type 0) →
    ((held : C) (reply : Reply A) (goods : Goods) → Said held reply goods → IsPlainAnswer reply) → Tells (Looks Said)
looks_tell {A} {C} Said each held end down failed t acts = grind arith

-- ---- steps

other_who : {A : Type 0} (old : Relay) (event : Event A) (reply : Reply A) (earlier : List (Moment A)) (who : Named) →
    is_same (actor_of event) who ≡ false →
    (is_down (record { before = old; event = event; reply = reply } ∷ earlier) who ≡ is_down earlier who)
    × (is_failed (record { before = old; event = event; reply = reply } ∷ earlier) who ≡ is_failed earlier who)
other_who old event reply earlier who other = grind arith

same_who : {A : Type 0} (old : Relay) (event : Event A) (reply : Reply A) (earlier : List (Moment A)) (who : Named) →
    is_same (actor_of event) who ≡ true →
    (is_down (record { before = old; event = event; reply = reply } ∷ earlier) who
    ≡ down_after reply (is_down earlier who))
    × (is_failed (record { before = old; event = event; reply = reply } ∷ earlier) who
    ≡ failed_after reply (is_failed earlier who))
same_who old event reply earlier who same = grind arith

by_told : {C : Type 0} (down failed d f : Bool) (actor : Actor C) → down ≡ d → failed ≡ f → IsAsTold d f actor →
    IsAsTold down failed actor
by_told down failed d f actor x y t = grind arith

printer_tells : {A : Type 0} (old new : Relay) (event : Event A) (printer : ℕ)
    (Acts : Actor LedgerView → Ending A LedgerView → Type 0) (reply : Reply A) (earlier : List (Moment A)) →
    actor_of event ≡ PrinterAt printer → Tells Acts → AreAsTold earlier old → PrinterGoes old printer Acts reply new →
    AreAsTold (record { before = old; event = event; reply = reply } ∷ earlier) new
printer_tells {A} old new event printer Acts reply earlier named each b g =
    subst (λ (r : Relay). AreAsTold (record { before = old; event = event; reply = reply } ∷ earlier) r) (sym g.new_is)
    (record {
      printers = λ p actor is. elim (set_at old.printers printer p _ actor is) [
        | inl here ↦
            let s = same_who old event reply earlier (PrinterAt p)
            (ap (λ (who : Named). is_same who (PrinterAt p)) named ∙ eq-eqb printer p here.0) in
            let t = each g.actor g.end (is_down earlier (PrinterAt p)) (is_failed earlier (PrinterAt p))
            (b.printers p g.actor (subst (λ (k : ℕ). slice_get old.printers k ≡ Some g.actor) here.0 g.was)) g.acts in
            by_told _ _ _ _ actor s.0 s.1
            (subst (λ (a : Actor LedgerView). IsAsTold (down_after reply (is_down earlier (PrinterAt p)))
            (failed_after reply (is_failed earlier (PrinterAt p))) a) here.1
            (subst (λ (r : Reply A). IsAsTold (down_after r (is_down earlier (PrinterAt p)))
            (failed_after r (is_failed earlier (PrinterAt p))) g.end.actor) (sym g.reply_is) t))
        | inr there ↦
            let o = other_who old event reply earlier (PrinterAt p)
            (ap (λ (who : Named). is_same who (PrinterAt p)) named ∙ other_number printer p there.0) in
            by_told _ _ _ _ actor o.0 o.1 (b.printers p actor there.1)
      ];
      desks = grind (arith, by_told, other_who);
    })

desk_tells : {A : Type 0} (old new : Relay) (event : Event A) (number : ℕ)
    (Acts : ℕ → Actor Documents → Ending A Documents → Type 0) (reply : Reply A) (earlier : List (Moment A)) →
    actor_of event ≡ DeskAt number → ((capacity : ℕ) → Tells (Acts capacity)) → AreAsTold earlier old →
    DeskGoes old number Acts reply new →
    AreAsTold (record { before = old; event = event; reply = reply } ∷ earlier) new
desk_tells {A} old new event number Acts reply earlier named each b g =
    grind (arith, by_told, eq-eqb, other_number, other_who, same_who, set_at)

acts_tell : {A : Type 0} (old new : Relay) (event : Event A) (reply : Reply A) (earlier : List (Moment A)) →
    AreAsTold earlier old → Acts old event reply new →
    AreAsTold (record { before = old; event = event; reply = reply } ∷ earlier) new
acts_tell old new event reply earlier b acts =
    by_kind old new event reply (λ C stop Does. Tells Does) _ (λ C. calls_tell) (λ C stop. may_lack_tells)
    (λ C. looks_tell) (λ some C refused is. restarts_tell refused is.down)
    (λ printer Does named each g. printer_tells old new event printer Does reply earlier named each b g)
    (λ number Does named each g. desk_tells old new event number Does reply earlier named each b g) acts

-- what was named and is not there changes nothing
none_tells : {A : Type 0} (old : Relay) (event : Event A) (earlier : List (Moment A)) → AreAsTold earlier old →
    AreAsTold (record { before = old; event = event; reply = replies.NoSuch } ∷ earlier) old
none_tells old event earlier b = grind arith

step_tells : {A : Type 0} (old new : Relay) (event : Event A) (reply : Reply A) (earlier : List (Moment A)) →
    AreAsTold earlier old → Step old event reply new →
    AreAsTold (record { before = old; event = event; reply = reply } ∷ earlier) new
step_tells old new event reply earlier b acts = grind (arith, acts_tell, none_tells)

fresh_runs : (from : ℕ) (ranges : List Range) (p : ℕ) (actor : Actor LedgerView) →
    slice_get (fresh_from from ranges) p ≡ Some actor → (held : LedgerView) × (Running held ≡ actor)
fresh_runs from [] p actor is = cc (is)
fresh_runs from (range ∷ ranges) zero actor is = (opening from range, cc (is))
fresh_runs from (range ∷ ranges) (suc p) actor is = fresh_runs (from + 1) ranges p actor is

pub each_run_is_as_told : (A : Type 0) → EachRunIsAsTold A
each_run_is_as_told A ranges capacities [] end run = grind (arith, empty_there, fresh_runs)
each_run_is_as_told A ranges capacities (moment ∷ earlier) end run =
    grind (arith, step_tells, (each_run_is_as_told A ranges capacities earlier moment.before run.0))
