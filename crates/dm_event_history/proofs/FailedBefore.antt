-- `Failed` is answered by what answered `Save` since it was last restarted.
use Rattle.std.proofs.Common.{arith, ◌≡◌, ℕ, Bool, true, false, List, sym, ap, ◌∙◌}
use Rattle.dm_print_ledger.specs.Ledger.{LedgerView}
use Rattle.dm_assembly_desk.specs.Documents.{Documents}
use Rattle.dm_event_history.specs.declared.{event.Event.Event, reply.Reply.Reply, stop.Stop.Stop}
use Rattle.dm_event_history.specs.Steps.{DeskAt, Named, PrinterAt, actor_of, Acts, DeskGoes, PrinterGoes, Moment, Calls, Course, Ending, Faults, Looks, MayLackFirst, Reaches, Restarts, ends}
use Rattle.dm_event_history.specs.Relay.{Actor, Running, Failed, Down, Goods, Relay}
use Rattle.dm_event_history.specs.Told.{AreAsTold, EachFailedFailed, IsAsTold, is_failed, tells_failed}
use Rattle.dm_event_history.proofs.{Reaching.reaches, AsTold.each_run_is_as_told, Deciding.never}
use Rattle.dm_event_history.proofs.ByKind.{ArePlain, IsPlainAnswer, IsPlainCourse, by_kind}

-- one that runs doesn't tell so
running_ends : {A C X : Type 0} (faults : Faults A) (stop : Stop) (course : Course A C) (held : C) → ArePlain faults →
    Reaches stop (IsPlainCourse course) → tells_failed (ends faults stop course (Running held)).reply ≡ true → X
running_ends faults stop course held fine plain told = grind arith

-- what tells so is one that has failed
abbrev FailsBefore : {A C : Type 0} → (Actor C → Ending A C → Type 0) → Type 0
FailsBefore {A} {C} Acts = (actor : Actor C) (end : Ending A C) (down failed : Bool) → IsAsTold down failed actor →
    Acts actor end → tells_failed end.reply ≡ true → failed ≡ true

calls_before : {A C : Type 0} (faults : Faults A) (stop : Stop) (Comes : C → Course A C → Type 0) → ArePlain faults →
    ((held : C) (course : Course A C) → Comes held course → IsPlainCourse course) → FailsBefore (Calls faults stop Comes)
calls_before {A} {C} faults stop Comes fine each (Running held) end down failed t acts told =
    running_ends faults stop acts.0 held fine (reaches stop (each held acts.0) acts.1)
    (sym (ap (λ (e : Ending A C). tells_failed e.reply) acts.2) ∙ told)
calls_before faults stop Comes fine each (Failed shown stored) end down failed t acts told = t.1
calls_before {A} {C} faults stop Comes fine each (Down stored) end down failed t acts told = grind (arith, never)

may_lack_before : {A C : Type 0} (Acts : Actor C → Ending A C → Type 0) → FailsBefore Acts →
    FailsBefore (MayLackFirst Acts)
may_lack_before {A} {C} Acts each held end down failed t lack told = grind arith

looks_before : {A C : Type 0} (Said : C → Reply A → Goods → Type 0) →
    ((held : C) (reply : Reply A) (goods : Goods) → Said held reply goods → IsPlainAnswer reply) → FailsBefore (Looks Said)
looks_before Said each held end down failed t acts told = grind arith

restarts_before : {A C : Type 0} (refused : Reply A) → tells_failed refused ≡ false →
    FailsBefore (Restarts {A = A} {C = C} refused)
restarts_before {A} {C} refused none actor end down failed t is told = grind arith

printer_before : {A : Type 0} (old new : Relay) (event : Event A) (printer : ℕ)
    (Acts : Actor LedgerView → Ending A LedgerView → Type 0) (reply : Reply A) (h : List (Moment A)) →
    actor_of event ≡ PrinterAt printer → FailsBefore Acts → AreAsTold h old → PrinterGoes old printer Acts reply new →
    tells_failed reply ≡ true → is_failed h (actor_of event) ≡ true
printer_before {A} old new event printer Acts reply h named each b g told =
    ap (λ (who : Named). is_failed h who) named ∙
    each g.actor g.end _ _ (b.printers printer g.actor g.was) g.acts
    (sym (ap (λ (r : Reply A). tells_failed r) g.reply_is) ∙ told)

desk_before : {A : Type 0} (old new : Relay) (event : Event A) (number : ℕ)
    (Acts : ℕ → Actor Documents → Ending A Documents → Type 0) (reply : Reply A) (h : List (Moment A)) →
    actor_of event ≡ DeskAt number → ((capacity : ℕ) → FailsBefore (Acts capacity)) → AreAsTold h old →
    DeskGoes old number Acts reply new → tells_failed reply ≡ true → is_failed h (actor_of event) ≡ true
desk_before {A} old new event number Acts reply h named each b g told = grind arith

acts_before : {A : Type 0} (old new : Relay) (event : Event A) (reply : Reply A) (h : List (Moment A)) →
    AreAsTold h old → Acts old event reply new → tells_failed reply ≡ true → is_failed h (actor_of event) ≡ true
acts_before old new event reply h b acts told =
    by_kind old new event reply (λ C stop Does. FailsBefore Does) _ (λ C. calls_before) (λ C stop. may_lack_before)
    (λ C. looks_before) (λ some C refused is. restarts_before refused is.before)
    (λ printer Does named each g. printer_before old new event printer Does reply h named each b g told)
    (λ number Does named each g. desk_before old new event number Does reply h named each b g told) acts

pub each_failed_failed : (A : Type 0) → EachFailedFailed A
each_failed_failed A ranges capacities moment earlier end run told = grind (arith, acts_before, each_run_is_as_told, never)
