-- Each step is legal.
use Rattle.std.proofs.Common.{arith, ◌≡◌, ◌≢◌, ◌↔◌, ◌⊎◌, ◌<◌, IsSomeAnd, ℕ, Bool, true, false, Option, Some, None, length, slice_get, refl, sym, subst}
use Rattle.dm_store.specs.declared.fuse.Kept.TheVariants.{Old, New}
use Rattle.dm_print_ledger.specs.Ledger.{LedgerView}
use Rattle.dm_print_ledger.specs.declared.fault.OpenFault.TheVariants as open_fault
use Rattle.dm_assembly_desk.specs.declared.fault.DeskFault.TheVariants as desk_fault
use Rattle.dm_assembly_desk.specs.Documents.{Documents}
use Rattle.dm_event_history.specs.declared.event.Event.{Event, TheVariants.RestartPrinter, TheVariants.RestartDesk}
use Rattle.dm_event_history.specs.declared.{reply.Reply.Reply, stop.Stop.Stop}
use Rattle.dm_event_history.specs.declared.reply.Reply.TheVariants as replies
use Rattle.dm_event_history.specs.declared.stop.Stop.TheVariants as stops
use Rattle.dm_event_history.specs.declared.stop.Stop.TheVariants.{InSave, SaveFault, AfterLabels}
use Rattle.dm_event_history.specs.Steps.{DeskAt, Named, PrinterAt, actor_of, IsStopping, stop_of, Acts, DeskGoes, IsNamedThere, PrinterGoes, Answers, Calls, Course, Ending, Faults, LacksMemory, Looks, MayLackFirst, Reaches, Restarts, Saves, ends}
use Rattle.dm_event_history.specs.Relay.{Actor, Running, Failed, Down, Desk, Goods, Relay}
use Rattle.dm_event_history.specs.Told.{down_after, EachStepIsLegal, IsDown, IsDownAt, IsLegal, NeedsRunning, tells_of_save}
use Rattle.dm_event_history.proofs.{Reaching.reaches, Deciding.never}
use Rattle.dm_event_history.proofs.ByKind.{ArePlain, IsPlainAnswer, IsPlainCourse, by_kind}

-- ---- replies

abbrev IsUp : {A : Type 0} → Reply A → Type 0
IsUp reply = (b : Bool) → down_after reply b ≡ false

up_other : {A : Type 0} (reply other : Reply A) → IsUp reply → down_after other true ≡ true → reply ≢ other
up_other {A} reply other up so same = grind arith

-- ---- one call

record IsCallLegal {A C : Type 0} (stop : Option Stop) (actor : Actor C) (reply : Reply A) : Type 0 where
  pub some : reply ≢ replies.NoSuch
  pub down : (reply ≡ replies.Down) ↔ IsDown actor
  pub stopped : reply ≡ replies.Stopped → IsSomeAnd stop IsStopping
  pub ended : ¬ IsDown actor → IsSomeAnd stop IsStopping → (reply ≡ replies.Stopped) ⊎ (reply ≡ replies.Memory)
  pub saves : tells_of_save reply ≡ true → stop ≡ Some stops.None

-- one that answers, one that is stopped, and one that lacks memory
legal_reply : {A C : Type 0} (stop : Option Stop) (actor : Actor C) (reply : Reply A) → ¬ IsDown actor →
    ¬ IsSomeAnd stop IsStopping → IsUp reply → (tells_of_save reply ≡ true → stop ≡ Some stops.None) →
    IsCallLegal stop actor reply
legal_reply stop actor reply up on plain saves = record {
  some = up_other reply replies.NoSuch plain refl;
  down = ((λ e. absurd (up_other reply replies.Down plain refl e)), (λ d. absurd (up d)));
  stopped = λ e. absurd (up_other reply replies.Stopped plain refl e);
  ended = λ _ s. absurd (on s);
  saves = saves;
}

legal_stopped : (A : Type 0) {C : Type 0} (stop : Option Stop) (actor : Actor C) → ¬ IsDown actor →
    IsSomeAnd stop IsStopping →
    IsCallLegal {A = A} stop actor replies.Stopped
legal_stopped A stop actor up s = grind arith

legal_memory : (A : Type 0) {C : Type 0} (stop : Option Stop) (actor : Actor C) → ¬ IsDown actor →
    IsCallLegal {A = A} stop actor replies.Memory
legal_memory A stop actor up = grind arith

untold : {X : Type 0} {A : Type 0} (reply : Reply A) → tells_of_save reply ≡ false → tells_of_save reply ≡ true → X
untold reply none told = never (tells_of_save reply) none told

legal_ends : {A C : Type 0} (faults : Faults A) (stop : Stop) (course : Course A C) (held : C) → ArePlain faults →
    Reaches stop (IsPlainCourse course) →
    IsCallLegal (Some stop) (Running held) (ends faults stop course (Running held)).reply
legal_ends faults stops.None (Saves next goods reply) held fine own =
    legal_reply _ _ _ (λ d. d) (λ s. s) own.up (λ _. refl)
legal_ends faults (SaveFault Old) (Saves next goods reply) held fine own =
    legal_reply _ _ _ (λ d. d) (λ s. s) fine.save_up (untold faults.save fine.save_untold)
legal_ends faults (SaveFault New) (Saves next goods reply) held fine own =
    legal_reply _ _ _ (λ d. d) (λ s. s) fine.save_up (untold faults.save fine.save_untold)
legal_ends faults stops.None (Answers reply) held fine own = legal_reply _ _ _ (λ d. d) (λ s. s) own.0.up (λ _. refl)
legal_ends faults (SaveFault kept) (Answers reply) held fine own =
    legal_reply _ _ _ (λ d. d) (λ s. s) own.0.up (untold reply own.1)
legal_ends faults stops.None LacksMemory held fine own = legal_reply _ _ _ (λ d. d) (λ s. s) fine.memory.up (λ _. refl)
legal_ends faults (SaveFault kept) LacksMemory held fine own =
    legal_reply _ _ _ (λ d. d) (λ s. s) fine.memory.up (untold faults.memory fine.memory_untold)
legal_ends {A} faults (InSave New) LacksMemory held fine own = grind (arith, legal_memory)
legal_ends {A} faults (AfterLabels most) LacksMemory held fine own = grind (arith, legal_memory)
legal_ends {A} faults stop course held fine own = legal_stopped A (Some stop) (Running held) (λ d. d) tt

legal_failed : {A C : Type 0} (faults : Faults A) (stop : Stop) (shown stored : C) → ArePlain faults →
    IsCallLegal (Some stop) (Failed shown stored) (ends faults stop (Answers faults.failed) (Failed shown stored)).reply
legal_failed faults stops.None shown stored fine = legal_reply _ _ _ (λ d. d) (λ s. s) fine.failed_up (λ _. refl)
legal_failed faults (SaveFault kept) shown stored fine =
    legal_reply _ _ _ (λ d. d) (λ s. s) fine.failed_up (untold faults.failed fine.failed_untold)
legal_failed {A} faults (InSave Old) shown stored fine = grind (arith, legal_stopped)
legal_failed {A} faults stop shown stored fine = legal_stopped A (Some stop) (Failed shown stored) (λ d. d) tt

legal_down : (A : Type 0) {C : Type 0} (stop : Option Stop) (stored : C) → IsCallLegal {A = A} stop (Down stored) replies.Down
legal_down A stop stored = grind arith

abbrev AreLegal : {A C : Type 0} → Option Stop → (Actor C → Ending A C → Type 0) → Type 0
AreLegal {A} {C} stop Acts = (actor : Actor C) (end : Ending A C) → Acts actor end → IsCallLegal stop actor end.reply

of_known : {A C : Type 0} (stop : Option Stop) (actor : Actor C) (end known : Ending A C) → end ≡ known →
    IsCallLegal stop actor known.reply → IsCallLegal stop actor end.reply
of_known {A} {C} stop actor end known is l = subst (λ (e : Ending A C). IsCallLegal stop actor e.reply) (sym is) l

calls_legal : {A C : Type 0} (faults : Faults A) (stop : Stop) (Comes : C → Course A C → Type 0) → ArePlain faults →
    ((held : C) (course : Course A C) → Comes held course → IsPlainCourse course) →
    AreLegal (Some stop) (Calls faults stop Comes)
calls_legal faults stop Comes fine each held end acts =
    grind (arith, legal_down, legal_ends, legal_failed, of_known, reaches)

may_lack_legal : {A C : Type 0} (stop : Option Stop) (Acts : Actor C → Ending A C → Type 0) → AreLegal stop Acts →
    AreLegal stop (MayLackFirst Acts)
may_lack_legal {A} stop Acts each held end lack = grind arith

-- what saves nothing tells of no save
looks_legal : {A C : Type 0} (Said : C → Reply A → Goods → Type 0) →
    ((held : C) (reply : Reply A) (goods : Goods) → Said held reply goods → IsPlainAnswer reply) →
    AreLegal None (Looks Said)
looks_legal Said each (Running held) end acts =
    let plain = each held end.reply end.goods acts.0 in
    legal_reply None (Running held) end.reply (λ d. d) (λ s. s) plain.0.up (untold end.reply plain.1)
looks_legal Said each (Failed shown stored) end acts =
    let plain = each shown end.reply end.goods acts.0 in
    legal_reply None (Failed shown stored) end.reply (λ d. d) (λ s. s) plain.0.up (untold end.reply plain.1)
looks_legal {A} Said each (Down stored) end acts = grind (arith, legal_down, of_known)

-- ---- steps

-- what a call of one that is there makes of the step
by_call : {A C : Type 0} (old : Relay) (event : Event A) (reply known : Reply A) (actor : Actor C) →
    IsNamedThere old event → NeedsRunning event → (IsDownAt old (actor_of event) ↔ IsDown actor) → reply ≡ known →
    IsCallLegal (stop_of event) actor known → IsLegal old event reply
by_call {A} old event reply known actor named needs same is l =
    subst (λ (r : Reply A). IsLegal old event r) (sym is) (record {
      no_such = ((λ e. absurd (l.some e)), (λ missing. absurd (missing named)));
      down = ((λ e. (named, needs, same.1 (l.down.0 e))), (λ d. l.down.1 (same.0 d.2)));
      stopped = l.stopped;
      ended = λ _ up s. l.ended (λ d. up (same.1 d)) s;
      saves = l.saves;
    })

one_some : {C : Type 0} (o : Option C) (one other : C) → o ≡ Some one → o ≡ Some other → one ≡ other
one_some o one other first second = cc (first, second)

printer_down : (old : Relay) (printer : ℕ) (actor : Actor LedgerView) → slice_get old.printers printer ≡ Some actor →
    IsDownAt old (PrinterAt printer) ↔ IsDown actor
printer_down old printer actor was = grind arith

desk_down : (old : Relay) (number : ℕ) (desk : Desk) → slice_get old.desks number ≡ Some desk →
    IsDownAt old (DeskAt number) ↔ IsDown desk.actor
desk_down old number desk was = (
  (λ d. subst (λ (x : Desk). IsDown x.actor) (one_some _ d.0 desk d.1 was) d.2),
  (λ d. (desk, was, d)),
)

printer_legal : {A : Type 0} (old new : Relay) (event : Event A) (printer : ℕ)
    (Does : Actor LedgerView → Ending A LedgerView → Type 0) (reply : Reply A) → actor_of event ≡ PrinterAt printer →
    IsNamedThere old event → NeedsRunning event → AreLegal (stop_of event) Does →
    PrinterGoes old printer Does reply new →
    IsLegal old event reply
printer_legal old new event printer Does reply who named needs each g =
    by_call old event reply g.end.reply g.actor named needs
    (subst (λ (n : Named). IsDownAt old n ↔ IsDown g.actor) (sym who) (printer_down old printer g.actor g.was))
    g.reply_is (each g.actor g.end g.acts)

desk_legal : {A : Type 0} (old new : Relay) (event : Event A) (number : ℕ)
    (Does : ℕ → Actor Documents → Ending A Documents → Type 0) (reply : Reply A) → actor_of event ≡ DeskAt number →
    IsNamedThere old event → NeedsRunning event → ((capacity : ℕ) → AreLegal (stop_of event) (Does capacity)) →
    DeskGoes old number Does reply new → IsLegal old event reply
desk_legal old new event number Does reply who named needs each g =
    by_call old event reply g.end.reply g.desk.actor named needs
    (subst (λ (n : Named). IsDownAt old n ↔ IsDown g.desk.actor) (sym who) (desk_down old number g.desk g.was))
    g.reply_is (each g.desk.capacity g.desk.actor g.end g.acts)

restart_printer_legal : {A : Type 0} (old : Relay) (printer : ℕ) (reply : Reply A) (end : Ending A LedgerView)
    (actor : Actor LedgerView) → printer < length old.printers →
    Restarts (replies.PrinterRefused open_fault.Memory) actor end → reply ≡ end.reply →
    IsLegal old (RestartPrinter printer) reply
restart_printer_legal {A} old printer reply end actor named ends is = grind arith

restart_desk_legal : {A : Type 0} (old : Relay) (desk : ℕ) (reply : Reply A) (end : Ending A Documents)
    (actor : Actor Documents) → desk < length old.desks →
    Restarts (replies.DeskRefused desk_fault.Memory) actor end → reply ≡ end.reply →
    IsLegal old (RestartDesk desk) reply
restart_desk_legal {A} old desk reply end actor named ends is = grind arith

acts_legal : {A : Type 0} (old new : Relay) (event : Event A) (reply : Reply A) → IsNamedThere old event →
    Acts old event reply new → IsLegal old event reply
acts_legal old new (RestartPrinter printer) reply named acts = grind (arith, restart_printer_legal)
acts_legal old new (RestartDesk desk) reply named acts = grind (arith, restart_desk_legal)
acts_legal old new event reply named acts =
    by_kind old new event reply (λ C stop Does. AreLegal stop Does) _ (λ C. calls_legal) (λ C. may_lack_legal)
    (λ C. looks_legal) (λ none. absurd (none tt))
    (λ printer Does who each g. printer_legal old new event printer Does reply who named tt each g)
    (λ number Does who each g. desk_legal old new event number Does reply who named tt each g) acts

-- what is not there is answered so
none_legal : {A : Type 0} (old : Relay) (event : Event A) → ¬ IsNamedThere old event → IsLegal old event replies.NoSuch
none_legal old event missing = grind arith

pub each_step_is_legal : (A : Type 0) → EachStepIsLegal A
each_step_is_legal A old new event reply acts = grind (arith, acts_legal, none_legal)
