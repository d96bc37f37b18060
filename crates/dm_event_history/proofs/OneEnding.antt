-- A call ends in one way, but for memory; and in one way for each reply.
use Rattle.std.proofs.Common.{arith, ◌≡◌, ◌⊎◌, inl, inr, ℕ, List, Option, Ok, Err, Result, ap, subst, sym, ◌∙◌}
use Rattle.std.specs.FinMap as finite
use Rattle.dm_size.specs.declared.size.Size.{Size}
use Rattle.dm_encodation.specs.declared.scheme.Scheme.{Scheme}
use Rattle.dm_finder_frame.specs.Frame.{GridView}
use Rattle.dm_append_label.specs.Labels.{PageView}
use Rattle.dm_append_label.specs.declared.fault.LabelFault.{LabelFault}
use Rattle.dm_print_ledger.specs.{declared.range.Range.Range, Ledger.TicketView}
use Rattle.dm_assembly_desk.specs.Documents.{Pages}
use Rattle.dm_event_history.specs.{declared.reply.Reply.Reply, declared.stop.Stop.Stop, Told.IsOfMemory}
use Rattle.dm_event_history.specs.Relay.{Actor, Down, Export, Failed, Goods, Running, no_goods, stored_of}
use Rattle.dm_event_history.specs.Steps.{Answers, Calls, Course, Ending, Faults, LacksMemory, Looks, MayLackFirst, Reaches, Restarts, Saves, ending, ends, AskTells, ExportTells, ExportsHeld, ForgetComes, GiveComes, ImportComes, MayBe, PrintComes, ScanComes, TakeComes, scan_course}
use Rattle.dm_event_history.proofs.{OneCourse.IsDetermined, Reaching.reaches}

abbrev pub SameEnding : {A C : Type 0} → Ending A C → Ending A C → Type 0
SameEnding one other = (one ≡ other) ⊎ (IsOfMemory one.reply ⊎ IsOfMemory other.reply)

-- what has a reply is not answered as memory that is refused
abbrev pub IsAnswered : {A C : Type 0} → Course A C → Type 0
IsAnswered (Saves next goods reply) = ¬ IsOfMemory reply
IsAnswered (Answers reply) = ¬ IsOfMemory reply
IsAnswered LacksMemory = Unit {0}

abbrev pub AreAnswered : {A C : Type 0} → (C → Course A C → Type 0) → Type 0
AreAnswered {A} {C} Comes = (held : C) (course : Course A C) → Comes held course → IsAnswered course

pub print_answered : {A : Type 0} (before : ℕ) (document : List ℕ) (size : Size) (scheme : Scheme) →
    AreAnswered (PrintComes {A = A} before document size scheme)
print_answered before document size scheme held course comes = grind arith

pub give_answered : {A : Type 0} (before receiver : ℕ) (range : Range) →
    AreAnswered (GiveComes {A = A} before receiver range)
give_answered before receiver range held course comes = grind arith

pub take_answered : {A : Type 0} (number : ℕ) (ticket : TicketView) → AreAnswered (TakeComes {A = A} number ticket)
take_answered number ticket held course comes = grind arith

may_be_answered : {A C : Type 0} (wanted course : Course A C) → IsAnswered wanted → MayBe wanted course → IsAnswered course
may_be_answered wanted course is may = grind arith

pub scan_answered : {A : Type 0} (capacity : ℕ) (grid : GridView) → AreAnswered (ScanComes {A = A} capacity grid)
scan_answered {A} capacity grid held course comes =
    may_be_answered (scan_course capacity held comes.0) course (by_read comes.0) comes.2
  where
    by_read : (read : Result PageView LabelFault) → IsAnswered {A = A} (scan_course capacity held read)
    by_read (Ok page) = grind arith
    by_read (Err fault) = grind arith

pub forget_answered : {A : Type 0} (id : ℕ) → AreAnswered (ForgetComes {A = A} id)
forget_answered id held course comes = grind (arith, may_be_answered)

pub import_answered : {A : Type 0} (capacity : ℕ) (export : Export) → AreAnswered (ImportComes {A = A} capacity export)
import_answered capacity export held course comes = grind (arith, may_be_answered)

-- what is done at an actor is one thing, but for memory; and where memory is refused nothing leaves, and the actor is so
pub record IsOne {A C : Type 0} (kept : Actor C → Actor C) (Acts : Actor C → Ending A C → Type 0) : Type 0 where
  pub alike : (actor : Actor C) (one other : Ending A C) → Acts actor one → Acts actor other → SameEnding one other
  pub still : (actor : Actor C) (end : Ending A C) → Acts actor end → IsOfMemory end.reply →
      end ≡ ending end.reply (kept actor) no_goods

-- so a reply tells how it ends
pub by_reply : {A C : Type 0} (kept : Actor C → Actor C) (Acts : Actor C → Ending A C → Type 0) → IsOne kept Acts → (actor : Actor C)
    (one other : Ending A C) → Acts actor one → Acts actor other → one.reply ≡ other.reply → one ≡ other
by_reply {A} {C} kept Acts is actor one other p q same = elim (is.alike actor one other p q) [
  | inl e ↦ e
  | inr (inl m) ↦ both m (subst IsOfMemory same m)
  | inr (inr m) ↦ both (subst IsOfMemory (sym same) m) m
]
  where
    both : IsOfMemory one.reply → IsOfMemory other.reply → one ≡ other
    both m n = is.still actor one p m ∙ ap (λ (r : Reply A). ending r (kept actor) no_goods) same
        ∙ sym (is.still actor other q n)

calls_alike : {A C : Type 0} (faults : Faults A) (stop : Stop) (Comes : C → Course A C → Type 0) →
    IsOfMemory faults.memory → IsDetermined Comes → (actor : Actor C) (one other : Ending A C) →
    Calls faults stop Comes actor one → Calls faults stop Comes actor other → SameEnding one other
calls_alike faults stop Comes memory determined held one other p q = grind arith

ends_still : {A C : Type 0} (faults : Faults A) (stop : Stop) (course : Course A C) (held : C) →
    (¬ IsOfMemory faults.save) → Reaches stop (IsAnswered course) →
    (let end = ends faults stop course (Running held) in
    IsOfMemory end.reply → end ≡ ending end.reply (Running held) no_goods)
ends_still faults stop course held save answered memory = grind arith

failed_still : {A C : Type 0} (faults : Faults A) (stop : Stop) (old : Actor C) → (¬ IsOfMemory faults.failed) →
    IsOfMemory (ends faults stop (Answers faults.failed) old).reply → ⊥
failed_still faults stop old failed memory = grind arith

pub calls_one : {A C : Type 0} (faults : Faults A) (stop : Stop) (Comes : C → Course A C → Type 0) →
    IsOfMemory faults.memory → (¬ IsOfMemory faults.save) → (¬ IsOfMemory faults.failed) → AreAnswered Comes →
    IsDetermined Comes → IsOne (λ actor. actor) (Calls faults stop Comes)
calls_one {A} {C} faults stop Comes memory save failed answered determined = record {
  alike = calls_alike faults stop Comes memory determined;
  still = still;
}
  where
    still : (actor : Actor C) (end : Ending A C) → Calls faults stop Comes actor end → IsOfMemory end.reply →
        end ≡ ending end.reply actor no_goods
    still (Running held) end (course, came, is) m = grind (arith, ends_still, reaches)
    still (Failed shown stored) end is m = grind (arith, failed_still)
    still (Down stored) end is m = grind arith

pub may_lack_one : {A C : Type 0} (Acts : Actor C → Ending A C → Type 0) → IsOne (λ actor. actor) Acts →
    IsOne (λ actor. actor) (MayLackFirst Acts)
may_lack_one {A} {C} Acts one = record { alike = alike; still = still }
  where
    alike : (actor : Actor C) (a b : Ending A C) → MayLackFirst Acts actor a → MayLackFirst Acts actor b → SameEnding a b
    alike actor a b p q = let same = one.alike actor a b in grind arith

    still : (actor : Actor C) (end : Ending A C) → MayLackFirst Acts actor end → IsOfMemory end.reply →
        end ≡ ending end.reply actor no_goods
    still actor end p m = let is = one.still actor end in grind arith

pub restarts_one : {A C : Type 0} (refused : Reply A) → IsOfMemory refused →
    IsOne (λ actor. Down (stored_of actor)) (Restarts {A = A} {C = C} refused)
restarts_one {A} {C} refused memory = record {
  alike = λ actor one other a b. grind arith;
  still = λ actor end is m. grind arith;
}

-- ---- asks and exports

abbrev pub SameTold : {A : Type 0} → Reply A → Reply A → Goods → Goods → Type 0
SameTold r s g h = ((r ≡ s) × (g ≡ h)) ⊎ (IsOfMemory r ⊎ IsOfMemory s)

-- the reply is one, but for memory; and where memory is refused nothing leaves
pub record TellsOne {A C : Type 0} (Tells : C → Reply A → Goods → Type 0) : Type 0 where
  pub alike : (held : C) (r s : Reply A) (g h : Goods) → Tells held r g → Tells held s h → SameTold r s g h
  pub still : (held : C) (r : Reply A) (g : Goods) → Tells held r g → IsOfMemory r → g ≡ no_goods

looks_alike : {A C : Type 0} (Tells : C → Reply A → Goods → Type 0) →
    ((held : C) (r s : Reply A) (g h : Goods) → Tells held r g → Tells held s h → SameTold r s g h) →
    (actor : Actor C) (one other : Ending A C) → Looks Tells actor one → Looks Tells actor other → SameEnding one other
looks_alike Tells same actor one other p q = grind arith

looks_still : {A C : Type 0} (Tells : C → Reply A → Goods → Type 0) →
    ((held : C) (r : Reply A) (g : Goods) → Tells held r g → IsOfMemory r → g ≡ no_goods) →
    (actor : Actor C) (end : Ending A C) → Looks Tells actor end → IsOfMemory end.reply →
    end ≡ ending end.reply actor no_goods
looks_still Tells none actor end p m = grind arith

pub looks_one : {A C : Type 0} (Tells : C → Reply A → Goods → Type 0) → TellsOne Tells → IsOne (λ actor. actor) (Looks Tells)
looks_one Tells one = record {
  alike = looks_alike Tells one.alike;
  still = looks_still Tells one.still;
}

pub ask_one : {A : Type 0} (id : ℕ) → TellsOne (AskTells {A = A} id)
ask_one {A} id = record { alike = λ held r s g h p q. grind arith; still = λ held r g told m. told.3 }

export_held_one : {A : Type 0} (before id : ℕ) (held : Option Pages) (r s : Reply A) (g h : Goods) →
    ExportsHeld before id held r g → ExportsHeld before id held s h → SameTold r s g h
export_held_one before id held r s g h p q = grind arith

export_held_still : {A : Type 0} (before id : ℕ) (held : Option Pages) (r : Reply A) (g : Goods) →
    ExportsHeld before id held r g → IsOfMemory r → g ≡ no_goods
export_held_still before id held r g p m = grind arith

pub export_one : {A : Type 0} (before id : ℕ) → TellsOne (ExportTells {A = A} before id)
export_one before id = record {
  alike = λ held r s g h p q. export_held_one before id (finite.get held id) r s g h p q;
  still = λ held r g p m. export_held_still before id (finite.get held id) r g p m;
}
