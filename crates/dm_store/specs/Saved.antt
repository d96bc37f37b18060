-- What contracts see of a store and of a set: what it holds, whether it does what it says, and what it may do next.
use Rattle.std.specs.Prelude.{◌≡◌, ◌+◌, ◌⊎◌, ℕ, Bool, List, take, Option, Some, option_map, Result, Ok, Err, IfOk, IfErr, IsErrOf, IsTrue, None, IsErr, IsSome, true, false, zero, suc, refl}
use Rattle.std.specs.Ordering.{nat_cmp}
use Rattle.dm_store.specs.declared.{store.StoreFault.StoreFault, mem_store.NextSave.NextSave, fuse.Kept.Kept}
use Rattle.dm_store.specs.declared.fuse.{Kept.TheVariants.Old, Kept.TheVariants.New, Turn.Turn}
use Rattle.dm_store.specs.declared.fuse.Turn.TheVariants.{Passes, Made, Stopped}
use Rattle.std.specs.Coded.{Coded, code_by, coded×, coded_ℕ, coded_bool, coded_list, coded_option}
use Rattle.std.specs.FinMap as map
use Rattle.dm_store.specs.declared.store.StoreFault.TheVariants as faults
use Rattle.dm_store.specs.declared.mem_store.NextSave.TheVariants as nexts

-- what loads may do: none of them meets a device fault, or each of them may
pub data LoadPlan : Type 0 where
  LoadsFine : LoadPlan
  LoadsOpen : LoadPlan

-- what the next save does if there is memory: it is done; it meets a device fault that leaves the old content, or one
-- that leaves the new content; or any of these
pub data SavePlan : Type 0 where
  SavesFine : SavePlan
  FaultOld : SavePlan
  FaultNew : SavePlan
  SavesOpen : SavePlan

-- how a save ended: it was done, it met a device fault, or it was refused for lack of memory
pub data Outcome : Type 0 where
  Done : Outcome
  Faulted : Outcome
  Refused : Outcome

-- What a store or a set holds, of type X; whether it is honest, and so holds what it was given to hold; whether its
-- calls may lack memory, as those of every store here may; and its plans: one for loads, one for the next save.
pub record SavedIn (X : Type 0) : Type 0 where
  pub content : X
  pub is_honest : Bool
  pub may_lack_memory : Bool
  pub load_plan : LoadPlan
  pub save_plan : SavePlan

-- a store holds one list of bytes, or none
abbrev pub Saved : Type 0
Saved = SavedIn (Option (List ℕ))

-- Before and after a load, and its answer: if it is honest, what was wanted. `seen` gives what contracts see of that.
pub record GivesLoaded {X V W : Type 0} (seen : V → W) (old : SavedIn X) (wanted : W) (answer : Result V StoreFault)
    (new : SavedIn X) : Type 0 where
  pub same : new ≡ old
  pub saved : IsTrue old.is_honest → IfOk answer (λ given. seen given ≡ wanted)
  pub device : IsErrOf answer faults.Device → old.load_plan ≡ LoadsOpen
  pub memory : IsErrOf answer faults.Memory → IsTrue old.may_lack_memory

-- The store before and after a load under this limit, and its answer. `bytes` gives the list in what was loaded.
abbrev pub Loads : {V : Type 0} → (V → List ℕ) → Saved → ℕ → Result (Option V) StoreFault → Saved → Type 0
Loads bytes old limit answer new =
    GivesLoaded (option_map bytes) old (option_map (take (limit + 1)) old.content) answer new

-- a settle may fail so, which is whenever a load may
abbrev pub MayNotSettle : {X : Type 0} → SavedIn X → StoreFault → Type 0
MayNotSettle saved faults.Device = saved.load_plan ≡ LoadsOpen
MayNotSettle saved faults.Memory = IsTrue saved.may_lack_memory

-- Before and after what was found is settled, and the answer. Nothing changes.
abbrev pub Settles : {X V : Type 0} → SavedIn X → Result V StoreFault → SavedIn X → Type 0
Settles old answer new = (new ≡ old) × IfErr answer (MayNotSettle old)

-- how a replace or a remove ended
abbrev pub outcome_of : Result (Unit {0}) StoreFault → Outcome
outcome_of (Ok _) = Done
outcome_of (Err faults.Device) = Faulted
outcome_of (Err faults.Memory) = Refused

-- the plan allows this end of a save, and is then followed by the next plan
abbrev pub PlanAllows : SavePlan → Outcome → SavePlan → Type 0
-- a save that is refused for lack of memory leaves each plan
PlanAllows SavesFine Refused next = next ≡ SavesFine
PlanAllows FaultOld Refused next = next ≡ FaultOld
PlanAllows FaultNew Refused next = next ≡ FaultNew
-- under a fine plan the save is done, and the plan stays
PlanAllows SavesFine Done next = next ≡ SavesFine
PlanAllows SavesFine Faulted next = ⊥
-- a planned fault comes at the next save, and once
PlanAllows FaultOld Done next = ⊥
PlanAllows FaultOld Faulted next = next ≡ SavesFine
PlanAllows FaultNew Done next = ⊥
PlanAllows FaultNew Faulted next = next ≡ SavesFine
-- an open plan allows each end, and stays
PlanAllows SavesOpen outcome next = next ≡ SavesOpen

-- what is held after a device fault, if `old` was held and `new` was to be
abbrev pub HeldAfterFault : {X : Type 0} → SavePlan → X → X → X → Type 0
HeldAfterFault FaultOld old new held = held ≡ old
HeldAfterFault FaultNew old new held = held ≡ new
HeldAfterFault SavesFine old new held = (held ≡ old) ⊎ (held ≡ new)
HeldAfterFault SavesOpen old new held = (held ≡ old) ⊎ (held ≡ new)

-- before and after a save that is to leave this content, and how it ended
pub record SavesIn {X : Type 0} (old : SavedIn X) (content : X) (outcome : Outcome) (new : SavedIn X) : Type 0 where
  pub same_honesty : new.is_honest ≡ old.is_honest
  pub same_memory : new.may_lack_memory ≡ old.may_lack_memory
  pub same_load_plan : new.load_plan ≡ old.load_plan
  pub follows : PlanAllows old.save_plan outcome new.save_plan
  pub done : outcome ≡ Done → IsTrue old.is_honest → new.content ≡ content
  pub refused : outcome ≡ Refused → new ≡ old
  pub faulted : outcome ≡ Faulted → IsTrue old.is_honest → HeldAfterFault old.save_plan old.content content new.content

-- the store before and after a replace by these bytes, and its answer
abbrev pub Replaces : Saved → List ℕ → Result (Unit {0}) StoreFault → Saved → Type 0
Replaces old bytes answer new = SavesIn old (Some bytes) (outcome_of answer) new

-- a call was refused for lack of memory only if calls of this store or set may be
abbrev pub MayLackMemory : {X : Type 0} → SavedIn X → Result (Unit {0}) StoreFault → Type 0
MayLackMemory saved answer = IsErrOf answer faults.Memory → IsTrue saved.may_lack_memory

-- the saved bytes of each key that has any
abbrev pub Contents : Type 0
Contents = map.FinMap nat_cmp (List ℕ)

-- what contracts see of a set
abbrev pub SavedSet : Type 0
SavedSet = SavedIn Contents

-- The set before and after a call for its keys under this limit, and its answer. `keys` gives the list in the answer.
abbrev pub ListsKeys : {V : Type 0} → (V → List ℕ) → SavedSet → ℕ → Result V StoreFault → SavedSet → Type 0
ListsKeys keys old limit answer new = GivesLoaded keys old (take (limit + 1) (map.keys old.content)) answer new

-- The set before and after a load of this key, and its answer. `bytes` gives the list in what was loaded.
abbrev pub LoadsKey : {V : Type 0} → (V → List ℕ) → SavedSet → ℕ → ℕ → Result (Option V) StoreFault → SavedSet → Type 0
LoadsKey bytes old key limit answer new =
    GivesLoaded (option_map bytes) old (option_map (take (limit + 1)) (map.get old.content key)) answer new

-- the set before and after a save of one key's bytes, and its answer
abbrev pub SavesKey : SavedSet → ℕ → List ℕ → Result (Unit {0}) StoreFault → SavedSet → Type 0
SavesKey old key bytes answer new = SavesIn old (map.insert old.content key bytes) (outcome_of answer) new

-- The set before and after a remove of one key, and its answer. If the key isn't there, neither content nor plans
-- change, and only an open plan of saves allows a fault, that of the device.
pub record RemovesKey
    (old : SavedSet) (key : ℕ) (answer : Result (Unit {0}) StoreFault) (new : SavedSet) : Type 0 where
  pub there : IsSome (map.get old.content key) → SavesIn old (map.remove old.content key) (outcome_of answer) new
  pub absent : map.get old.content key ≡ None → new ≡ old
  pub absent_done : map.get old.content key ≡ None → IsErr answer
      → (answer ≡ Err faults.Device) × (old.save_plan ≡ SavesOpen)
  pub memory : IsErrOf answer faults.Memory → IsTrue old.may_lack_memory

-- the plans that the settings of a store or a set in memory stand for
abbrev pub load_plan_of : Bool → LoadPlan
load_plan_of true = LoadsOpen
load_plan_of false = LoadsFine

abbrev pub save_plan_of : NextSave → SavePlan
save_plan_of nexts.Fine = SavesFine
save_plan_of nexts.FaultOld = FaultOld
save_plan_of nexts.FaultNew = FaultNew

-- what contracts see of a store or a set in memory that holds this, by its settings
abbrev pub in_memory : {X : Type 0} → X → Bool → NextSave → SavedIn X
in_memory held fails_loads next = record {
  content = held;
  is_honest = true;
  may_lack_memory = true;
  load_plan = load_plan_of fails_loads;
  save_plan = save_plan_of next;
}

-- ---- stores behind a fuse

-- What contracts see of a store or a set behind a fuse, and what becomes of its calls.

-- The store or the set within; how many calls still pass, or None once a call came after the last of these; and what
-- the first call after them leaves, if it saves.
pub record Fused (S : Type 0) : Type 0 where
  pub inner : S
  pub left : Option ℕ
  pub kept : Kept

-- a store or a set behind a fuse holds what the one within holds, lacks memory as that does, and each call may fail
abbrev pub with_open_plans : {X : Type 0} → SavedIn X → SavedIn X
with_open_plans saved = record saved { load_plan = LoadsOpen; save_plan = SavesOpen }

-- What a fuse does with a load, a call for the keys or a settle, from how many calls still pass.
abbrev pub turn_of_load : Option ℕ → Turn
turn_of_load (Some (suc _)) = Passes
turn_of_load (Some zero) = Stopped
turn_of_load None = Stopped

-- and with a replace or a remove, by what the first call after those leaves
abbrev pub turn_of_save : Option ℕ → Kept → Turn
turn_of_save (Some (suc _)) kept = Passes
turn_of_save (Some zero) New = Made
turn_of_save (Some zero) Old = Stopped
turn_of_save None kept = Stopped

-- how many calls still pass after one more, or None once a call came after the last of these
abbrev pub after_call : Option ℕ → Option ℕ
after_call (Some (suc n)) = Some n
after_call (Some zero) = None
after_call None = None

-- the answer of a call that is made and then stopped: a device fault in place of Ok, or the call's own fault
abbrev pub stopped_answer : {T F : Type 0} → F → Result T F → Result T F
stopped_answer device (Ok _) = Err device
stopped_answer device (Err fault) = Err fault

-- By its turn, a call is made of the one within, which answers, or it is made and then stopped, or it is not made.
abbrev pub Goes : {S T F : Type 0} → Turn → F → (Result T F → S → Type 0) → S → Result T F → S → Type 0
Goes Passes device Does old answer new = Does answer new
Goes {S} {T} {F} Made device Does old answer new =
    (made : Result T F) × (answer ≡ stopped_answer device made) × Does made new
Goes Stopped device Does old answer new = (answer ≡ Err device) × (new ≡ old)

-- ---- codes

-- How the view of a store and of a set is coded as pairs, lists, numbers and truth values, which a model requires of
-- its value. Nothing here says what a store does.

-- a plan as truth values, and back
abbrev pub load_bit : LoadPlan → Bool
load_bit LoadsFine = false
load_bit LoadsOpen = true

abbrev pub load_of : Bool → LoadPlan
load_of false = LoadsFine
load_of true = LoadsOpen

abbrev pub save_bits : SavePlan → Bool × Bool
save_bits SavesFine = (false, false)
save_bits FaultOld = (false, true)
save_bits FaultNew = (true, false)
save_bits SavesOpen = (true, true)

abbrev pub save_of : Bool × Bool → SavePlan
save_of (false, false) = SavesFine
save_of (false, true) = FaultOld
save_of (true, false) = FaultNew
save_of (true, true) = SavesOpen

same_load : (p : LoadPlan) → load_of (load_bit p) ≡ p
same_load LoadsFine = refl
same_load LoadsOpen = refl

same_save : (p : SavePlan) → save_of (save_bits p) ≡ p
same_save SavesFine = refl
same_save FaultOld = refl
same_save FaultNew = refl
same_save SavesOpen = refl

-- the parts of a store or a set whose content is of type X
abbrev pub Parts : Type 0 → Type 0
Parts X = X × (Bool × (Bool × (Bool × (Bool × Bool))))

abbrev pub saved_parts : {X : Type 0} → SavedIn X → Parts X
saved_parts s = (s.content, (s.is_honest, (s.may_lack_memory, (load_bit s.load_plan, save_bits s.save_plan))))

abbrev pub saved_whole : {X : Type 0} → Parts X → SavedIn X
saved_whole p = record {
  content = p.0;
  is_honest = p.1.0;
  may_lack_memory = p.1.1.0;
  load_plan = load_of p.1.1.1.0;
  save_plan = save_of p.1.1.1.1;
}

pub saved_whole-parts : {X : Type 0} (s : SavedIn X) → saved_whole (saved_parts s) ≡ s
saved_whole-parts s = λ i.
    record {
      content = s.content;
      is_honest = s.is_honest;
      may_lack_memory = s.may_lack_memory;
      load_plan = same_load s.load_plan i;
      save_plan = same_save s.save_plan i;
    }

-- the code of a store or a set, by that of its content
abbrev pub saved_in_code : {X : Type 0} → Coded X → Coded (SavedIn X)
saved_in_code {X} content =
    code_by (Parts X) (coded× content (coded× coded_bool (coded× coded_bool (coded× coded_bool (coded× coded_bool coded_bool)))))
    saved_parts saved_whole saved_whole-parts

abbrev pub saved_code : Coded Saved
saved_code = saved_in_code (coded_option (coded_list coded_ℕ))

abbrev pub saved_set_code : Coded SavedSet
saved_set_code = saved_in_code (map.code {R = nat_cmp} coded_ℕ (coded_list coded_ℕ))
