-- What is so of all that a desk shows and stores, before a call and after it.
use Rattle.std.proofs.Common.{arith, ◌≡◌, true, Some}
use Rattle.dm_store.specs.declared.fuse.Kept.TheVariants.{New}
use Rattle.dm_assembly_desk.specs.Documents.{Documents}
use Rattle.dm_event_history.specs.declared.{event.Event.Event, reply.Reply.Reply, stop.Stop.Stop}
use Rattle.dm_event_history.specs.declared.stop.Stop.TheVariants.{InSave, SaveFault, AfterLabels}
use Rattle.dm_event_history.specs.declared.stop.Stop.TheVariants as stops
use Rattle.dm_event_history.specs.Steps.{leaves_new, may_save, stop_of, Answers, Calls, Course, Ending, Faults, LacksMemory, Looks, MayLackFirst, Restarts, Saves, ends}
use Rattle.dm_event_history.specs.Relay.{Actor, HasAll, Running, Goods}

-- a save under this stop leaves the new content
abbrev pub Stores : Stop → Type 0
Stores stops.None = Unit {0}
Stores (SaveFault New) = Unit {0}
Stores (InSave New) = Unit {0}
Stores (AfterLabels count) = Unit {0}
Stores stop = ⊥

pub has_map : (P Q : Documents → Type 0) → ((held : Documents) → P held → Q held) → (actor : Actor Documents) →
    HasAll P actor → HasAll Q actor
has_map P Q f actor h = grind arith

-- what is saved is so, if it is kept
abbrev pub CourseHas : {A : Type 0} → (Documents → Type 0) → Stop → Course A Documents → Type 0
CourseHas Q stop (Saves next goods reply) = Stores stop → Q next
CourseHas Q stop (Answers reply) = Unit {0}
CourseHas Q stop LacksMemory = Unit {0}

-- a call that saved, and whose content is kept, is one that may have saved
pub saves_may : {A C : Type 0} (event : Event A) (faults : Faults A) (stop : Stop) (next : C) (goods : Goods)
    (reply : Reply A) (old : Actor C) → stop_of event ≡ Some stop →
    may_save event faults.save ≡ leaves_new (stop_of event) → may_save event reply ≡ true → Stores stop →
    may_save event (ends faults stop (Saves next goods reply) old).reply ≡ true
saves_may event faults stop next goods reply old is save own stores = grind arith

-- a call leaves so what was, where what it saves is so
pub calls_have : {A : Type 0} (P Q : Documents → Type 0) (faults : Faults A) (stop : Stop)
    (Comes : Documents → Course A Documents → Type 0) (actor : Actor Documents) (end : Ending A Documents) →
    HasAll P actor → ((held : Documents) → P held → Q held) →
    ((held : Documents) (course : Course A Documents) → P held → Comes held course →
    end ≡ ends faults stop course (Running held) → CourseHas Q stop course) →
    Calls faults stop Comes actor end → HasAll Q end.actor
calls_have P Q faults stop Comes actor end h keep each acts = grind arith

pub may_lack_has : {A : Type 0} (Q : Documents → Type 0) (Acts : Actor Documents → Ending A Documents → Type 0)
    (actor : Actor Documents) (end : Ending A Documents) → HasAll Q actor →
    (Acts actor end → HasAll Q end.actor) → MayLackFirst Acts actor end → HasAll Q end.actor
may_lack_has Q Acts actor end h each acts = grind arith

pub restarts_have : {A : Type 0} (Q : Documents → Type 0) (refused : Reply A) (actor : Actor Documents)
    (end : Ending A Documents) → HasAll Q actor → Restarts refused actor end → HasAll Q end.actor
restarts_have Q refused actor end h is = grind arith

pub looks_have : {A : Type 0} (Q : Documents → Type 0) (Tells : Documents → Reply A → Goods → Type 0)
    (actor : Actor Documents) (end : Ending A Documents) → HasAll Q actor → Looks Tells actor end → HasAll Q end.actor
looks_have Q Tells actor end h acts = grind arith
