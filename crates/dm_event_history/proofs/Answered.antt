-- Calls that are answered: the printer or the desk runs, and it comes to what is answered.
use Rattle.std.proofs.Common.{arith, ◌≡◌, ◌≢◌, Some, sym, ap, ◌∙◌}
use Rattle.dm_store.specs.declared.fuse.Kept.TheVariants.{Old, New}
use Rattle.dm_event_history.specs.declared.{reply.Reply.Reply, stop.Stop.Stop}
use Rattle.dm_event_history.specs.declared.reply.Reply.TheVariants as replies
use Rattle.dm_event_history.specs.declared.stop.Stop.TheVariants as stops
use Rattle.dm_event_history.specs.declared.stop.Stop.TheVariants.{InSave, SaveFault, AfterLabels}
use Rattle.dm_event_history.specs.Relay.{Actor, Running, Failed, Down, content_shown, Goods}
use Rattle.dm_event_history.specs.Steps.{Answers, Calls, Course, Ending, Faults, LacksMemory, Looks, MayLackFirst, Reaches, Saves, ends}

-- the reply is one that a call comes to, and none of a call that is stopped, down or failed or lacks memory
pub record IsOwn {A : Type 0} (faults : Faults A) (reply : Reply A) : Type 0 where
  pub stopped : reply ≢ replies.Stopped
  pub down : reply ≢ replies.Down
  pub lacks : reply ≢ replies.Memory
  pub failed : reply ≢ faults.failed
  pub save : reply ≢ faults.save
  pub memory : reply ≢ faults.memory

-- it answers so without a save, and stays as it is, or it saves so
abbrev pub Ended : {A C : Type 0} → Course A C → C → Reply A → Actor C → Type 0
Ended (Saves next goods told) held reply after = (told ≡ reply) × (after ≡ Running next)
Ended (Answers told) held reply after = (told ≡ reply) × (after ≡ Running held)
Ended LacksMemory held reply after = ⊥

pub record IsAnswered {A C : Type 0} (Comes : C → Course A C → Type 0) (actor : Actor C) (reply : Reply A)
    (after : Actor C) : Type 0 where
  pub held : C
  pub was : actor ≡ Running held
  pub course : Course A C
  pub comes : Comes held course
  pub ended : Ended course held reply after

by_ends : {A C : Type 0} (faults : Faults A) (stop : Stop) (Comes : C → Course A C → Type 0) (held : C)
    (course : Course A C) (reply : Reply A) → IsOwn faults reply → Reaches stop (Comes held course) →
    (let e = ends faults stop course (Running held) in e.reply ≡ reply →
    IsAnswered Comes (Running held) reply e.actor)
by_ends faults stops.None Comes held (Saves next goods told) reply own came is = grind arith
by_ends faults (SaveFault Old) Comes held (Saves next goods told) reply own came is = absurd (own.save (sym is))
by_ends faults (InSave Old) Comes held course reply own came is = absurd (own.stopped (sym is))
by_ends faults (InSave New) Comes held (Saves next goods told) reply own came is = absurd (own.stopped (sym is))
by_ends faults (AfterLabels most) Comes held (Saves next goods told) reply own came is = absurd (own.stopped (sym is))
by_ends faults stop Comes held course reply own came is = grind arith

-- one that has failed answers so, or is stopped
failed_ends : {A C : Type 0} (faults : Faults A) (stop : Stop) (old : Actor C) (reply : Reply A) → IsOwn faults reply →
    (ends faults stop (Answers faults.failed) old).reply ≡ reply → ⊥
failed_ends faults (InSave Old) old reply own is = own.stopped (sym is)
failed_ends faults stop old reply own is = search (own.stopped, own.failed, sym is)

pub is_answered : {A C : Type 0} (faults : Faults A) (stop : Stop) (Comes : C → Course A C → Type 0)
    (actor : Actor C) (end : Ending A C) (reply : Reply A) → IsOwn faults reply → Calls faults stop Comes actor end →
    end.reply ≡ reply → IsAnswered Comes actor reply end.actor
is_answered {A} {C} faults stop Comes (Running held) end reply own acts is = grind (arith, by_ends)
is_answered {A} {C} faults stop Comes (Failed shown stored) end reply own acts is =
    absurd (failed_ends faults stop (Failed shown stored) reply own (sym (ap (λ (e : Ending A C). e.reply) acts) ∙ is))
is_answered {A} {C} faults stop Comes (Down stored) end reply own acts is = grind arith

-- the same, where memory may be refused first
pub is_made : {A C : Type 0} (Acts : Actor C → Ending A C → Type 0) (actor : Actor C) (end : Ending A C)
    (reply : Reply A) → reply ≢ replies.Memory → MayLackFirst Acts actor end → end.reply ≡ reply → Acts actor end
is_made {A} {C} Acts actor end reply other lack is = grind arith

-- what is shown tells it
pub record IsLooked {A C : Type 0} (Tells : C → Reply A → Goods → Type 0) (actor : Actor C) (end : Ending A C)
    : Type 0 where
  pub held : C
  pub shown : content_shown actor ≡ Some held
  pub tells : Tells held end.reply end.goods

pub is_looked : {A C : Type 0} (Tells : C → Reply A → Goods → Type 0) (actor : Actor C) (end : Ending A C) →
    end.reply ≢ replies.Down → Looks Tells actor end → IsLooked Tells actor end
is_looked Tells actor end up acts = grind arith
