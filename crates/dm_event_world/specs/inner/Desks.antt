-- Calls of desks as a world makes them.
use Rattle.std.specs.Prelude.{◌≡◌, ℕ, true, false, List, Some, length, slice_get}
use Rattle.std.specs.FinMap as map
use Rattle.dm_store.specs.{Saved.SavedSet, Saved.save_plan_of, declared.mem_store.NextSave.NextSave}
use Rattle.dm_assembly_desk.specs.Documents.{DeskView, DeskIsInOrder}
use Rattle.dm_event_history.specs.Relay as actor_states
use Rattle.dm_event_world.specs.declared.actor.{DeskActor.DeskActor, DeskState.DeskState}
use Rattle.dm_event_world.specs.Shows.{ShowsDesk}
use Rattle.dm_event_world.specs.declared.actor.DeskState.TheVariants.{Running, Down}

-- the set of a desk, and a desk that is down
abbrev pub desk_saved : {A : Type 0} → DeskState A → SavedSet
desk_saved (Running view) = view.saved
desk_saved (Down saved) = saved

abbrev pub down_desk : {A : Type 0} → DeskState A → DeskState A
down_desk state = Down (desk_saved state)

-- the desk with this plan for its next save
abbrev pub desk_planned : DeskView → NextSave → DeskView
desk_planned view next = record view { saved = record view.saved { save_plan = save_plan_of next } }

-- A call of a desk in order: one that has failed says so, and stays as it is; any other does what the call does.
pub record Calling {X : Type 0} (failed_answer : X) (Call : DeskView → X → DeskView → Type 0)
    (old : DeskView) (answer : X) (new : DeskView) : Type 0 where
  pub failed : old.is_failed ≡ true → (answer ≡ failed_answer) × (new ≡ old)
  pub done : old.is_failed ≡ false → Call old answer new
  pub before : DeskIsInOrder old
  pub after : DeskIsInOrder new

-- the desks that a world begins with: one for each capacity, holding nothing
pub record AreEmpty {A : Type 0} (capacities : List ℕ) (desks : List (DeskActor A)) : Type 0 where
  pub count : length desks ≡ length capacities
  pub each : (desk capacity : ℕ) (actor : DeskActor A) →
      slice_get capacities desk ≡ Some capacity → slice_get desks desk ≡ Some actor →
      (actor.capacity ≡ capacity) × ShowsDesk capacity actor.state (actor_states.Running map.empty)
