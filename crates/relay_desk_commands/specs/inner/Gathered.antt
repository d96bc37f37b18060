-- What `held` gathers in memory before it settles what it has seen.
use Rattle.std.specs.Prelude.{◌≡◌, ℕ, List, Option, None, true}
use Rattle.dm_store.specs.Saved.{SavedSet}
use Rattle.relay_streams.specs.Streams.{OutputView}
use Rattle.relay_shared.specs.Command.{Tells}
use Rattle.relay_desk_commands.specs.Desks.{Says, SeenJoint}

-- this was gathered; or memory was refused in the list of all documents
pub data GathersHeld (set : SavedSet) (joint : SeenJoint) (old : OutputView) (status : ℕ) (new : OutputView) : Option ℕ → Type 0
  where
    whole : {id : Option ℕ} (text : List ℕ) (wanted : ℕ) → Says set joint id text wanted → Tells text wanted old status new
        → GathersHeld set joint old status new id
    cut_off : new.has_failed ≡ true → GathersHeld set joint old status new None
