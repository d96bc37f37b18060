-- What was given of all documents of a desk, for what is done with it next.
use Rattle.std.specs.Prelude.{◌≡◌, ℕ, List, Result, Ok, Err}
use Rattle.std.specs.Borrow.{Bor}
use Rattle.relay_desk_commands.specs.declared.documents.Given.{Given}
use Rattle.relay.specs.Program.{DoesAll, SystemView, ids_of_all}

-- something was given of all documents, of those with these IDs if the status is 0; or nothing was done
abbrev pub GivesThese : {E : Type 0} → Type 0 → Given → Bor (List ℕ) → Bor (List ℕ) → List (List ℕ) → SystemView →
    Result ℕ E → SystemView → Type 0
GivesThese A what file folder ids old (Ok status) new =
    (all : DoesAll A what file folder old status new) × (status ≡ 0 → ids ≡ ids_of_all all)
GivesThese A what file folder ids old (Err fault) new = new ≡ old
