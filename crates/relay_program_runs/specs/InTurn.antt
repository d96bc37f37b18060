-- Where each command or line finds the whole set that the last one at its path left, desks find what was left: nobody
-- looks at a running command, and nothing else changes a folder.
use Rattle.std.specs.Prelude.{ℕ, Bool, IsTrue, List, []}
use Rattle.std.specs.FinMap as finite
use Rattle.dm_store.specs.Saved.{Contents, SavedSet}
use Rattle.relay_shared.specs.Files.{DeskFiles}
use Rattle.relay.specs.Places.{PlacesView}
use Rattle.relay_program_runs.specs.Law.{AreVouchedFor, At, Each, IsBlank, IsNew, MeetsPremises, Ran, RunInTurn, StoreAt, TakesPrinted}
use Rattle.relay_program_runs.specs.Lines.{Follow, IsNamedBy, LineRan, LinesAsk, all_commands}

abbrev pub set_of : DeskFiles → SavedSet
set_of files = files.set

-- The sets are empty at first, and each command finds the set that the last one at its path left.
abbrev pub WhatRunsInTurnFindsWhatWasLeft : Type 0 → Type 0
WhatRunsInTurnFindsWhatWasLeft A = (among : List ℕ → Bool) (site : List StoreAt) (sets : List (At Contents))
    (rans : List (Ran A)) → MeetsPremises site rans → Each (TakesPrinted (λ path. IsTrue (among path))) [] rans →
    IsNew finite.empty sets → RunInTurn set_of sets rans → AreVouchedFor (λ path. IsTrue (among path)) rans

-- And so at the paths that the commands of lines name.
abbrev pub WhatLinesRunInTurnFindWhatWasLeft : Type 0 → Type 0
WhatLinesRunInTurnFindWhatWasLeft A = (among : List ℕ → Bool) (places : PlacesView) (lines : List (LineRan A)) →
    LinesAsk lines → Each (TakesPrinted (λ path. IsTrue (among path))) [] (all_commands lines) →
    ((path : List ℕ) → IsNamedBy lines path → IsBlank finite.empty (set_of (places path))) →
    Follow set_of (IsNamedBy lines) places lines → AreVouchedFor (λ path. IsTrue (among path)) (all_commands lines)
