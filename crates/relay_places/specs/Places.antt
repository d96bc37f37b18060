-- What is at the paths of a line, and where the files of a command are.
use Rattle.std.specs.Prelude.{◌≡◌, ℕ, ◌++◌, List, [], ◌∷◌, Bool, true, false, None, Some, not, if◌then◌else◌, IsTrue, IsFalse, codes, string_bytes, ◌≢◌, ◌⊎◌, Result, Ok, Err, MatchResult}
use Rattle.std.specs.{Str.bytes_eq, FinMap.empty, Fmt.decimal}
use Rattle.relay_shared.specs.Files.{DeskFiles}
use Rattle.dm_disk.specs.Disk.{draft_of, path_in, saved_under, set_in, unclaimed}
use Rattle.dm_store.specs.{Saved.Replaces, Saved.Saved, Saved.SavedSet, Saved.in_memory, declared.store.StoreFault.StoreFault, declared.mem_store.NextSave.TheVariants.Fine}
use Rattle.relay_places.specs.declared.{place.Access.Access, place.Place.Place, command_files.Entered.Entered, command_files.Found.Found, command_files.NoLock.TheVariants.Unneeded, command_files.NoLock.TheVariants.NoFolder, mem_places.MemPlace.MemPlace, place.Access.TheVariants.Creates, place.Access.TheVariants.Makes, place.Access.TheVariants.Saves, place.Access.TheVariants.Looks}

abbrev pub files_of : Saved → SavedSet → DeskFiles
files_of joint set = record { joint = joint; set = set }

-- what is at each path: a ledger or a joint file, and the folder beside it
abbrev pub PlacesView : Type 0
PlacesView = List ℕ → DeskFiles

-- what is at the paths if nothing is claimed of it
abbrev pub unclaimed_places : PlacesView
unclaimed_places path = files_of (saved_under unclaimed path) (set_in unclaimed path)

-- what is at a path in memory: the first of these that has it, or nothing
abbrev pub kept_at : List MemPlace → PlacesView
kept_at [] path = files_of (in_memory None false Fine) (in_memory empty false Fine)
kept_at (kept ∷ rest) path =
    if bytes_eq (string_bytes kept.path) path then files_of kept.files.0 kept.files.1 else kept_at rest path

-- every other path has what it had before
abbrev pub KeepsOthers : List ℕ → PlacesView → PlacesView → Type 0
KeepsOthers path old new = (other : List ℕ) → other ≢ path → new other ≡ old other

-- these hold nothing, if they are honest
abbrev pub HoldNothing : DeskFiles → Type 0
HoldNothing files = (IsTrue files.joint.is_honest → files.joint.content ≡ None)
    × (IsTrue files.set.is_honest → files.set.content ≡ empty)

-- the save of a file is done, which has these bytes, if it is honest
abbrev pub HasSaved : List ℕ → Result (Unit {0}) StoreFault → Saved → Type 0
HasSaved bytes answer file = (answer ≡ Ok tt) × (IsTrue file.is_honest → file.content ≡ Some bytes)

-- Nothing was changed, and the save was refused, or it is done since the file at the path has these bytes, if it is honest.
-- Or nothing was at the path, neither a file nor a desk, and the file there was saved as stores are; all else is as it was.
abbrev pub SavesNew : List ℕ → List ℕ → PlacesView → Result (Unit {0}) StoreFault → PlacesView → Type 0
SavesNew path bytes old answer new =
    ((new ≡ old) × (((fault : StoreFault) × (answer ≡ Err fault)) ⊎ HasSaved bytes answer (old path).joint))
    ⊎ (HoldNothing (old path) × Replaces (old path).joint bytes answer (new path).joint
    × ((new path).set ≡ (old path).set) × KeepsOthers path old new)

-- A lock stands beside what it guards: a ledger, or a desk's folder.
abbrev pub IsLockOf : Place → List ℕ → Type 0
IsLockOf place lock = lock ≡ (if place.is_desk then string_bytes place.folder else string_bytes place.file) ++ codes ".lock"

-- the draft of a file is beside it, and its lock beside what is locked
pub record IsPlaced (place : Place) : Type 0 where
  pub draft : string_bytes place.draft ≡ draft_of (string_bytes place.file)
  pub lock : IsLockOf place (string_bytes place.lock)

abbrev pub numbered_draft : List ℕ → ℕ → List ℕ
numbered_draft file number = file ++ (46 ∷ (decimal number ++ codes ".new"))

-- a path is that of a draft of a file, without a number or with one
abbrev pub IsDraftOf : List ℕ → List ℕ → Type 0
IsDraftOf file name = (name ≡ draft_of file) ⊎ ((number : ℕ) × (name ≡ numbered_draft file number))

-- a path leads into a folder
abbrev pub IsInFolder : List ℕ → List ℕ → Type 0
IsInFolder folder name = (rest : List ℕ) × (name ≡ path_in folder rest)

-- A path is one of a place: a desk's folder, or of what is in it; or the ledger or joint file, or a draft of it.
abbrev pub IsOwn : Place → List ℕ → Type 0
IsOwn place name =
    (IsTrue place.is_desk × ((name ≡ string_bytes place.folder) ⊎ IsInFolder (string_bytes place.folder) name))
    ⊎ ((name ≡ string_bytes place.file) ⊎ IsDraftOf (string_bytes place.file) name)

-- A lock guards a path: both are of one place.
abbrev pub Guards : Place → List ℕ → List ℕ → Type 0
Guards place lock name = IsLockOf place lock × IsOwn place name

-- A command locks its files at its first load, by what it does to them and what it finds there: to make a ledger where
-- nothing is, or a desk; to save to what is there; to move the documents of a joint file.
abbrev pub locks : Access → Found → Bool
locks Creates found = not found.is_any
locks Makes found = true
locks Saves found = found.is_any
locks Looks found = false
locks access found = found.has_documents

-- A command comes to its files. It has the lock of their place if what it does and what it finds there want one, unless
-- there is no folder for the lock: then it has found nothing there.
abbrev pub Enters : Place → Entered → Type 0
Enters place entered = MatchResult entered.lock
    (λ lock. IsTrue (locks place.access entered.found) × (string_bytes lock.path ≡ string_bytes place.lock))
    (λ why. ((why ≡ Unneeded) → IsFalse (locks place.access entered.found))
    × ((why ≡ NoFolder) → IsFalse entered.found.is_any))
