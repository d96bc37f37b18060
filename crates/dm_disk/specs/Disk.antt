-- What contracts see of a disk: what a reader finds under each name, and what a stop of the machine may leave there.
-- A stop may come at any moment: a call that it cuts short is a call that fails, and so is each later one.
use Rattle.std.specs.Prelude.{◌≡◌, ◌≢◌, ◌+◌, ◌⊎◌, ◌++◌, ℕ, Bool, List, take, codes, Option, None, Some, option_map, Result, IsOk, IsErr, IsSome, IfOk, ◌<◌, ◌/◌, ◌%◌, ◌^◌, zero, suc, false, true, [], ◌∷◌, if◌then◌else◌, IsTrue, ⊤}
use Rattle.std.specs.Fmt.{digit_glyph}
use Rattle.std.specs.FinMap as map
use Rattle.dm_store.specs.declared.store.StoreFault.{StoreFault}
use Rattle.dm_store.specs.Saved.{LoadsOpen, SavesOpen, Saved, Contents, SavedSet}

-- the bytes of the file under a name, or None if there is no file
abbrev pub Content : Type 0
Content = Option (List ℕ)

-- A disk: whether it is honest (it does what is said below); what a reader finds under a name; whether no rename takes the
-- place of a file that has the name; whether the bytes of that file are on the disk, as a reader finds them; what a stop at
-- this moment may leave under a name.
pub record DiskState : Type 1 where
  pub is_honest : Bool
  pub seen : List ℕ → Content
  pub keeps_name : List ℕ → Type 0
  pub is_synced : List ℕ → Type 0
  pub may_leave : List ℕ → Content → Type 0

-- nothing changes under this name, and a stop leaves nothing there that it did not leave before
pub record KeepsFile (old : DiskState) (name : List ℕ) (new : DiskState) : Type 0 where
  pub seen : new.seen name ≡ old.seen name
  pub named : old.keeps_name name → new.keeps_name name
  pub synced : old.is_synced name → new.is_synced name
  pub left : (content : Content) → new.may_leave name content → old.may_leave name content

-- the same for every name
abbrev pub KeepsAll : DiskState → DiskState → Type 0
KeepsAll old new = (name : List ℕ) → KeepsFile old name new

-- A read under this name, up to the byte after the limit. `bytes` gives the list in what was read.
abbrev pub ReadsFile : {V : Type 0} → (V → List ℕ) → DiskState → List ℕ → ℕ → Result (Option V) StoreFault → Type 0
ReadsFile bytes old name limit answer =
    IfOk answer (λ read. option_map bytes read ≡ option_map (take (limit + 1)) (old.seen name))

-- A file is made under the name, in place of any that is there, and the bytes are written to it. Nothing is said of
-- what a stop may leave there, or of what a failed write leaves.
pub record WritesFile (old : DiskState) (name bytes : List ℕ) (answer : Result (Unit {0}) StoreFault) (new : DiskState)
    : Type 0 where
  pub others : (other : List ℕ) → other ≢ name → KeepsFile old other new
  pub done : IsOk answer → new.seen name ≡ Some bytes

-- The bytes of the file are brought to the disk, but not the file's entry in its folder: what a stop may leave under
-- the name is as before. A failed sync may lose what was written, unless it was on the disk before.
pub record Syncs (old : DiskState) (name : List ℕ) (answer : Result (Unit {0}) StoreFault)
    (new : DiskState) : Type 0 where
  pub others : (other : List ℕ) → other ≢ name → KeepsFile old other new
  pub kept : IsOk answer ⊎ old.is_synced name → KeepsFile old name new
  pub done : IsOk answer → new.is_synced name

-- where the disk keeps the name and a file has it, the call fails, and nothing changes there
abbrev pub KeepsName : DiskState → List ℕ → Result (Unit {0}) StoreFault → DiskState → Type 0
KeepsName old name answer new = old.keeps_name name → IsSome (old.seen name) → IsErr answer × KeepsFile old name new

-- The file gets another name, in place of the file that had it, unless the disk keeps that name. If its bytes are on the
-- disk, a stop leaves under the new name what it left before, or these bytes; if they are not, nothing is said. Nothing is
-- said of the old name.
pub record Renames (old : DiskState) (from to : List ℕ) (answer : Result (Unit {0}) StoreFault) (new : DiskState)
    : Type 0 where
  pub others : (other : List ℕ) → other ≢ from → other ≢ to → KeepsFile old other new
  pub done : IsOk answer → new.seen to ≡ old.seen from
  pub failed : IsErr answer → (new.seen to ≡ old.seen to) ⊎ (new.seen to ≡ old.seen from)
  pub keeps : KeepsName old to answer new
  pub synced : old.is_synced from → IsOk answer ⊎ old.is_synced to → new.is_synced to
  pub left : old.is_synced from
      → (content : Content) → new.may_leave to content → old.may_leave to content ⊎ (content ≡ old.seen from)

-- This content is put under the name: bytes, or no file. A stop leaves there what it left before, or this content.
-- Nothing is said of a draft.
pub record PutsFile (old : DiskState) (name draft : List ℕ) (wanted : Content) (answer : Result (Unit {0}) StoreFault)
    (new : DiskState) : Type 0 where
  pub others : (other : List ℕ) → other ≢ name → other ≢ draft → KeepsFile old other new
  pub done : IsOk answer → new.seen name ≡ wanted
  pub failed : IsErr answer → (new.seen name ≡ old.seen name) ⊎ (new.seen name ≡ wanted)
  pub synced : IsOk answer ⊎ old.is_synced name → new.is_synced name
  pub left : (content : Content) → new.may_leave name content → old.may_leave name content ⊎ (content ≡ wanted)

-- no file has the name any longer
abbrev pub Removes : DiskState → List ℕ → Result (Unit {0}) StoreFault → DiskState → Type 0
Removes old name answer new = PutsFile old name name None answer new

-- a stop leaves under this name just what a reader finds
abbrev pub IsSettled : DiskState → List ℕ → Type 0
IsSettled disk name = (content : Content) → disk.may_leave name content → content ≡ disk.seen name

-- The entry of the name in its folder, or its absence, is brought to the disk. If the file's bytes are there too, the
-- name is settled then.
abbrev pub SyncsEntry : List ℕ → Result (Unit {0}) StoreFault → DiskState → Type 0
SyncsEntry name answer new = IsOk answer → new.is_synced name → IsSettled new name

-- A save of this content under a name by way of a draft, or a remove, done or not. A stop in it, or after it, leaves
-- what it might have left before, or this content; once it is done, only this content. No third name is touched.
pub record SavesFile (old : DiskState) (name draft : List ℕ) (wanted : Content) (answer : Result (Unit {0}) StoreFault)
    (new : DiskState) : Type 0 where
  pub puts : PutsFile old name draft wanted answer new
  pub lasting : IsOk answer → IsSettled new name

-- the name of the draft that a save under this name is written to first
abbrev pub draft_of : List ℕ → List ℕ
draft_of name = name ++ codes ".new"

-- the path of a name in a folder
abbrev pub path_in : List ℕ → List ℕ → List ℕ
path_in folder name = folder ++ codes "/" ++ name

-- the name of a key's file: the key in four lower-case hexadecimal digits
unfoldable pub key_name : ℕ → List ℕ
key_name key =
    digit_glyph false (key / 256 / 16) ∷ digit_glyph false (key / 256 % 16) ∷ digit_glyph false (key % 256 / 16)
    ∷ digit_glyph false (key % 256 % 16) ∷ []

-- the path of a key's file
abbrev pub key_path : List ℕ → ℕ → List ℕ
key_path folder key = path_in folder (key_name key)

-- the entry of each key's file in a folder is brought to the disk
abbrev pub SettlesFolder : List ℕ → Result (Unit {0}) StoreFault → DiskState → Type 0
SettlesFolder folder answer new = (key : ℕ) → key < 2 ^ 16 → SyncsEntry (key_path folder key) answer new

-- the map with what is found at a key
abbrev pub with_found : Contents → ℕ → Content → Contents
with_found held key None = held
with_found held key (Some bytes) = map.insert held key bytes

-- what is found at the keys below n
unfoldable pub held_below : (ℕ → Content) → ℕ → Contents
held_below found zero = map.empty
held_below found (suc n) = with_found (held_below found n) n (found n)

-- what a reader finds under the name of a key's file, if the disk is honest
abbrev pub found_in : DiskState → List ℕ → ℕ → Content
found_in disk folder key = if disk.is_honest then disk.seen (key_path folder key) else None

-- under each key what a reader finds under the name of the key's file
abbrev pub contents_in : DiskState → List ℕ → Contents
contents_in disk folder = held_below (found_in disk folder) (2 ^ 16)

-- A set holds what is found in its folder. It is honest if its disk is, and each of its calls may fail.
abbrev pub set_in : DiskState → List ℕ → SavedSet
set_in disk folder = record {
  content = contents_in disk folder;
  is_honest = disk.is_honest;
  may_lack_memory = true;
  load_plan = LoadsOpen;
  save_plan = SavesOpen;
}

-- of an honest disk: no stop takes back the file under a name, if its bytes are on the disk; nor any file of a folder
abbrev pub IsFileSettled : DiskState → List ℕ → Type 0
IsFileSettled disk name = IsTrue disk.is_honest → disk.is_synced name → IsSettled disk name

abbrev pub IsFolderSettled : DiskState → List ℕ → Type 0
IsFolderSettled disk folder = (key : ℕ) → key < 2 ^ 16 → IsFileSettled disk (key_path folder key)

-- what contracts see of a store in a file: its disk, and the name of its file; and the same of a set in a folder
pub record Filed (D : Type 0) : Type 0 where
  pub disk : D
  pub path : List ℕ

-- A store holds what a reader finds under its name. It is honest if its disk is, and each of its calls may fail.
abbrev pub saved_under : DiskState → List ℕ → Saved
saved_under disk path = record {
  content = disk.seen path;
  is_honest = disk.is_honest;
  may_lack_memory = true;
  load_plan = LoadsOpen;
  save_plan = SavesOpen;
}

-- a disk that is not honest, so that no law speaks of what a reader finds or a stop leaves
abbrev pub unclaimed : DiskState
unclaimed = record {
  is_honest = false;
  seen = λ name. None;
  keeps_name = λ name. ⊤;
  is_synced = λ name. ⊤;
  may_leave = λ name content. ⊤;
}
