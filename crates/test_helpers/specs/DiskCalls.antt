-- A disk in memory as the list of its calls that were done, the newest first. A stop may leave there all that the
-- contract of disks allows after these calls; a reader finds no more and no less than they left.
use Rattle.std.specs.Prelude.{ℕ, Bool, true, false, ◌||◌, ◌&&◌, List, [], ◌∷◌, Some, None, is_none, IsTrue, if◌then◌else◌, nat_eq}
use Rattle.std.specs.{List.starts_with, Option.option_eq, Str.bytes_eq, String.string_bytes}
use Rattle.test_helpers.specs.declared.mem_disk.DiskCall.{DiskCall}
use Rattle.test_helpers.specs.declared.mem_disk.DiskCall.TheVariants.{Wrote, Synced, Renamed, Removed, SyncedEntry, SyncedFolder}
use Rattle.dm_disk.specs.Disk.{DiskState, Content}

-- what a reader finds
abbrev pub seen_after : {A : Type 0} → List (DiskCall A) → List ℕ → Content
seen_after [] name = None
seen_after (Wrote written bytes ∷ before) name =
    if bytes_eq (string_bytes written) name then Some bytes.items else seen_after before name
seen_after (Synced synced ∷ before) name = seen_after before name
seen_after (Renamed from to ∷ before) name =
    if bytes_eq (string_bytes to) name then seen_after before (string_bytes from)
    else (if bytes_eq (string_bytes from) name then None else seen_after before name)
seen_after (Removed removed ∷ before) name =
    if bytes_eq (string_bytes removed) name then None else seen_after before name
seen_after (SyncedEntry synced ∷ before) name = seen_after before name
seen_after (SyncedFolder start ∷ before) name = seen_after before name

-- whether the bytes of the file are on the disk
abbrev pub synced_after : {A : Type 0} → List (DiskCall A) → List ℕ → Bool
synced_after [] name = true
synced_after (Wrote written bytes ∷ before) name =
    if bytes_eq (string_bytes written) name then false else synced_after before name
synced_after (Synced synced ∷ before) name =
    if bytes_eq (string_bytes synced) name then true else synced_after before name
synced_after (Renamed from to ∷ before) name =
    if bytes_eq (string_bytes to) name then synced_after before (string_bytes from) else synced_after before name
synced_after (Removed removed ∷ before) name =
    if bytes_eq (string_bytes removed) name then true else synced_after before name
synced_after (SyncedEntry synced ∷ before) name = synced_after before name
synced_after (SyncedFolder start ∷ before) name = synced_after before name

-- Whether a stop may leave this content: anything under a name that was written to, and under one that got a file whose
-- bytes are not on the disk.
abbrev pub leaves_after : {A : Type 0} → List (DiskCall A) → List ℕ → Content → Bool
leaves_after [] name content = is_none content
leaves_after (Wrote written bytes ∷ before) name content =
    if bytes_eq (string_bytes written) name then true else leaves_after before name content
leaves_after (Synced synced ∷ before) name content = leaves_after before name content
leaves_after (Renamed from to ∷ before) name content =
    if bytes_eq (string_bytes to) name
    then (if synced_after before (string_bytes from)
    then (leaves_after before name content || option_eq bytes_eq content (seen_after before (string_bytes from))) else true)
    else (if bytes_eq (string_bytes from) name then true else leaves_after before name content)
leaves_after (Removed removed ∷ before) name content =
    leaves_after before name content || (if bytes_eq (string_bytes removed) name then is_none content else false)
leaves_after (SyncedEntry synced ∷ before) name content =
    if bytes_eq (string_bytes synced) name && synced_after before name
    then option_eq bytes_eq content (seen_after before name) else leaves_after before name content
leaves_after (SyncedFolder start ∷ before) name content =
    if starts_with nat_eq name (string_bytes start) && synced_after before name
    then option_eq bytes_eq content (seen_after before name) else leaves_after before name content

abbrev pub disk_after : {A : Type 0} → List (DiskCall A) → DiskState
disk_after calls = record {
  is_honest = true;
  seen = seen_after calls;
  keeps_name = λ name. ⊥;
  is_synced = λ name. IsTrue (synced_after calls name);
  may_leave = λ name content. IsTrue (leaves_after calls name content);
}
