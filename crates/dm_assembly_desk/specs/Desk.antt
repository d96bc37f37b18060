-- Desks: the names of their faults (a label's fault has its own), what each call answers and saves, and how their files
-- are opened, looked at, and moved from version 1.
use Rattle.std.specs.Prelude.{ℕ, List, codes, ◌≡◌, true, Option, Some, None, Result, IsTrue, ◌&&◌, not, length, Ok, Err, is_some, is_none, nat_le, ◌==◌, if◌then◌else◌, ◌-◌, replicate, slice_set, ◌⊎◌, ◌<◌, ◌≤◌, false, IsSomeAnd, ◌≢◌, ◌∷◌, ◌++◌, slice_get, [], take, filter, option_map}
use Rattle.dm_append_label.specs.{Labels.PageView, Opening.label_fault_name, Opening.LabelOpens}
use Rattle.dm_assembly_desk.specs.declared.fault.{DeskFault.DeskFault, ScanFault.ScanFault, AskFault.AskFault}
use Rattle.dm_assembly_desk.specs.declared.fault.{ForgetFault.ForgetFault, ExportFault.ExportFault, MoveFault.MoveFault}
use Rattle.dm_assembly_desk.specs.declared.{fault.ImportFault.ImportFault, file.FileFault.FileFault, reply.Kind.Kind}
use Rattle.dm_append_label.specs.declared.fault.LabelFault.{LabelFault}
use Rattle.dm_store.specs.declared.store.StoreFault.{StoreFault}
use Rattle.dm_assembly_desk.specs.declared.{adding.AddFault.AddFault, reply.Imported.Imported, reply.Accepted.Accepted}
use Rattle.std.specs.{List.list_all, List.AllByRecursion, List.flat_map, Int.w16, Int.to_be_bytes, Option.option_or}
use Rattle.dm_store.specs.Saved.{SavePlan, HeldAfterFault, Outcome, Done, Faulted, Refused, SavesIn, SavedSet, RemovesKey, outcome_of, LoadsOpen, Saved, PlanAllows, Replaces, Contents, SavesKey, MayLackMemory}
use Rattle.dm_assembly_desk.specs.Documents.{Pages, document_of, missing_mask, file, SpellsFile, HasNoFile, Documents, HoldsFiles, own_pages, DeskView, union_of_pages, added_mask, may_join, IsFile, HasFileFault, IsEntry, entry, IsMarked, AreEntries, IsCapacity, summary}
use Rattle.dm_assembly_desk.specs.declared.reply.Kind.TheVariants.{New, Again, Complete}
use Rattle.dm_finder_frame.specs.Frame.{GridView}
use Rattle.dm_assembly_desk.specs.declared.{reply.Held.Held, limits.TheConstants.MOST_JOINT_FILE_BYTES}
use Rattle.dm_assembly_desk.specs.declared.fault.ScanFault.TheVariants as scanning
use Rattle.dm_assembly_desk.specs.declared.fault.ForgetFault.TheVariants as forgets
use Rattle.dm_assembly_desk.specs.declared.fault.ImportFault.TheVariants as importing
use Rattle.dm_assembly_desk.specs.declared.fault.AskFault.TheVariants as asks
use Rattle.dm_store.specs.declared.store.StoreFault.TheVariants as storing
use Rattle.dm_assembly_desk.specs.declared.file.FileFault.TheVariants as files
use Rattle.dm_assembly_desk.specs.declared.adding.AddFault.TheVariants as adds
use Rattle.std.specs.FinMap as map
use Rattle.dm_assembly_desk.specs.declared.fault.ExportFault.TheVariants as exports
use Rattle.dm_assembly_desk.specs.declared.fault.DeskFault.TheVariants as opens
use Rattle.dm_assembly_desk.specs.declared.fault.MoveFault.TheVariants as moves

-- ---- faults

abbrev pub desk_fault_name : DeskFault → List ℕ
desk_fault_name opens.Capacity = codes "Capacity"
desk_fault_name opens.NotPages = codes "NotPages"
desk_fault_name opens.Version = codes "Version"
desk_fault_name opens.Damaged = codes "Damaged"
desk_fault_name opens.TooMany = codes "TooMany"
desk_fault_name opens.Device = codes "Device"
desk_fault_name opens.Memory = codes "Memory"

abbrev pub scan_fault_name : ScanFault → List ℕ
scan_fault_name scanning.Failed = codes "Failed"
scan_fault_name (scanning.Label fault) = label_fault_name fault
scan_fault_name scanning.Conflict = codes "Conflict"
scan_fault_name scanning.Full = codes "Full"
scan_fault_name scanning.Memory = codes "Memory"
scan_fault_name scanning.Save = codes "Save"

abbrev pub ask_fault_name : AskFault → List ℕ
ask_fault_name asks.NotHeld = codes "NotHeld"
ask_fault_name (asks.Incomplete missing) = codes "Incomplete"
ask_fault_name asks.Memory = codes "Memory"

abbrev pub forget_fault_name : ForgetFault → List ℕ
forget_fault_name forgets.Failed = codes "Failed"
forget_fault_name forgets.NotHeld = codes "NotHeld"
forget_fault_name forgets.Memory = codes "Memory"
forget_fault_name forgets.Save = codes "Save"

abbrev pub export_fault_name : ExportFault → List ℕ
export_fault_name exports.NotHeld = codes "NotHeld"
export_fault_name exports.Memory = codes "Memory"

abbrev pub import_fault_name : ImportFault → List ℕ
import_fault_name importing.Failed = codes "Failed"
import_fault_name importing.NotPages = codes "NotPages"
import_fault_name importing.Version = codes "Version"
import_fault_name importing.Damaged = codes "Damaged"
import_fault_name importing.Conflict = codes "Conflict"
import_fault_name importing.Full = codes "Full"
import_fault_name importing.Memory = codes "Memory"
import_fault_name importing.Save = codes "Save"

abbrev pub move_fault_name : MoveFault → List ℕ
move_fault_name moves.NotPages = codes "NotPages"
move_fault_name moves.Version = codes "Version"
move_fault_name moves.Damaged = codes "Damaged"
move_fault_name moves.Device = codes "Device"
move_fault_name moves.Memory = codes "Memory"

-- how a move names the fault of a load or of a save
abbrev pub move_fault_of : StoreFault → MoveFault
move_fault_of storing.Device = moves.Device
move_fault_of storing.Memory = moves.Memory

abbrev pub import_fault : FileFault → ImportFault
import_fault files.NotPages = importing.NotPages
import_fault files.Version = importing.Version
import_fault files.Damaged = importing.Damaged

-- how a scan names the reason why its page was not added
abbrev pub scan_fault_of : AddFault → ScanFault
scan_fault_of adds.Conflict = scanning.Conflict
scan_fault_of adds.Full = scanning.Full
scan_fault_of adds.Memory = scanning.Memory
scan_fault_of adds.Save = scanning.Save

abbrev pub import_fault_of : AddFault → ImportFault
import_fault_of adds.Conflict = importing.Conflict
import_fault_of adds.Full = importing.Full
import_fault_of adds.Memory = importing.Memory
import_fault_of adds.Save = importing.Save

-- how a desk that can't be opened names the reason why a key's bytes are no file
abbrev pub desk_fault_of : FileFault → DeskFault
desk_fault_of files.NotPages = opens.NotPages
desk_fault_of files.Version = opens.Version
desk_fault_of files.Damaged = opens.Damaged

-- why pages were not added, by the fault of their save
abbrev pub keep_fault : StoreFault → AddFault
keep_fault storing.Device = adds.Save
keep_fault storing.Memory = adds.Memory

-- ---- calls

-- What a desk does for a call: it adds pages, forgets a document, or gives what it holds.

-- what a call is to do: only to answer this, or to hold these documents and then to answer this
pub data Verdict (R : Type 0) : Type 0 where
  Stays : R → Verdict R
  Becomes : Documents → R → Verdict R

-- ---- a save of what is to be held

-- the set before and after it saves what is to be held of one document: its file, or that there is none
abbrev pub SavesDocument : SavedSet → ℕ → Option Pages → Outcome → SavedSet → Type 0
SavesDocument old id (Some pages) outcome new = SavesIn old (map.insert old.content id (file id pages)) outcome new
SavesDocument old id None outcome new =
    (answer : Result (Unit {0}) StoreFault) × (outcome ≡ outcome_of answer) × RemovesKey old id answer new

-- The desk after that, over its set: it shows what it is to hold. After a device fault it shows what it held, and saves
-- no more. If memory was refused, nothing has changed.
abbrev pub shown : Documents → Outcome → DeskView → SavedSet → DeskView
shown held Done old set = record old { saved = set; held = held }
shown held Faulted old set = record old { saved = set; is_failed = true }
shown held Refused old set = old

-- the documents that the set then keeps, if `old` were held and `held` are to be; after a device fault as planned
abbrev pub IsKept : SavePlan → Outcome → Documents → Documents → Documents → Type 0
IsKept plan Done old held kept = kept ≡ held
IsKept plan Faulted old held kept = HeldAfterFault plan old held kept
IsKept plan Refused old held kept = kept ≡ old

-- how the save of one document ended, after which these are to be held; an honest set keeps files of documents
pub record SaveEnds (id : ℕ) (held : Documents) (outcome : Outcome) (old new : DeskView) : Type 0 where
  pub shows : new ≡ shown held outcome old new.saved
  pub saved : SavesDocument old.saved id (map.get held id) outcome new.saved
  pub keeps : IsTrue old.saved.is_honest → (kept : Documents)
      × IsKept old.saved.save_plan outcome old.held held kept × HoldsFiles new.saved.content kept

-- ---- a verdict that is carried out

-- the answer, by how the save ended
abbrev pub answer_by : {R : Type 0} → R → R → R → Outcome → R
answer_by done memory save Done = done
answer_by done memory save Faulted = save
answer_by done memory save Refused = memory

-- A verdict on one document is carried out. `memory` is answered if its save is refused for lack of memory, and `save`
-- if it meets a device fault.
abbrev pub DeskCarriesOut : {R : Type 0} → R → R → ℕ → Verdict R → DeskView → R → DeskView → Type 0
DeskCarriesOut memory save id (Stays answer) old result new = (result ≡ answer) × (new ≡ old)
DeskCarriesOut memory save id (Becomes held answer) old result new =
    (outcome : Outcome) × (result ≡ answer_by answer memory save outcome) × SaveEnds id held outcome old new

-- ---- the verdict, by what is held

-- the pages of the document once these are added
abbrev pub pages_with : Documents → ℕ → Pages → Pages
pages_with held id pages = union_of_pages (own_pages held id) pages

-- what is held after that
abbrev pub with_pages : Documents → ℕ → Pages → Documents
with_pages held id pages = map.insert held id (pages_with held id pages)

-- the pages that are given and not held
abbrev pub added_to : Documents → ℕ → Pages → ℕ
added_to held id pages = added_mask (own_pages held id) pages

-- the name of the kind of a page or an import, as lines have it
abbrev pub kind_name : Kind → List ℕ
kind_name New = codes "new"
kind_name Again = codes "again"
kind_name Complete = codes "complete"

-- the kind of what added some pages, after which these are held
abbrev pub kind_of : Pages → Kind
kind_of all = if list_all is_some all then Complete else New

-- the first of these that applies: the pages disagree with what is held; all of them are held; there is no room for
-- another document; or they are added
abbrev pub add_kind : ℕ → Documents → ℕ → Pages → Result Kind AddFault
add_kind capacity held id pages =
    if not (may_join (map.get held id) pages) then Err adds.Conflict else
    if added_to held id pages == 0 then Ok Again else
    if is_none (map.get held id) && nat_le capacity (map.len held) then Err adds.Full else
    Ok (kind_of (pages_with held id pages))

-- which pages are added, or why none are, by the first of these that applies
abbrev pub JudgedAs : ℕ → Documents → ℕ → Pages → Result ℕ AddFault → Type 0
JudgedAs capacity held id pages (Ok added) = (added ≡ added_to held id pages)
    × (add_kind capacity held id pages ≡ Ok (if added == 0 then Again else kind_of (pages_with held id pages)))
JudgedAs capacity held id pages (Err fault) = add_kind capacity held id pages ≡ Err fault

abbrev pub reply_of : Documents → ℕ → Pages → Kind → Imported
reply_of held id pages kind = record { id = id; n = length pages; added = added_to held id pages; kind = kind }

abbrev pub verdict_by : Documents → ℕ → Pages → Result Kind AddFault → Verdict (Result Imported AddFault)
verdict_by held id pages (Err fault) = Stays (Err fault)
verdict_by held id pages (Ok Again) = Stays (Ok (reply_of held id pages Again))
verdict_by held id pages (Ok kind) = Becomes (with_pages held id pages) (Ok (reply_of held id pages kind))

-- the verdict on the pages of a document: the reply, and the documents that are to be held
abbrev pub add_verdict : ℕ → Documents → ℕ → Pages → Verdict (Result Imported AddFault)
add_verdict capacity held id pages = verdict_by held id pages (add_kind capacity held id pages)

-- ---- what is done

-- the pages of a document at a desk that has not failed
abbrev pub Adds : ℕ → Pages → DeskView → Result Imported AddFault → DeskView → Type 0
Adds id pages old result new =
    DeskCarriesOut (Err adds.Memory) (Err adds.Save) id (add_verdict old.capacity old.held id pages) old result new

-- the pages of a document of which only this one is given
abbrev pub lone : PageView → Pages
lone p = slice_set (replicate p.n None) (p.m - 1) (Some p.bytes)

-- how a scan says what became of its page
abbrev pub scan_of : PageView → Result Imported AddFault → Result Accepted ScanFault
scan_of p (Ok reply) = Ok (record { id = p.id; m = p.m; n = p.n; kind = reply.kind })
scan_of p (Err fault) = Err (scan_fault_of fault)

-- a page at a desk that has not failed
abbrev pub Accepts : PageView → DeskView → Result Accepted ScanFault → DeskView → Type 0
Accepts p old result new =
    (added : Result Imported AddFault) × (result ≡ scan_of p added) × Adds p.id (lone p) old added new

-- a scan at a desk that has not failed, by what the grid is opened as
abbrev pub Scans : Result PageView LabelFault → DeskView → Result Accepted ScanFault → DeskView → Type 0
Scans (Ok page) old result new = Accepts page old result new
Scans (Err fault) old result new = (result ≡ Err (scanning.Label fault)) × (new ≡ old)

-- a scan of a grid at a desk that has not failed
pub record AcceptsGrid (grid : GridView)
    (old : DeskView) (result : Result Accepted ScanFault) (new : DeskView) : Type 0 where
  pub opened : Result PageView LabelFault
  pub label : LabelOpens grid opened
  pub scans : Scans opened old result new

-- how an import says what became of its pages
abbrev pub import_of : Result Imported AddFault → Result Imported ImportFault
import_of (Ok reply) = Ok reply
import_of (Err fault) = Err (import_fault_of fault)

-- the pages of a document at a desk that has not failed
abbrev pub Imports : ℕ → Pages → DeskView → Result Imported ImportFault → DeskView → Type 0
Imports id pages old result new =
    (added : Result Imported AddFault) × (result ≡ import_of added) × Adds id pages old added new

-- what the bytes are: the file of these pages, or no file for this reason
abbrev pub IsFileReadAs : List ℕ → Result (ℕ × Pages) FileFault → Type 0
IsFileReadAs bytes (Ok e) = SpellsFile e.0 bytes e.1
IsFileReadAs bytes (Err fault) = HasNoFile bytes fault

-- An import of bytes at a desk that has not failed: the reply is to the file that they spell, or to why they are none.
pub record ImportsBytes (bytes : List ℕ) (old : DeskView) (result : Result Imported ImportFault)
    (new : DeskView) : Type 0 where
  pub read : Result (ℕ × Pages) FileFault
  pub is_read : IsFileReadAs bytes read
  pub spelled : (id : ℕ) (pages : Pages) → SpellsFile id bytes pages → Imports id pages old result new
  pub faulty : (fault : FileFault) → HasNoFile bytes fault → (result ≡ Err (import_fault fault)) × (new ≡ old)

-- what a desk does to forget a document
abbrev pub forget_verdict : Documents → ℕ → Verdict (Result (Unit {0}) ForgetFault)
forget_verdict held id =
    if is_none (map.get held id) then Stays (Err forgets.NotHeld) else Becomes (map.remove held id) (Ok tt)

-- a forget at a desk that has not failed
abbrev pub Forgets : ℕ → DeskView → Result (Unit {0}) ForgetFault → DeskView → Type 0
Forgets id old result new =
    DeskCarriesOut (Err forgets.Memory) (Err forgets.Save) id (forget_verdict old.held id) old result new

-- What is given is what the verdict says, or `memory` if that was refused for bytes; `list` gives the bytes in it.
abbrev pub GivesByVerdict : {X F : Type 0} → (X → List ℕ) → F → Result (List ℕ) F → Result X F → Type 0
GivesByVerdict list memory (Ok bytes) (Ok given) = list given ≡ bytes
GivesByVerdict list memory (Ok bytes) (Err fault) = fault ≡ memory
GivesByVerdict list memory (Err fault) result = result ≡ Err fault

-- the document, by what is held of it
abbrev pub ask_verdict : Option Pages → Result (List ℕ) AskFault
ask_verdict None = Err asks.NotHeld
ask_verdict (Some pages) =
    if list_all is_some pages then Ok (document_of pages) else Err (asks.Incomplete (missing_mask pages))

abbrev pub Asks : {X : Type 0} → (X → List ℕ) → Option Pages → Result X AskFault → Type 0
Asks list found result = GivesByVerdict list asks.Memory (ask_verdict found) result

-- the file of just the pages that are held
abbrev pub export_verdict : ℕ → Option Pages → Result (List ℕ) ExportFault
export_verdict id None = Err exports.NotHeld
export_verdict id (Some pages) = Ok (file id pages)

abbrev pub Exports : {X : Type 0} → (X → List ℕ) → ℕ → Option Pages → Result X ExportFault → Type 0
Exports list id found result = GivesByVerdict list exports.Memory (export_verdict id found) result

-- ---- opening

-- What is in the files of a desk: as it is opened, as it is looked at, and as a joint file is moved.

-- a running desk over the unchanged set, which holds the documents whose files an honest set has
pub record DeskOpens (saved : SavedSet) (capacity : ℕ) (desk : DeskView) : Type 0 where
  pub is_capacity : IsCapacity capacity
  pub same : desk.saved ≡ saved
  pub running : desk.is_failed ≡ false
  pub capacity_is : desk.capacity ≡ capacity
  pub found : IsTrue saved.is_honest → HoldsFiles saved.content desk.held

-- the first key, as they rise, whose bytes are no file has this fault
pub record FirstFault (content : Contents) (fault : FileFault) : Type 0 where
  pub key : ℕ
  pub bytes : List ℕ
  pub there : map.get content key ≡ Some bytes
  pub faulty : HasFileFault key bytes fault
  pub before : (other : ℕ) (others : List ℕ) → other < key → map.get content other ≡ Some others → IsFile other others

-- each key of the set has the file of a document, and there is room for them
abbrev pub HoldsAll : SavedSet → ℕ → Type 0
HoldsAll saved capacity = (map.len saved.content ≤ capacity)
    × ((key : ℕ) (bytes : List ℕ) → map.get saved.content key ≡ Some bytes → IsFile key bytes)

-- the first key that is no file has this fault, and there is room for them
abbrev pub HoldsFaulty : SavedSet → ℕ → FileFault → Type 0
HoldsFaulty saved capacity fault = IsCapacity capacity
    × (IsTrue saved.is_honest → (map.len saved.content ≤ capacity) × FirstFault saved.content fault)

-- Why there is no desk over the set. If the set itself lacks no memory, that for what is held is lacking only if
-- nothing else is wrong.
abbrev pub HasDeskFault : SavedSet → ℕ → DeskFault → Type 0
HasDeskFault saved capacity opens.Capacity = ¬ IsCapacity capacity
HasDeskFault saved capacity opens.TooMany =
    IsCapacity capacity × (IsTrue saved.is_honest → capacity < map.len saved.content)
HasDeskFault saved capacity opens.NotPages = HoldsFaulty saved capacity files.NotPages
HasDeskFault saved capacity opens.Version = HoldsFaulty saved capacity files.Version
HasDeskFault saved capacity opens.Damaged = HoldsFaulty saved capacity files.Damaged
HasDeskFault saved capacity opens.Device = IsCapacity capacity × (saved.load_plan ≡ LoadsOpen)
HasDeskFault saved capacity opens.Memory = IsCapacity capacity
    × (IsTrue saved.may_lack_memory ⊎ (IsTrue saved.is_honest → HoldsAll saved capacity))

-- ---- What is seen in a desk's files without a desk: each file by itself, so that a damaged one hides no other.

-- an honest set has bytes under the key, and this is why they are no file of it
abbrev pub HasUnsound : SavedSet → ℕ → FileFault → Type 0
HasUnsound saved key fault =
    IsTrue saved.is_honest → IsSomeAnd (map.get saved.content key) (λ bytes. HasFileFault key bytes fault)

-- What is seen under a key: no file, what a document's file holds, or bytes that are no file; or the load failed.
abbrev pub SeesKey : SavedSet → ℕ → Result (Option Held) DeskFault → Type 0
SeesKey saved key (Ok None) = IsTrue saved.is_honest → map.get saved.content key ≡ None
SeesKey saved key (Ok (Some held)) =
    (pages : Pages) × IsEntry key pages × (held ≡ summary (key, pages))
    × (IsTrue saved.is_honest → map.get saved.content key ≡ Some (file key pages))
SeesKey saved key (Err opens.NotPages) = HasUnsound saved key files.NotPages
SeesKey saved key (Err opens.Version) = HasUnsound saved key files.Version
SeesKey saved key (Err opens.Damaged) = HasUnsound saved key files.Damaged
SeesKey saved key (Err opens.Device) = saved.load_plan ≡ LoadsOpen
SeesKey saved key (Err opens.Memory) = IsTrue saved.may_lack_memory
SeesKey saved key (Err opens.Capacity) = ⊥
SeesKey saved key (Err opens.TooMany) = ⊥

-- the first of these documents whose ID has this number or a greater one, if there is one
abbrev pub IsFirstFrom : Documents → ℕ → Option Held → Type 0
IsFirstFrom held from None = (id : ℕ) → from ≤ id → map.get held id ≡ None
IsFirstFrom held from (Some first) =
    (pages : Pages) × (map.get held first.id ≡ Some pages) × (first ≡ summary (first.id, pages)) × (from ≤ first.id)
    × ((id : ℕ) → from ≤ id → id < first.id → map.get held id ≡ None)

-- ---- The file of version 1, in which all documents of a desk stand together, and why other bytes are none. The format
-- is this project's own. A number of two bytes has the most significant byte first.

-- the entries of documents, one after another
abbrev pub entries_of : List (ℕ × Pages) → List ℕ
entries_of es = flat_map (λ e. entry e.0 e.1) es

-- "DMPG", the version 1, how many documents there are, and their entries by rising ID
unfoldable pub joint_file : Documents → List ℕ
joint_file held = 68 ∷ 77 ∷ 80 ∷ 71 ∷ 1 ∷ to_be_bytes w16 (map.len held) ++ entries_of (map.entries held)

-- the bytes are the joint file of these documents
pub record SpellsAll (bytes : List ℕ) (held : Documents) : Type 0 where
  pub entries : AreEntries held
  pub spelled : bytes ≡ joint_file held
  pub short : length bytes ≤ MOST_JOINT_FILE_BYTES

-- what a store holds: nothing, or the joint file of these documents
abbrev pub HoldsJointFile : Option (List ℕ) → Documents → Type 0
HoldsJointFile None held = held ≡ map.empty
HoldsJointFile (Some bytes) held = SpellsAll bytes held

-- the fifth byte is there, and names another version
abbrev pub IsOfOtherJointVersion : List ℕ → Type 0
IsOfOtherJointVersion bytes = IsSomeAnd (slice_get bytes 4) (λ version. version ≢ 1)

-- why the bytes are no joint file
abbrev pub HasJointFileFault : List ℕ → MoveFault → Type 0
HasJointFileFault bytes moves.NotPages = ¬ IsMarked bytes
HasJointFileFault bytes moves.Version = IsMarked bytes × IsOfOtherJointVersion bytes
HasJointFileFault bytes moves.Damaged =
    IsMarked bytes × (¬ IsOfOtherJointVersion bytes) × ((held : Documents) → ¬ SpellsAll bytes held)
HasJointFileFault bytes moves.Device = ⊥
HasJointFileFault bytes moves.Memory = ⊥

-- ---- what a move promises

-- the file of a document: the set's or, if it has none, that of what the joint file has of it
abbrev pub file_in_either : Contents → Documents → ℕ → Option (List ℕ)
file_in_either content held id = option_or (map.get content id) (option_map (file id) (map.get held id))

-- Whatever documents the old store holds, it and the set hold together what they held before.
abbrev pub KeepsFiles : Saved → SavedSet → Saved → SavedSet → Type 0
KeepsFiles old set old_after set_after = IsTrue old.is_honest → IsTrue set.is_honest →
    (held : Documents) → HoldsJointFile old.content held → (kept : Documents) × HoldsJointFile old_after.content kept
    × ((id : ℕ) → file_in_either set_after.content kept id ≡ file_in_either set.content held id)

-- ---- what is moved

-- the documents of which the set has no file, by rising ID
abbrev pub lacked_by : Contents → Documents → List (ℕ × Pages)
lacked_by content held = filter (λ e. is_none (map.get content e.0)) (map.entries held)

-- what the set holds once the files of these are saved
abbrev pub with_files : Contents → List (ℕ × Pages) → Contents
with_files content [] = content
with_files content (e ∷ es) = with_files (map.insert content e.0 (file e.0 e.1)) es

-- what it holds once the files of the first k that it lacked are saved
abbrev pub moved : Contents → Documents → ℕ → Contents
moved content held k = with_files content (take k (lacked_by content held))

-- ---- what is looked at before the first save

-- the set's file of each of these documents, if it has one, is a file of that document
abbrev pub AreSound : Contents → List (ℕ × Pages) → Type 0
AreSound content es =
    AllByRecursion (λ e. (bytes : List ℕ) → map.get content e.0 ≡ Some bytes → IsFile e.0 bytes) es

-- a move is refused for what an honest set has under a key
abbrev pub IsRefusedAt : SavedSet → ℕ → MoveFault → Type 0
IsRefusedAt set key moves.NotPages = HasUnsound set key files.NotPages
IsRefusedAt set key moves.Version = HasUnsound set key files.Version
IsRefusedAt set key moves.Damaged = HasUnsound set key files.Damaged
IsRefusedAt set key moves.Device = ⊥
IsRefusedAt set key moves.Memory = ⊥

-- The old store holds these documents. Of those of which the set has a file, the first, by rising ID, whose file is
-- none of it has this fault.
pub record FindsUnsound (old : Saved) (set : SavedSet) (fault : MoveFault) : Type 0 where
  pub held : Documents
  pub joint : IsTrue old.is_honest → HoldsJointFile old.content held
  pub k : ℕ
  pub next : ℕ × Pages
  pub is_next : slice_get (map.entries held) k ≡ Some next
  pub before : IsTrue set.is_honest → AreSound set.content (take k (map.entries held))
  pub unsound : IsRefusedAt set next.0 fault

-- ---- how far a move came

-- why a load may fail: that of the old store for this or, if it holds a document, one of the set's for that
abbrev pub MayNotLoad : Saved → Type 0 → Type 0 → Type 0
MayNotLoad old This That =
    This ⊎ (That × (IsTrue old.is_honest → (held : Documents) × HoldsJointFile old.content held × (0 < map.len held)))

-- why a move ends before its first save: the old store holds no document, or no joint file; the set's file of one of
-- its documents is none; or a load failed
abbrev pub EndsEarly : Saved → SavedSet → Result ℕ MoveFault → Type 0
EndsEarly old set (Ok written) = (written ≡ 0) × (IsTrue old.is_honest → HoldsJointFile old.content map.empty)
EndsEarly old set (Err moves.Device) = MayNotLoad old (old.load_plan ≡ LoadsOpen) (set.load_plan ≡ LoadsOpen)
EndsEarly old set (Err moves.Memory) = MayNotLoad old (IsTrue old.may_lack_memory) (IsTrue set.may_lack_memory)
EndsEarly old set (Err fault) =
    (IsTrue old.is_honest → IsSomeAnd old.content (λ bytes. HasJointFileFault bytes fault)) ⊎ FindsUnsound old set fault

-- The old store holds these documents, whose files in the set are sound, and the first k that the set lacked are saved.
-- These saves were not to fail, and leave each plan.
pub record MoveReaches (old : Saved) (set : SavedSet) (held : Documents) (k : ℕ) (now : SavedSet) : Type 0 where
  pub joint : IsTrue old.is_honest → HoldsJointFile old.content held
  pub some : 0 < map.len held
  pub sound : IsTrue set.is_honest → AreSound set.content (map.entries held)
  pub content : IsTrue set.is_honest → now.content ≡ moved set.content held k
  pub same : now ≡ record set { content = now.content }
  pub planned : 0 < k → PlanAllows set.save_plan Done set.save_plan

-- the answer by the last save, before which this many keys were written
abbrev pub move_answer : ℕ → Result (Unit {0}) StoreFault → Result ℕ MoveFault
move_answer written (Ok _) = Ok written
move_answer written (Err fault) = Err (move_fault_of fault)

-- How a move ends: before its first save, and nothing has changed; or at the save of the next document that
-- the set lacked; or all are saved, and it ends with the last save, of a joint file without documents in the old store.
pub data EndsMove (old : Saved) (set : SavedSet) (result : Result ℕ MoveFault) (old_after : Saved) (set_after : SavedSet)
    : Type 0 where
  early : EndsEarly old set result → old_after ≡ old → set_after ≡ set → EndsMove old set result old_after set_after
  at_key : (held : Documents) (k : ℕ) (now : SavedSet) (next : ℕ × Pages) (fault : StoreFault)
      → MoveReaches old set held k now → (IsTrue set.is_honest → slice_get (lacked_by set.content held) k ≡ Some next)
      → SavesKey now next.0 (file next.0 next.1) (Err fault) set_after → old_after ≡ old
      → result ≡ Err (move_fault_of fault) → EndsMove old set result old_after set_after
  at_last : (held : Documents) (k : ℕ) (answer : Result (Unit {0}) StoreFault) → MoveReaches old set held k set_after
      → (IsTrue set.is_honest → k ≡ length (lacked_by set.content held))
      → Replaces old (joint_file map.empty) answer old_after → MayLackMemory old answer → result ≡ move_answer k answer
      → EndsMove old set result old_after set_after

-- a move: whatever comes of it, nothing is lost; and it ends so
pub record Moves (old : Saved) (set : SavedSet) (result : Result ℕ MoveFault) (old_after : Saved) (set_after : SavedSet)
    : Type 0 where
  pub keeps : KeepsFiles old set old_after set_after
  pub ends : EndsMove old set result old_after set_after
