-- Worked lists: commands over stores in memory and streams whose bytes are known. One list meets all premises of the
-- laws. Each of the short ones meets all but one, and the conclusion fails.
use Rattle.std.specs.Prelude.{◌≡◌, ◌≢◌, ◌⊎◌, ◌≤◌, ◌<◌, ℕ, All, AllPairs, Bool, Err, IsSome, IsSomeAnd, IsTrue, List, [], ◌∷◌, ◌++◌, None, Ok, Option, Some, codes, false, length, slice_get, true}
use Rattle.std.specs.FinMap as finite
use Rattle.std.specs.Borrow.{Bor}
use Rattle.dm_finder_frame.specs.Frame.{GridView}
use Rattle.dm_symbol.specs.Correction.{IsNear}
use Rattle.dm_store.specs.declared.mem_store.NextSave.TheVariants.{Fine}
use Rattle.dm_store.specs.Saved.{with_open_plans, Contents, Saved, SavedSet, in_memory}
use Rattle.dm_print_ledger.specs.{Ledger.JobView, Ledger.ShownView, Ledger.TicketView, Ledger.is_free, Ledger.is_in, Ledger.is_old, Ledger.read_ledger, declared.fault.TakeFault.TakeFault}
use Rattle.dm_print_ledger.specs.declared.fault.TakeFault.TheVariants as takes
use Rattle.dm_assembly_desk.specs.declared.fault.{ScanFault.ScanFault, ImportFault.ImportFault}
use Rattle.dm_assembly_desk.specs.declared.fault.ScanFault.TheVariants as scans
use Rattle.dm_assembly_desk.specs.declared.fault.ImportFault.TheVariants as imports
use Rattle.relay_runs.specs.Runs.{if_taken}
use Rattle.relay_desk_runs.specs.Answered.{if_imported, if_saved}
use Rattle.relay_command.specs.declared.command.Command.{Command, TheVariants.Scan}
use Rattle.relay_streams.specs.Streams.{AppendsPart, InputView}
use Rattle.relay_shared.specs.Command.{ReadsDocument, StreamsView}
use Rattle.dm_event_history.specs.Headline.{IsApart}
use Rattle.relay_shared.specs.Files.{DeskFiles}
use Rattle.relay_desk_commands.specs.Desks.{IsTextOfId, OnDesk}
use Rattle.relay.specs.Program.{Does, path_of}
use Rattle.relay_program_runs.specs.Passed.{Made, made_where, text_of}
use Rattle.relay_program_runs.specs.Law.{AreApart, AreVouchedFor, At, MeetsPremises, DeliversPrinted, Each, IsBlank, IsFirstOfItsId, IsNew, LeavesFile, LetsOut, NoIdIsPrintedTwice, PrintsUnder, Ran, RunInTurn, SomeRan, StoreAt, TakesGiven, TakesPrinted, WhatIsDeliveredWasPrinted, WritesPrinted, all_made, at_its_path, passed, status_of, store_of}
use Rattle.relay_program_runs.specs.{InTurn.set_of, Where.IsLeftAt, Where.IsThere, Where.free_at, Where.on_ticket, Where.printed}

-- an input with these bytes, and outputs to which nothing was written
abbrev pub streams_of_input : List ℕ → StreamsView
streams_of_input input = record {
  input = record { remaining = Some input; has_failed = false };
  output = record { contents = Some []; has_failed = false };
  errors = record { contents = Some []; has_failed = false };
}

-- these files, with such streams
abbrev pub given : DeskFiles → List ℕ → OnDesk
given files input = record { files = files; streams = streams_of_input input }

-- The command was done, with this input and no file to read: it has this status, left these files, and wrote this.
pub record IsDone (A : Type 0) (command : Command) (files : DeskFiles) (input : List ℕ) (status : ℕ)
    (files_after : DeskFiles) (output : List ℕ) : Type 0 where
  pub after : OnDesk
  pub does : Does A command [] (given files input) status after
  pub files_are : after.files ≡ files_after
  pub output_is : after.streams.output.contents ≡ Some output

abbrev pub two_files : Saved → SavedSet → DeskFiles
two_files store set = record { joint = store; set = set }

-- files in memory, behind fuses, that hold nothing
abbrev pub no_files : DeskFiles
no_files = two_files (with_open_plans (in_memory None false Fine)) (with_open_plans (in_memory finite.empty false Fine))

-- ---- the worked list

-- a `deliver` at this path that exited with 0, and wrote these bytes
pub record Delivers {A : Type 0} (path written : List ℕ) (ran : Ran A) : Type 0 where
  pub asks : IsSome (text_of ran.command)
  pub path_is : path_of ran.command ≡ path
  pub well : status_of ran.ends ≡ Some 0
  pub before : ran.before.streams.output.contents ≡ Some []
  pub after : ran.after.streams.output.contents ≡ Some written

-- it wrote some bytes, and exited with 1
abbrev pub IsLost : {A : Type 0} → Ran A → Type 0
IsLost ran = (status_of ran.ends ≡ Some 1) × IsSomeAnd ran.after.streams.output.contents (λ bytes. 0 < length bytes)

-- A `deliver` read a desk while a scan ran there. What the scan had left by then, here all, stands before it, cut short;
-- the whole scan, which had found an empty folder, stands after it.
pub record IsReadBeside (A : Type 0) : Type 0 where
  pub site : List StoreAt
  pub earlier : List (Ran A)
  pub moment : Ran A
  pub reader : Ran A
  pub whole : Ran A
  pub is_scan : (file : Bor (List ℕ)) × (capacity : ℕ) × (whole.command ≡ Scan file capacity)
  pub one_scan : (moment.command ≡ whole.command) × (moment.before ≡ whole.before) × (status_of moment.ends ≡ None)
  pub same_desk : path_of whole.command ≡ path_of reader.command
  pub was_empty : whole.before.files.set.content ≡ finite.empty
  pub delivers : Delivers (codes "d") (codes "1234") reader
  pub asks : MeetsPremises site (earlier ++ moment ∷ reader ∷ whole ∷ [])
  pub vouched : AreVouchedFor (λ path. IsTrue true) (earlier ++ moment ∷ reader ∷ whole ∷ [])

-- Fourteen commands that meet all premises of the laws, at all paths. One took a ticket, one was cut short, the
-- output of one was lost, one copied a label, and two desks delivered what was printed.
pub record IsWorked (A : Type 0) (written : List ℕ) : Type 0 where
  pub site : List StoreAt
  pub rans : List (Ran A)
  pub count : length rans ≡ 14
  pub asks : MeetsPremises site rans
  pub vouched : AreVouchedFor (λ path. IsTrue true) rans
  pub takes : SomeRan (λ ran. IsSome (passed ran).taken) rans
  pub cut : SomeRan (λ ran. status_of ran.ends ≡ None) rans
  pub lost : SomeRan IsLost rans
  pub copies : SomeRan (λ ran. IsSome (passed ran).copied) rans
  pub here : SomeRan (Delivers (codes "d") (codes "1234")) rans
  pub there : SomeRan (Delivers (codes "e") written) rans
  pub written_is : written ≡ codes "1234"
  pub beside : IsReadBeside A
  -- the laws apply to it, and ask nothing else
  pub once : NoIdIsPrintedTwice A → Each IsFirstOfItsId [] rans
  pub delivered : WhatIsDeliveredWasPrinted A → Each (DeliversPrinted (λ path. IsTrue true)) [] rans

-- All statuses are 0 but one, which is 1, after some bytes; the file is short; and the document came out twice.
pub record EndWell (statuses : List ℕ) (status : ℕ) (some file one other : List ℕ) : Type 0 where
  pub statuses_are : All (λ status. status ≡ 0) statuses
  pub lost : (status ≡ 1) × (0 < length some)
  pub short : length file ≤ 1000
  pub documents : (one ≡ codes "1234") × (other ≡ codes "1234")

-- ---- what is refused does not count

-- A ticket, a grid or a file that was refused was not taken in, unless its save failed; and no ledger was made if there
-- was a file before, or is none after.
pub record RefusalsCountNot : Type 0 where
  pub ticket : (fault : TakeFault) → fault ≢ takes.Save → (ticket : TicketView) → if_taken (Err fault) ticket ≡ None
  pub grid : (fault : ScanFault) → fault ≢ scans.Save → (grid : GridView) → if_saved fault grid ≡ []
  pub file : (fault : ImportFault) → fault ≢ imports.Save → (file : List ℕ) → if_imported (Err fault) file ≡ []
  pub there : (old : List ℕ) (after : Option (List ℕ)) (ledger : Made) → made_where (Some old) after ledger ≡ []
  pub absent : (before : Option (List ℕ)) (ledger : Made) → made_where before None ledger ≡ []

-- ---- what the terms of the laws cover at least

-- A command is at the path that it names. However a print ended, the labels of its job were let out, its ID is not
-- printed again, and its document was read. The label that a `copy` at such a path wrote was let out, too. However a
-- `deliver` ended, and whatever is known of its output, what it delivered was printed. A grid near one that was let out
-- may be taken in, and so may files that were exported or kept. An ID is free if the ledger that was left says so; it is
-- on a ticket that this ledger awaits, or it is that of a job.
pub record SayAtLeast (A : Type 0) : Type 0 where
  pub place : (ran : Ran A) (saved : Saved) → (at_its_path ran saved).path ≡ path_of ran.command
  pub label : (among : List ℕ → Bool) (ran : Ran A) (job : JobView) (i : ℕ) (grid : GridView) →
      (passed ran).printed ≡ Some job → slice_get job.labels i ≡ Some grid → LetsOut (λ path. IsTrue (among path)) grid ran
  pub copied : (among : List ℕ → Bool) (ran : Ran A) (grid : GridView) → (passed ran).copied ≡ Some grid →
      IsTrue (among (path_of ran.command)) → LetsOut (λ path. IsTrue (among path)) grid ran
  pub near : (among : List ℕ → Bool) (earlier : List (Ran A)) (ran : Ran A) (own grid : GridView) → IsNear grid own →
      SomeRan (LetsOut (λ path. IsTrue (among path)) own) earlier → (passed ran).scanned ≡ grid ∷ [] →
      (passed ran).imported ≡ [] → TakesPrinted (λ path. IsTrue (among path)) earlier ran
  pub first : (earlier : List (Ran A)) (ran : Ran A) (job : JobView) → IsFirstOfItsId earlier ran →
      (passed ran).printed ≡ Some job → ¬ SomeRan (λ other. IsSomeAnd (passed other).printed (λ its. its.id ≡ job.id)) earlier
  pub read : (id : ℕ) (document : List ℕ) (ran : Ran A) → PrintsUnder id document ran →
      (rest : InputView) × ReadsDocument ran.before.streams.input rest document
  pub written : (earlier : List (Ran A)) (text : List ℕ) (ran : Ran A) → WritesPrinted earlier text ran →
      (ran.after.streams.output ≡ ran.before.streams.output)
      ⊎ ((id : ℕ) × (document : List ℕ) × IsTextOfId text id × SomeRan (PrintsUnder id document) earlier
      × AppendsPart ran.before.streams.output.contents ran.after.streams.output.contents document)
  pub exported : (bytes : List ℕ) (ran : Ran A) → (passed ran).exported ≡ Some bytes → LeavesFile bytes ran
  pub kept : (key : ℕ) (bytes : List ℕ) (ran : Ran A) → finite.get ran.after.files.set.content key ≡ Some bytes →
      LeavesFile bytes ran
  pub files : (among : List ℕ → Bool) (earlier : List (Ran A)) (ran : Ran A) (one other : List ℕ) →
      SomeRan (λ its. LeavesFile one its × IsTrue (among (path_of its.command))) earlier →
      SomeRan (λ its. LeavesFile other its × IsTrue (among (path_of its.command))) earlier → (passed ran).scanned ≡ [] →
      (passed ran).imported ≡ one ∷ other ∷ [] → TakesPrinted (λ path. IsTrue (among path)) earlier ran
  pub free : (ran : Ran A) (id : ℕ) (bytes : List ℕ) (shown : ShownView) (first : Saved) →
      ran.after.files.joint.content ≡ Some bytes → read_ledger bytes ≡ Ok shown → is_free shown.free id ≡ true →
      IsThere (IsLeftAt (at_its_path ran first ∷ []) (ran ∷ [])) (ran ∷ []) id (free_at (path_of ran.command))
  pub awaits : (giver ran : Ran A) (ticket : TicketView) (id : ℕ) (bytes : List ℕ) (shown : ShownView) (first : Saved) →
      (passed giver).given ≡ Some ticket → is_in ticket.range id ≡ true → ran.after.files.joint.content ≡ Some bytes →
      read_ledger bytes ≡ Ok shown → shown.number ≡ Some ticket.receiver →
      is_old shown.givers ticket.giver ticket.serial ≡ false →
      IsThere (IsLeftAt (at_its_path ran first ∷ []) (giver ∷ ran ∷ [])) (giver ∷ ran ∷ []) id (on_ticket ticket)
  pub prints : (site : List StoreAt) (ran : Ran A) (job : JobView) → (passed ran).printed ≡ Some job →
      IsThere (IsLeftAt site (ran ∷ [])) (ran ∷ []) job.id printed

-- ---- each premise is needed

-- A list that meets the premises of a law, one of them in a weaker form, and for which its conclusion fails.
pub record Breaks (A : Type 0) (Run : List StoreAt → List (Ran A) → Type 0) (Apart : Made → Made → Type 0)
    (Takes So : List (Ran A) → Ran A → Type 0) : Type 0 where
  pub site : List StoreAt
  pub rans : List (Ran A)
  pub is_new : IsNew None site
  pub runs : Run site rans
  pub apart : AllPairs Apart (all_made rans)
  pub tickets : Each Takes [] rans
  pub fails : ¬ Each So [] rans

-- two ledgers have one range
abbrev pub NeedsRanges : Type 0 → Type 0
NeedsRanges A = Breaks A (RunInTurn store_of) (λ one other. one.number ≢ other.number) TakesGiven IsFirstOfItsId

-- two ledgers have one number
abbrev pub NeedsNumbers : Type 0 → Type 0
NeedsNumbers A = Breaks A (RunInTurn store_of) (λ one other. IsApart one.range other.range) TakesGiven IsFirstOfItsId

-- a ticket is taken that nobody gave
abbrev pub NeedsTickets : Type 0 → Type 0
NeedsTickets A = Breaks A (RunInTurn store_of) AreApart (λ earlier ran. Unit {0}) IsFirstOfItsId

-- The store that it found at its path holds nothing, or what some command once left there.
abbrev pub FindsOld : {A : Type 0} → List (Ran A) → Ran A → Type 0
FindsOld earlier ran = IsBlank None ran.before.files.joint
    ⊎ SomeRan (λ other. at_its_path other other.after.files.joint ≡ at_its_path ran ran.before.files.joint) earlier

-- a ledger is put back
abbrev pub NeedsFiles : Type 0 → Type 0
NeedsFiles A = Breaks A (λ site. Each FindsOld []) AreApart TakesGiven IsFirstOfItsId

-- each found, as its store and as its set, what the last one at its path left
abbrev pub BothInTurn : {A : Type 0} → List StoreAt → List (Ran A) → Type 0
BothInTurn site rans = RunInTurn store_of site rans
    × (sets : List (At Contents)) × IsNew finite.empty sets × RunInTurn set_of sets rans

-- a label is taken in that no print or copy of the list let out, but no file is
abbrev pub NeedsLabels : Type 0 → Type 0
NeedsLabels A = Breaks A BothInTurn AreApart (λ earlier ran. TakesGiven earlier ran × ((passed ran).imported ≡ []))
    (DeliversPrinted (λ path. IsTrue true))

-- a file is taken in that no command of the list left, but no label is
abbrev pub NeedsExports : Type 0 → Type 0
NeedsExports A = Breaks A BothInTurn AreApart (λ earlier ran. TakesGiven earlier ran × ((passed ran).scanned ≡ []))
    (DeliversPrinted (λ path. IsTrue true))

-- a folder has a file that no command of the list left there, and nothing is taken in
abbrev pub NeedsFolders : Type 0 → Type 0
NeedsFolders A = Breaks A (RunInTurn store_of) AreApart (λ earlier ran. TakesGiven earlier ran
    × ((passed ran).scanned ≡ []) × ((passed ran).imported ≡ [])) (DeliversPrinted (λ path. IsTrue true))
