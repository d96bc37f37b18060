-- The commands of the program: what each found and left, and laws. No ID is printed twice, and what is delivered is the
-- one document printed under its ID. None says that any command succeeds.
--
-- The stores and sets are honest: each holds what was last saved or, after a save that failed, that or what it held
-- before. Files on a disk that keeps its promise are such; that a system's disk keeps it is trusted. No other saves to the
-- store at a command's path meanwhile, but others may run beside it at the set there. What it had left by then is what it
-- would have left, had it been cut short then: so it stands in the list once more, cut short, before them.
use Rattle.std.specs.Prelude.{◌≡◌, ◌≢◌, ◌+◌, ◌++◌, ◌∷◌, ◌⊎◌, ℕ, length, AllPairs, Bool, IfSome, IsSomeAnd, IsTrue, List, [], None, Option, Some, slice_get, slice_set}
use Rattle.std.specs.{List.AllByRecursion, Io.KnownBytes.Appends}
use Rattle.std.specs.FinMap as finite
use Rattle.dm_finder_frame.specs.Frame.{GridView}
use Rattle.dm_symbol.specs.Correction.{IsNear}
use Rattle.dm_size.specs.declared.size.Size.{Size}
use Rattle.dm_encodation.specs.declared.scheme.Scheme.{Scheme}
use Rattle.dm_append_label.specs.Labels.{AreParts, Carries, PageView}
use Rattle.dm_store.specs.Saved.{Saved, SavedIn}
use Rattle.dm_print_ledger.specs.Ledger.{JobView}
use Rattle.dm_event_history.specs.Headline.{IsApart}
use Rattle.relay_command.specs.declared.command.Command.{Command}
use Rattle.relay_streams.specs.Streams.{AppendsPart, InputView, OutputView}
use Rattle.relay_shared.specs.{Command.FileView, Command.ReadsDocument, Files.DeskFiles}
use Rattle.relay_printer_commands.specs.Printers.{images_of}
use Rattle.relay_desk_commands.specs.Desks.{IsTextOfId, OnDesk}
use Rattle.relay.specs.Program.{Does, path_of}
use Rattle.relay_program_runs.specs.Passed.{Made, Passed, made_by, passed_by, text_of}

-- ---- commands that ran

-- A command exited with this status. Or the machine cut it short: then it left what its clause allows if, from some
-- point on, each call and each write fails, and nobody saw its status. If its save to a store failed, and a stop of the
-- machine undid that before another command read the file, it counts as cut short.
pub data Halts (A : Type 0) (command : Command) (inputs : List FileView) (before after : OnDesk) : Type 0 where
  exited : (status : ℕ) → Does A command inputs before status after → Halts A command inputs before after
  cut_short : (status : ℕ) → Does A command inputs before status after → Halts A command inputs before after

-- A command with its options; the bytes of each file that it was given to read, where they are known; what it found and
-- what it left: the store at its path, the set beside it, and its streams; and how it ended, with the clause of
-- `do_command` that it met. `A` is its allocator.
pub record Ran (A : Type 0) : Type 0 where
  pub command : Command
  pub inputs : List FileView
  pub before : OnDesk
  pub after : OnDesk
  pub ends : Halts A command inputs before after

abbrev pub status_of : {A : Type 0} {command : Command} {inputs : List FileView} {before after : OnDesk} →
    Halts A command inputs before after → Option ℕ
status_of (exited status does) = Some status
status_of (cut_short status does) = None

-- what it let out and took in
abbrev pub passed_at : {A : Type 0} {command : Command} {inputs : List FileView} {before after : OnDesk} →
    Halts A command inputs before after → Passed
passed_at {A} {command} {inputs} {before} {after} (exited status does) =
    passed_by A command inputs before status after does
passed_at {A} {command} {inputs} {before} {after} (cut_short status does) =
    passed_by A command inputs before status after does

abbrev pub passed : {A : Type 0} → Ran A → Passed
passed ran = passed_at ran.ends

-- ---- a site

-- a store at a path, or the set beside it
pub record At (X : Type 0) : Type 0 where
  pub path : List ℕ
  pub saved : SavedIn X

abbrev pub store_of : DeskFiles → Saved
store_of files = files.joint

abbrev pub StoreAt : Type 0
StoreAt = At (Option (List ℕ))

-- it is honest, and holds nothing
pub record IsBlank {X : Type 0} (none : X) (saved : SavedIn X) : Type 0 where
  pub honest : IsTrue saved.is_honest
  pub empty : saved.content ≡ none

-- no path is there twice, and there is nothing at any of them
pub record IsNew {X : Type 0} (none : X) (site : List (At X)) : Type 0 where
  pub paths : AllPairs (λ one other. one.path ≢ other.path) site
  pub blank : (place : ℕ) (at : At X) → slice_get site place ≡ Some at → IsBlank none at.saved

abbrev pub at_its_path : {A X : Type 0} → Ran A → SavedIn X → At X
at_its_path ran saved = record { path = path_of ran.command; saved = saved }

-- The commands ran one after another, the oldest first. Of its files each found, as its store or as its set, what the
-- site has at its path, and what it left is there from then on; nothing else changes it.
abbrev pub RunInTurn : {A X : Type 0} → (DeskFiles → SavedIn X) → List (At X) → List (Ran A) → Type 0
RunInTurn of site [] = Unit {0}
RunInTurn of site (ran ∷ later) = (place : ℕ) × (slice_get site place ≡ Some (at_its_path ran (of ran.before.files)))
    × RunInTurn of (slice_set site place (at_its_path ran (of ran.after.files))) later

-- this holds of each of them and of those that ran before it
abbrev pub Each : {A : Type 0} → (List (Ran A) → Ran A → Type 0) → List (Ran A) → List (Ran A) → Type 0
Each P earlier [] = Unit {0}
Each P earlier (ran ∷ later) = P earlier ran × Each P (earlier ++ ran ∷ []) later

-- this holds of one of these
abbrev pub SomeRan : {A : Type 0} → (Ran A → Type 0) → List (Ran A) → Type 0
SomeRan {A} P rans = (number : ℕ) × (ran : Ran A) × (slice_get rans number ≡ Some ran) × P ran

-- ---- premises

abbrev pub all_made : {A : Type 0} → List (Ran A) → List Made
all_made [] = []
all_made (ran ∷ later) = made_by ran.command ran.before ran.after ++ all_made later

-- two ledgers have different numbers, and no ID is in both ranges
abbrev pub AreApart : Made → Made → Type 0
AreApart one other = (one.number ≢ other.number) × IsApart one.range other.range

-- if it took in a ticket, that was given before
abbrev pub TakesGiven : {A : Type 0} → List (Ran A) → Ran A → Type 0
TakesGiven earlier ran = IfSome (passed ran).taken (λ ticket. SomeRan (λ giver. (passed giver).given ≡ Some ticket) earlier)

-- the grid is one of the labels of its job, or it is the label that `copy` wrote at one of these paths
abbrev pub LetsOut : {A : Type 0} → (List ℕ → Type 0) → GridView → Ran A → Type 0
LetsOut IsAmong grid ran = IsSomeAnd (passed ran).printed (λ job. (i : ℕ) × (slice_get job.labels i ≡ Some grid))
    ⊎ (((passed ran).copied ≡ Some grid) × IsAmong (path_of ran.command))

-- it left these bytes as the file with this key in the folder at its path
abbrev pub LeavesAs : {A : Type 0} → ℕ → List ℕ → Ran A → Type 0
LeavesAs key bytes ran = finite.get ran.after.files.set.content key ≡ Some bytes

-- it exported these bytes, or left them as a file in that folder
abbrev pub LeavesFile : {A : Type 0} → List ℕ → Ran A → Type 0
LeavesFile bytes ran = ((passed ran).exported ≡ Some bytes) ⊎ ((key : ℕ) × LeavesAs key bytes ran)

-- At one of these paths it took in only grids near such labels, and files that were left before at one of these paths.
pub record TakesPrinted {A : Type 0} (IsAmong : List ℕ → Type 0) (earlier : List (Ran A)) (ran : Ran A) : Type 0 where
  pub scans : IsAmong (path_of ran.command) → AllByRecursion (λ grid. (own : GridView) × IsNear grid own
      × SomeRan (LetsOut IsAmong own) earlier) (passed ran).scanned
  pub imports : IsAmong (path_of ran.command) → AllByRecursion (λ bytes.
      SomeRan (λ other. LeavesFile bytes other × IsAmong (path_of other.command)) earlier) (passed ran).imported

-- The set that it found at one of these paths is honest. Each file in it was left before at one of these paths, under
-- the same key; so some may be of an older moment than others, and some may be gone.
pub record FindsLeft {A : Type 0} (IsAmong : List ℕ → Type 0) (earlier : List (Ran A)) (ran : Ran A) : Type 0 where
  pub honest : IsAmong (path_of ran.command) → IsTrue ran.before.files.set.is_honest
  pub files : IsAmong (path_of ran.command) → (key : ℕ) (bytes : List ℕ) →
      finite.get ran.before.files.set.content key ≡ Some bytes →
      SomeRan (λ other. LeavesAs key bytes other × IsAmong (path_of other.command)) earlier

-- ---- conclusions

-- no earlier job had the ID of its job
abbrev pub IsFirstOfItsId : {A : Type 0} → List (Ran A) → Ran A → Type 0
IsFirstOfItsId earlier ran = IfSome (passed ran).printed (λ job.
    ¬ SomeRan (λ other. IsSomeAnd (passed other).printed (λ its. its.id ≡ job.id)) earlier)

-- the page is one of these parts of a document, in its place
pub record IsOnePart (parts : List (List ℕ)) (page : PageView) : Type 0 where
  pub place : ℕ
  pub m_is : page.m ≡ place + 1
  pub n_is : page.n ≡ length parts
  pub part : slice_get parts place ≡ Some page.bytes

-- It read the document, and its job has the ID. Each label of the job carries a part of the document under that ID, and
-- a first part of their images was written. If the bytes of the input are not known, only the labels say which document
-- it was; if those of the output are not, nothing says what was written.
pub record PrintsUnder {A : Type 0} (id : ℕ) (document : List ℕ) (ran : Ran A) : Type 0 where
  pub rest : InputView
  pub read : ReadsDocument ran.before.streams.input rest document
  pub job : JobView
  pub job_is : (passed ran).printed ≡ Some job
  pub id_is : job.id ≡ id
  pub size : Size
  pub scheme : Scheme
  pub parts : List (List ℕ)
  pub are_parts : AreParts size scheme document parts
  pub labels : (i : ℕ) (grid : GridView) → slice_get job.labels i ≡ Some grid →
      (page : PageView) × Carries page grid × (page.id ≡ id) × IsOnePart parts page
  pub written : AppendsPart ran.before.streams.output.contents ran.after.streams.output.contents (images_of job.labels)

-- it wrote nothing, and its status is 1 if it exited
abbrev pub WritesNothing : {A : Type 0} → Ran A → Type 0
WritesNothing ran =
    (ran.after.streams.output ≡ ran.before.streams.output) × IfSome (status_of ran.ends) (λ status. status ≡ 1)

-- it wrote a first part of these bytes, and all of them if its status is 0
abbrev pub WritesPart : {A : Type 0} → List ℕ → Ran A → Type 0
WritesPart bytes ran = let old : OutputView = ran.before.streams.output in let new : OutputView = ran.after.streams.output in
    AppendsPart old.contents new.contents bytes
    × IfSome (status_of ran.ends) (λ status. status ≡ 0 → Appends old.contents new.contents bytes)

-- it wrote nothing, or of a document that was printed before under the ID that the text spells
pub data WritesPrinted {A : Type 0} (earlier : List (Ran A)) (text : List ℕ) (ran : Ran A) : Type 0 where
  writes_nothing : WritesNothing ran → WritesPrinted earlier text ran
  writes : (id : ℕ) (document : List ℕ) → IsTextOfId text id → SomeRan (PrintsUnder id document) earlier
      → WritesPart document ran → WritesPrinted earlier text ran

-- a `deliver` at one of these paths does so
abbrev pub DeliversPrinted : {A : Type 0} → (List ℕ → Type 0) → List (Ran A) → Ran A → Type 0
DeliversPrinted IsAmong earlier ran =
    IfSome (text_of ran.command) (λ text. IsAmong (path_of ran.command) → WritesPrinted earlier text ran)

-- What labels prints let out tells which one document it was: nothing need be known of the bytes that they read.
abbrev pub HaveOneDocument : {A : Type 0} → List (Ran A) → Type 0
HaveOneDocument rans = (id : ℕ) (one other : List ℕ) → SomeRan (PrintsUnder id one) rans →
    SomeRan (PrintsUnder id other) rans → one ≡ other

-- A print that counts has a document: it read it, and the labels of its job carry its parts under the job's ID.
abbrev pub EachPrintHasADocument : Type 0 → Type 0
EachPrintHasADocument A = (ran : Ran A) (job : JobView) → (passed ran).printed ≡ Some job →
    (document : List ℕ) × PrintsUnder job.id document ran

-- the one document of the ID that the text spells: an earlier command printed it, and none prints another under that ID
pub record IsDocumentOf {A : Type 0} (earlier rans : List (Ran A)) (text document : List ℕ) : Type 0 where
  pub id : ℕ
  pub id_is : IsTextOfId text id
  pub printed : SomeRan (PrintsUnder id document) earlier
  pub no_other : (other : List ℕ) → SomeRan (PrintsUnder id other) rans → other ≡ document

-- a `deliver` at one of these paths wrote nothing, or of the one document of its ID
abbrev pub DeliversTheDocument : {A : Type 0} → (List ℕ → Type 0) → List (Ran A) → List (Ran A) → Ran A → Type 0
DeliversTheDocument IsAmong rans earlier ran = IfSome (text_of ran.command) (λ text. IsAmong (path_of ran.command) →
    WritesNothing ran ⊎ ((document : List ℕ) × IsDocumentOf earlier rans text document × WritesPart document ran))

-- ---- the laws

-- What all laws ask of a list of commands at a site: its stores are empty at first, each command finds the store that the
-- last one at its path left, ledgers are made apart, and tickets are taken as they were given.
pub record MeetsPremises {A : Type 0} (site : List StoreAt) (rans : List (Ran A)) : Type 0 where
  pub is_new : IsNew None site
  pub runs : RunInTurn store_of site rans
  pub apart : AllPairs AreApart (all_made rans)
  pub tickets : Each TakesGiven [] rans

-- What the second law asks besides of the desks at these paths.
pub record AreVouchedFor {A : Type 0} (IsAmong : List ℕ → Type 0) (rans : List (Ran A)) : Type 0 where
  pub takes : Each (TakesPrinted IsAmong) [] rans
  pub finds : Each (FindsLeft IsAmong) [] rans

-- No ID is printed twice. Nothing is asked of desks. A `copy` draws a label again, and is not a print.
abbrev pub NoIdIsPrintedTwice : Type 0 → Type 0
NoIdIsPrintedTwice A = (site : List StoreAt) (rans : List (Ran A)) → MeetsPremises site rans → Each IsFirstOfItsId [] rans

-- What is delivered at chosen paths was printed, if what these took in was printed too. So a misread elsewhere does not
-- matter, unless a copy, an export or a file comes from there.
abbrev pub WhatIsDeliveredWasPrinted : Type 0 → Type 0
WhatIsDeliveredWasPrinted A = (among : List ℕ → Bool) (site : List StoreAt) (rans : List (Ran A)) →
    MeetsPremises site rans → AreVouchedFor (λ path. IsTrue (among path)) rans →
    Each (DeliversPrinted (λ path. IsTrue (among path))) [] rans

-- each ID has one document
abbrev pub EachIdHasOneDocument : Type 0 → Type 0
EachIdHasOneDocument A = (site : List StoreAt) (rans : List (Ran A)) → MeetsPremises site rans → HaveOneDocument rans

-- What is delivered at chosen paths is that document. So two that deliver an ID with the status 0 write the same.
abbrev pub WhatIsDeliveredIsTheDocument : Type 0 → Type 0
WhatIsDeliveredIsTheDocument A = (among : List ℕ → Bool) (site : List StoreAt) (rans : List (Ran A)) →
    MeetsPremises site rans → AreVouchedFor (λ path. IsTrue (among path)) rans →
    Each (DeliversTheDocument (λ path. IsTrue (among path)) rans) [] rans
