-- What commands of a desk took in and gave out, by their contracts: the grids of a scan, the files of an import, the
-- file of an export, and the label that `copy` wrote.
use Rattle.std.specs.Prelude.{ℕ, Bool, List, [], ◌∷◌, ◌++◌, Option, None, Some, Result, Ok, Err, ◌≡◌, ◌<◌, IfSome, IsTrue, slice_get}
use Rattle.dm_finder_frame.specs.Frame.{GridView}
use Rattle.dm_size.specs.declared.size.Size.{Size}
use Rattle.dm_encodation.specs.declared.scheme.Scheme.{Scheme}
use Rattle.dm_pbm_io.specs.Image.{Picture}
use Rattle.dm_assembly_desk.specs.Documents.{DeskView, Documents, HoldsFiles, IsEntry, Pages, file}
use Rattle.dm_assembly_desk.specs.declared.fault.{ScanFault.ScanFault, ImportFault.ImportFault}
use Rattle.dm_assembly_desk.specs.{declared.reply.Imported.Imported, Desk.HoldsJointFile}
use Rattle.relay_streams.specs.Streams.{InputView, OutputView, AppendsPart}
use Rattle.relay_shared.specs.Command.{AnswersImages, AtImage, FileView, ImageComes, EndsImages, Progress, Said, TellsFile, TellsFiles, TellsImages, TellsInputs, ImageComes.image, ImageComes.unread, ImageComes.too_many, AnswersImages.none, AnswersImages.another, EndsImages.no_image, EndsImages.last_line, TellsImages.ended, TellsImages.stopped, TellsFiles.last_file, TellsFiles.next_file, TellsFiles.no_file, TellsInputs.of_files, TellsInputs.of_input}
use Rattle.relay_shared.specs.Command.TellsFile.{not_opened, opened as was_opened}
use Rattle.relay_desk_commands.specs.Desks.{EndsCopy, GivesCopy, AtDesk, EndsExport, EndsImport, EndsScan, OnDesk, ScansPicture, scan_images, EndsDeliver, EndsForget, IsTextOfId, EndsCopyOf.no_side, EndsCopyOf.of_side, EndsOnId.no_id, EndsOnId.of_id, ScansPicture.accepted, ScansPicture.refused, ScansPicture.unsettled, ScansPicture.no_grid, EndsAtDesk.no_desk, EndsAtDesk.opened, EndsImport.not_read, EndsImport.read, EndsImport.read_files, ImportsFile, ImportsFile.file_not_read, ImportsFile.file_read}
use Rattle.relay_desk_commands.specs.declared.copy.CopyOptions.{CopyOptions}
use Rattle.std.specs.{List.AllByRecursion, Result.result_ok, Io.KnownBytes.Appends}
use Rattle.dm_symbol.specs.Correction.{IsNear}
use Rattle.dm_append_label.specs.Labels.{Carries, PageView}
use Rattle.dm_store.specs.Saved.{Saved, SavedSet}
use Rattle.dm_event_history.specs.Relay.{Label}
use Rattle.dm_event_history.specs.Headline.{AreOfOneDocument, ArePrinted, HaveLeft, IsCleanExport, IsTheDocument}
use Rattle.dm_assembly_desk.specs.declared.fault.ScanFault.TheVariants as scans
use Rattle.dm_assembly_desk.specs.declared.fault.ImportFault.TheVariants as imports
use Rattle.std.specs.FinMap as finite

-- what a command took in from files, one after another
abbrev pub of_each_file : {S X : Type 0} {Tells : FileView → S → ℕ → S → Type 0} {has_stopped : S → Bool}
    (of_one : (file : FileView) (old : S) (status : ℕ) (new : S) → Tells file old status new → List X)
    {files : List FileView} {old new : S} {status : ℕ} → TellsFiles Tells has_stopped files old status new → List X
of_each_file of_one no_file = []
of_each_file of_one (last_file tells is_last) = of_one _ _ _ _ tells
of_each_file of_one (next_file tells goes_on others) = of_one _ _ _ _ tells ++ of_each_file of_one others

-- ---- a scan: the grids that were accepted, and one that may have been, since its save failed

abbrev pub if_saved : ScanFault → GridView → List GridView
if_saved scans.Save grid = grid ∷ []
if_saved fault grid = []

abbrev pub grids_of_picture : {number : ℕ} {p : Picture} {before after : AtDesk} {said : Said} →
    ScansPicture number p before said after → List GridView
grids_of_picture (accepted grid reply shape inside accepts) = grid ∷ []
grids_of_picture (refused grid fault id shape inside accepts is notes) = if_saved fault grid
grids_of_picture (unsettled grid why shape inside is notes) = []
grids_of_picture (no_grid has notes) = []

abbrev pub grids_of_bytes : {count : ℕ} {now after : AtDesk} {bytes : List ℕ} {rest : InputView} {said : Said}
    {last : Bool} → ImageComes scan_images count now bytes rest said last after → List GridView
grids_of_bytes (image p few spells answers is) = grids_of_picture answers
grids_of_bytes (unread fault few is sees) = []
grids_of_bytes (too_many all is) = []

abbrev pub grids_before : {start now : Progress scan_images} {count : ℕ} {any : Bool} →
    AnswersImages scan_images start count any now → List GridView
grids_before none = []
grids_before (another one answers takes whole appends) = grids_before answers ++ grids_of_bytes takes.comes

abbrev pub grids_at_end : {count : ℕ} {old new : Progress scan_images} {said : Said} →
    EndsImages scan_images count old said new → List GridView
grids_at_end (no_image few keeps at_end) = []
grids_at_end (last_line takes) = grids_of_bytes takes.comes

abbrev pub grids_of_images : {start new : Progress scan_images} {status : ℕ} →
    TellsImages scan_images start status new → List GridView
grids_of_images (ended said answers last reads appends is) = grids_before answers ++ grids_at_end last
grids_of_images (stopped said answers takes failed part is) = grids_before answers ++ grids_of_bytes takes.comes

abbrev pub grids_of_file : (file : FileView) (old : AtImage scan_images) (status : ℕ)
    (new : AtImage scan_images) → TellsFile scan_images file old status new → List GridView
grids_of_file file old status new (was_opened rest tells) = grids_of_images tells
grids_of_file file old status new (not_opened fault may same told) = []

abbrev pub grids_of_inputs : {files : List FileView} {start new : Progress scan_images}
    {status : ℕ} → TellsInputs scan_images files start status new → List GridView
grids_of_inputs (of_input tells) = grids_of_images tells
grids_of_inputs (of_files same tells) = of_each_file grids_of_file tells

abbrev pub grids_scanned : {capacity : ℕ} {images : List FileView} {old new : OnDesk} {status : ℕ} →
    EndsScan capacity images old status new → List GridView
grids_scanned (no_desk name has refuses) = []
grids_scanned (opened desk opens rest) = grids_of_inputs rest.1

-- ---- an import: the files that were taken in, and one that may have been, since its save failed

abbrev pub if_imported : Result Imported ImportFault → List ℕ → List (List ℕ)
if_imported (Ok reply) bytes = bytes ∷ []
if_imported (Err imports.Save) bytes = bytes ∷ []
if_imported (Err fault) bytes = []

abbrev pub bytes_of_file : (file : FileView) (old : DeskView × OutputView) (status : ℕ)
    (new : DeskView × OutputView) → ImportsFile file old status new → List (List ℕ)
bytes_of_file file old status new (file_not_read fault may told) = []
bytes_of_file file old status new (file_read bytes reply first imports told) = if_imported reply bytes

abbrev pub files_imported : {capacity : ℕ} {files : List FileView} {old new : OnDesk} {status : ℕ} →
    EndsImport capacity files old status new → List (List ℕ)
files_imported (not_read fault has same told leaves) = []
files_imported (read bytes reads (no_desk name has refuses) leaves) = []
files_imported (read bytes reads (opened desk opens rest) leaves) = if_imported rest.1 bytes
files_imported (read_files (no_desk name has refuses)) = []
files_imported (read_files (opened desk opens rest)) = of_each_file bytes_of_file rest.1

-- ---- an export, and a copy: what was given out, if anything

abbrev pub file_exported : {text : List ℕ} {old new : OnDesk} {status : ℕ} → EndsExport text old status new →
    Option (List ℕ)
file_exported (no_id isnt same refuses) = None
file_exported (of_id id text_is (no_desk name has refuses)) = None
file_exported (of_id id text_is (opened desk opens rest)) = result_ok rest.0

abbrev pub if_copied : (id m : ℕ) (size : Size) (scheme : Scheme) (held : Documents) (given : Result (List ℕ) (List ℕ)) →
    GivesCopy id m size scheme held given → Option GridView
if_copied id m size scheme held (Ok bytes) gives = Some gives.0
if_copied id m size scheme held (Err name) gives = None

abbrev pub label_copied : {options : CopyOptions} {old new : OnDesk} {status : ℕ} → EndsCopy options old status new →
    Option GridView
label_copied (no_id isnt same refuses) = None
label_copied (of_id id text_is (no_side isnt same refuses)) = None
label_copied (of_id id text_is (of_side size is (no_desk name has refuses))) = None
label_copied {options} (of_id id text_is (of_side size is (opened desk opens rest))) =
    if_copied id options.page size options.scheme desk.held rest.0 rest.1

-- ---- desks of printed pages

-- Desks that hold only pages of printed labels: which commands keep them so, and what they give out.

-- an honest set holds the files of documents, and a label of each page in them left
pub record HoldsPrinted (labels : List Label) (set : SavedSet) : Type 0 where
  pub honest : IsTrue set.is_honest
  pub held : Documents
  pub files : HoldsFiles set.content held
  pub printed : HaveLeft labels held

-- an honest store holds no joint file with a document
pub record HasNoDocuments (joint : Saved) : Type 0 where
  pub honest : IsTrue joint.is_honest
  pub none : (held : Documents) → HoldsJointFile joint.content held → 0 < finite.len held → ⊥

-- what these commands need and keep
pub record HasPrinted (labels : List Label) (on : OnDesk) : Type 0 where
  pub set : HoldsPrinted labels on.files.set
  pub joint : HasNoDocuments on.files.joint

-- a label of this page left
pub record IsOfLabel (labels : List Label) (page : PageView) : Type 0 where
  pub number : ℕ
  pub label : Label
  pub there : slice_get labels number ≡ Some label
  pub page_is : label.page ≡ page

-- the grid is near one that carries the page of a label that left
pub record IsNearPrinted (labels : List Label) (grid : GridView) : Type 0 where
  pub page : PageView
  pub own : GridView
  pub near : IsNear grid own
  pub carries : Carries page own
  pub of_label : IsOfLabel labels page

-- the bytes are a file of pages, and a label of each of these left
pub record IsPrintedFile (labels : List Label) (bytes : List ℕ) : Type 0 where
  pub id : ℕ
  pub pages : Pages
  pub sound : IsEntry id pages
  pub is_file : bytes ≡ file id pages
  pub clean : IsCleanExport labels (record { id = id; pages = pages })

-- The output got nothing, and the status is 1; or it got a first part of the one document that the labels of this ID
-- were cut from, and all of it if the status is 0.
pub data GivesPrinted (labels : List Label) (text : List ℕ) (old : OnDesk) (status : ℕ) (new : OnDesk) : Type 0 where
  nothing : new.streams.output ≡ old.streams.output → status ≡ 1 → GivesPrinted labels text old status new
  document : (id : ℕ) (bytes : List ℕ) → IsTextOfId text id → IsTheDocument labels id bytes
      → AppendsPart old.streams.output.contents new.streams.output.contents bytes
      → (status ≡ 0 → Appends old.streams.output.contents new.streams.output.contents bytes)
      → GivesPrinted labels text old status new

-- ---- laws

abbrev pub EachScanKeeps : Type 0
EachScanKeeps = (labels : List Label) (capacity : ℕ) (images : List FileView) (old : OnDesk) (status : ℕ)
    (new : OnDesk) → ArePrinted labels → HasPrinted labels old → (ends : EndsScan capacity images old status new) →
    AllByRecursion (IsNearPrinted labels) (grids_scanned ends) → HasPrinted labels new

abbrev pub EachImportKeeps : Type 0
EachImportKeeps = (labels : List Label) (capacity : ℕ) (files : List FileView) (old : OnDesk) (status : ℕ)
    (new : OnDesk) → ArePrinted labels → HasPrinted labels old → (ends : EndsImport capacity files old status new) →
    AllByRecursion (IsPrintedFile labels) (files_imported ends) → HasPrinted labels new

abbrev pub EachForgetKeeps : Type 0
EachForgetKeeps = (labels : List Label) (text : List ℕ) (old : OnDesk) (status : ℕ) (new : OnDesk) → ArePrinted labels →
    HasPrinted labels old → EndsForget text old status new → HasPrinted labels new

-- what `export` gives is such a file
abbrev pub EachExportIsPrinted : Type 0
EachExportIsPrinted = (labels : List Label) (text : List ℕ) (old : OnDesk) (status : ℕ) (new : OnDesk) →
    HasPrinted labels old → (ends : EndsExport text old status new) →
    HasPrinted labels new × IfSome (file_exported ends) (IsPrintedFile labels)

-- what `copy` writes carries the page of a label that left
abbrev pub EachCopyIsPrinted : Type 0
EachCopyIsPrinted = (labels : List Label) (options : CopyOptions) (old : OnDesk) (status : ℕ) (new : OnDesk) →
    ArePrinted labels → AreOfOneDocument labels → HasPrinted labels old → (ends : EndsCopy options old status new) →
    HasPrinted labels new
    × IfSome (label_copied ends) (λ grid. (page : PageView) × Carries page grid × IsOfLabel labels page)

abbrev pub EachDeliverIsPrinted : Type 0
EachDeliverIsPrinted = (labels : List Label) (text : List ℕ) (old : OnDesk) (status : ℕ) (new : OnDesk) →
    ArePrinted labels → AreOfOneDocument labels → HasPrinted labels old → EndsDeliver text old status new →
    HasPrinted labels new × GivesPrinted labels text old status new
