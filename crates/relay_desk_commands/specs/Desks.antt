-- What the commands of desks do to files and streams, and the lines that they write, which are this project's own.
use Rattle.std.specs.Prelude.{ℕ, List, [], ◌∷◌, ◌++◌, codes, zero, suc, take, ◌+◌, ◌^◌, ◌==◌, Bool, if◌then◌else◌, ◌≡◌, ◌<◌, Option, None, IfSome, Result, Ok, Err, MatchResult, true, false, ◌⊎◌, ◌||◌, Some, is_err, IsOk, IsTrue, IsSomeAnd, IsSome, IfOk, All, filter, is_some, length, nat_lt, nat_le, not, ◌&&◌, option_map, map as each, ◌≢◌}
use Rattle.std.specs.{Fmt.decimal, List.count_by, List.flat_map, List.list_all}
use Rattle.dm_assembly_desk.specs.Documents.{names, Documents, DeskView, KeepsPages, DeskIsInOrder, Pages, summaries, summary, count_at, document_of, page, page_at}
use Rattle.dm_assembly_desk.specs.declared.{reply.Held.Held, limits.TheConstants.MOST_CAPACITY, reply.Accepted.Accepted, reply.Imported.Imported}
use Rattle.relay_shared.specs.Files.{DeskFiles}
use Rattle.relay_shared.specs.Lines.{id_text, word_text, accepted_line, imported_line}
use Rattle.hex.specs.Hex.{decode_sized, encode_lower}
use Rattle.dm_store.specs.Saved.{Saved, SavedSet, ListsKeys, LoadsOpen, MayNotSettle}
use Rattle.dm_append_label.specs.Labels.{id_words, PageView, Carries, Fits, IsTooLong, Seals}
use Rattle.dm_append_label.specs.{Opening.OpensAs, declared.fault.LabelFault.LabelFault, declared.opening.Opened.Opened}
use Rattle.dm_assembly_desk.specs.Desk.{Asks, Exports, Forgets, ImportsBytes, AcceptsGrid, kind_name, ask_fault_name, desk_fault_name, export_fault_name, forget_fault_name, import_fault_name, move_fault_name, scan_fault_name, move_fault_of, Moves, HasDeskFault, DeskOpens, HasJointFileFault, HoldsJointFile, SeesKey}
use Rattle.dm_assembly_desk.specs.declared.fault.{DeskFault.DeskFault, ForgetFault.ForgetFault, ForgetFault.TheVariants.NotHeld, ImportFault.ImportFault, MoveFault.MoveFault, ScanFault.ScanFault}
use Rattle.relay_streams.specs.Streams.{input_fault_name, OutputView, ReadsFirst, refused_line}
use Rattle.relay_streams.specs.declared.fault.InputFault.{InputFault}
use Rattle.relay_desk_commands.specs.declared.documents.Given.{Given, TheVariants.Document, TheVariants.File}
use Rattle.relay_desk_commands.specs.declared.{import.TheConstants.IMPORT_BYTES, copy.CopyOptions.CopyOptions, all_documents.GivenAll.GivenAll}
use Rattle.relay_shared.specs.Command.{FileView, GivesNothing, HasInputFault, refusal_name, OnlyOutput, RefusesOnErrors, RefusesOnOutput, StreamsView, TellsAnswer, TellsBytes, TellsRefusal, ImageCommand, Said, TellsFiles, TellsInputs, progress_at, refusal_of, Tells, EndsNote, NotesImage}
use Rattle.dm_finder_frame.specs.Frame.{GridView}
use Rattle.dm_pbm_io.specs.{FaultNames.shape_fault_name, Image.Picture, Image.HasShape, Image.IsGridInside, Image.p4}
use Rattle.dm_pbm_io.specs.declared.fault.ShapeFault.TheVariants.{Shape}
use Rattle.dm_assembly_desk.specs.declared.{fault.ScanFault.TheVariants.Label, fault.ScanFault.TheVariants.Conflict, fault.ScanFault.TheVariants.Full, reply.Kind.Kind, reply.Kind.TheVariants.Again}
use Rattle.dm_append_label.specs.declared.fault.LabelFault.TheVariants.{Border, Block}
use Rattle.dm_store.specs.declared.store.StoreFault.{StoreFault}
use Rattle.dm_size.specs.{Sizes.IsSide, Sizes.side, declared.size.Size.Size}
use Rattle.dm_encodation.specs.declared.scheme.Scheme.{Scheme}
use Rattle.std.specs.FinMap as map
use Rattle.relay_shared.specs.declared.command.Refusal.TheVariants as refusals
use Rattle.dm_assembly_desk.specs.declared.fault.AskFault.TheVariants as asks
use Rattle.dm_assembly_desk.specs.declared.fault.MoveFault.TheVariants as moves
use Rattle.dm_append_label.specs.declared.fault.LabelFault.TheVariants as labels

-- ---- lines

-- `forgotten` and the ID
abbrev pub forgotten_line : ℕ → List ℕ
forgotten_line id = codes "forgotten " ++ (id_text id ++ 10 ∷ [])

-- a space and the number of page m, unless the mask has it
abbrev pub missing_page : ℕ → ℕ → List ℕ
missing_page mask m = if names mask m then [] else 32 ∷ decimal m

-- the same for each page up to this one
abbrev pub missing_pages : ℕ → ℕ → List ℕ
missing_pages mask zero = []
missing_pages mask (suc m) = missing_pages mask m ++ missing_page mask (suc m)

-- whether each page is held: the mask of n pages has n bits
abbrev pub is_complete : Held → Bool
is_complete held = held.mask + 1 == 2 ^ held.n

-- `complete`, or `lacks`, after a space
abbrev pub held_word : Held → List ℕ
held_word held = if is_complete held then codes " complete" else codes " lacks"

-- the ID, n, whether the document is complete, and the pages that are missing; and what follows
abbrev pub held_and : List ℕ → Held → List ℕ
held_and more held =
    id_text held.id ++ (32 ∷ (decimal held.n ++ (held_word held ++ (missing_pages held.mask held.n ++ more))))

abbrev pub held_line : Held → List ℕ
held_line = held_and (10 ∷ [])

-- a byte as it is shown: a printing character of ASCII, but a quote or a backslash, as it is; a line feed as `\n`; each
-- other as `\x` and its two digits in hexadecimal
abbrev pub shown_byte : ℕ → List ℕ
shown_byte byte = if byte == 10 then codes "\\n" else
    if nat_le 32 byte && nat_le byte 126 && not (byte == 34) && not (byte == 92) then byte ∷ [] else
    (codes "\\x" ++ encode_lower (byte ∷ []))

-- how page 1 begins, in quotes, if it is held
abbrev pub beginning : Option (List ℕ) → List ℕ
beginning None = []
beginning (Some bytes) = codes ", \"" ++ (flat_map shown_byte (take 40 bytes) ++ codes "\"")

-- how many labels and bytes are held of a document with these pages, and how it begins
abbrev pub amount_text : Pages → List ℕ
amount_text pages = codes ", " ++ (decimal (count_by is_some pages) ++ (codes " of " ++ (decimal (length pages)
    ++ (codes " labels, " ++ (decimal (length (document_of pages)) ++ (codes " bytes" ++ beginning (page pages 1)))))))

-- the line of a document, with these
abbrev pub long_line : ℕ × Pages → List ℕ
long_line e = held_and (amount_text e.1 ++ 10 ∷ []) (summary e)

-- the ID whose number a key is, after a space, if there is one
abbrev pub id_of_key : ℕ → List ℕ
id_of_key key = if nat_lt key 64516 then 32 ∷ id_text key else []

-- the file of a key, by its name, why it is not sound, and the ID of its document
abbrev pub unsound_line : ℕ → List ℕ → List ℕ
unsound_line key name = codes "file " ++ (word_text key ++ (32 ∷ (name ++ (id_of_key key ++ 10 ∷ []))))

-- the joint file, and why it is not sound
abbrev pub unsound_joint_line : List ℕ → List ℕ
unsound_joint_line name = codes "file joint " ++ (name ++ 10 ∷ [])

-- What `deliver`, `export`, `forget`, `import` and `scan` do to the files of a desk, and what they write. `scan` prints
-- a line for each image of a file, in order, until the file ends, after a plain image, at bytes that are no image, or
-- after 65,536 images. After a failed save it prints nothing.

-- ---- a desk's files

-- what a command of a desk works on
pub record OnDesk : Type 0 where
  pub files : DeskFiles
  pub streams : StreamsView

abbrev pub desk_at : Saved → SavedSet → StreamsView → OnDesk
desk_at joint set streams = record { files = record { joint = joint; set = set }; streams = streams }

-- the documents of the joint file were moved to the set
abbrev pub MovesFiles : DeskFiles → DeskFiles → Type 0
MovesFiles before after = (written : ℕ) × Moves before.joint before.set (Ok written) after.joint after.set

-- the documents were moved, and then a desk with this capacity was opened on the set
pub record OpensDesk (before : DeskFiles) (capacity : ℕ) (joint : Saved) (desk : DeskView) : Type 0 where
  pub moves : MovesFiles before (record { joint = joint; set = desk.saved })
  pub opens : DeskOpens desk.saved capacity desk

-- No desk with this capacity was opened, for the reason of this name: of the move of the joint file, or of opening.
pub data HasNoDesk (before : DeskFiles) (capacity : ℕ) (name : List ℕ) (after : DeskFiles) : Type 0 where
  not_moved : (fault : MoveFault) → Moves before.joint before.set (Err fault) after.joint after.set
      → name ≡ move_fault_name fault → HasNoDesk before capacity name after
  not_opened : (fault : DeskFault) → MovesFiles before after → HasDeskFault after.set capacity fault
      → name ≡ desk_fault_name fault → HasNoDesk before capacity name after

-- How a command that needs a desk with this capacity ends. None was opened, and the line of a refusal says why; or one
-- was, and the rest is done there.
pub data EndsAtDesk (Refuses : List ℕ → StreamsView → ℕ → StreamsView → Type 0) (capacity : ℕ)
    (Rest : DeskView → StreamsView → ℕ → OnDesk → Type 0) (old : OnDesk) (status : ℕ) (new : OnDesk) : Type 0 where
  no_desk : (name : List ℕ) → HasNoDesk old.files capacity name new.files → Refuses name old.streams status new.streams
      → EndsAtDesk Refuses capacity Rest old status new
  opened : (desk : DeskView) → OpensDesk old.files capacity new.files.joint desk → Rest desk old.streams status new
      → EndsAtDesk Refuses capacity Rest old status new

-- ---- the document of an ID

-- the text is the two codewords of this ID in hexadecimal
abbrev pub IsTextOfId : List ℕ → ℕ → Type 0
IsTextOfId text id = (id < 64516) × (decode_sized text 2 ≡ Ok (id_words id))

-- How a command that is given the text of an ID ends: it is none, and nothing is done; or as it ends for that ID.
pub data EndsOnId (Refuses : List ℕ → StreamsView → ℕ → StreamsView → Type 0) (text : List ℕ)
    (Ends : ℕ → OnDesk → ℕ → OnDesk → Type 0) (old : OnDesk) (status : ℕ) (new : OnDesk) : Type 0 where
  no_id : ((id : ℕ) → ¬ IsTextOfId text id) → new.files ≡ old.files
      → Refuses (refusal_name refusals.FileId) old.streams status new.streams
      → EndsOnId Refuses text Ends old status new
  of_id : (id : ℕ) → IsTextOfId text id → Ends id old status new → EndsOnId Refuses text Ends old status new

-- ---- what no stop takes back

-- A command that only reads settles the set of its desk before it tells what it found. These are the ends at which it
-- tells nothing of that.

-- there is no desk, and a refusal says why
abbrev pub HasNoOpenDesk : (List ℕ → StreamsView → ℕ → StreamsView → Type 0) → OnDesk → ℕ → OnDesk → Type 0
HasNoOpenDesk Refuses = EndsAtDesk Refuses MOST_CAPACITY (λ desk old status new. ⊥)

-- the text is no ID, or there is no desk
abbrev pub IsUnopened : (List ℕ → StreamsView → ℕ → StreamsView → Type 0) → List ℕ → OnDesk → ℕ → OnDesk → Type 0
IsUnopened Refuses text = EndsOnId Refuses text (λ id. HasNoOpenDesk Refuses)

-- the same of a command for which the text may be left out
abbrev pub IsUnseen : Option (List ℕ) → OnDesk → ℕ → OnDesk → Type 0
IsUnseen None = HasNoOpenDesk RefusesOnOutput
IsUnseen (Some text) = IsUnopened RefusesOnOutput text

-- what `held` saw could not be settled, or memory was refused for it
abbrev pub IsUnsettledHeld : StreamsView → ℕ → StreamsView → Type 0
IsUnsettledHeld old status new = (why : StoreFault) × RefusesOnOutput (move_fault_name (move_fault_of why)) old status new

-- the text is no ID, there is no desk, or `forget` tells something else than that the document is not held
abbrev pub IsNotToldNotHeld : List ℕ → OnDesk → ℕ → OnDesk → Type 0
IsNotToldNotHeld text = EndsOnId RefusesOnOutput text (λ id. EndsAtDesk RefusesOnOutput MOST_CAPACITY
    (λ desk old status new. (reply : Result (Unit {0}) ForgetFault) × (reply ≢ Err NotHeld)
    × TellsAnswer (λ _. forgotten_line id) forget_fault_name reply old.output status new.streams.output))

-- ---- what is given out

-- By what it holds, the desk gives bytes, or the name of a reason why not. That was written, and the set is as it was.
abbrev pub GivesOut : (Documents → Result (List ℕ) (List ℕ) → Type 0) → DeskView → StreamsView → ℕ → OnDesk → Type 0
GivesOut Gives desk old status new = (given : Result (List ℕ) (List ℕ)) × Gives desk.held given
    × MatchResult given (λ bytes. TellsBytes bytes old status new.streams)
    (λ name. RefusesOnErrors name old status new.streams)
    × (new.files.set ≡ desk.saved)

-- an answer in which a fault is replaced by its name
abbrev pub ByName : {F : Type 0} → (F → List ℕ) → (Result (List ℕ) F → Type 0) → Result (List ℕ) (List ℕ) → Type 0
ByName {F} name Answers (Ok bytes) = Answers (Ok bytes)
ByName {F} name Answers (Err named) = (fault : F) × Answers (Err fault) × (named ≡ name fault)

-- what a desk gives of a document: the whole of it, or the file of its pages
abbrev pub Yields : Given → ℕ → Documents → Result (List ℕ) (List ℕ) → Type 0
Yields Document id held given = ByName ask_fault_name (Asks (λ (bytes : List ℕ). bytes) (map.get held id)) given
Yields File id held given = ByName export_fault_name (Exports (λ (bytes : List ℕ). bytes) id (map.get held id)) given

-- how a command that gives something of a document ends
abbrev pub EndsGiving : Given → List ℕ → OnDesk → ℕ → OnDesk → Type 0
EndsGiving what text =
    EndsOnId RefusesOnErrors text (λ id. EndsAtDesk RefusesOnErrors MOST_CAPACITY (GivesOut (Yields what id)))

-- how `deliver` ends, which gives the document
abbrev pub EndsDeliver : List ℕ → OnDesk → ℕ → OnDesk → Type 0
EndsDeliver text = EndsGiving Document text

-- how `export` ends, which gives the file of the pages that are held
abbrev pub EndsExport : List ℕ → OnDesk → ℕ → OnDesk → Type 0
EndsExport text = EndsGiving File text

-- ---- what is given out of all documents

-- whether something is given of a document with these pages: the file of them always, the document if each is held
abbrev pub is_given : Given → Pages → Bool
is_given File pages = true
is_given Document pages = list_all is_some pages

-- the IDs of the documents of which something is given, as they rise
abbrev pub ids_given : Given → Documents → List ℕ
ids_given what held = each (λ e. e.0) (filter (λ e. is_given what e.1) (map.entries held))

-- what is given of all documents: of each of these just what the desk yields of it alone; and how many others it holds
pub record GivesAll {A : Type 0} (what : Given) (held : Documents) (all : GivenAll A) : Type 0 where
  pub ids : each (λ given. given.id) all.documents.items ≡ ids_given what held
  pub yields : All (λ given. Yields what given.id held (Ok given.bytes.items)) all.documents.items
  pub others : length all.documents.items + all.incomplete ≡ map.len held

-- How a command ends that only opens the desk: what it gives of all documents goes to no stream.
abbrev pub EndsOpening : OnDesk → ℕ → OnDesk → Type 0
EndsOpening = EndsAtDesk RefusesOnErrors MOST_CAPACITY
    (λ desk old status new. (status ≡ 0) × (new.streams ≡ old) × (new.files.set ≡ desk.saved))

-- ---- what is forgotten, and what is imported

-- an open desk answered a call, and the answer was written
abbrev pub AnswersCall : {X F : Type 0} → (X → List ℕ) → (F → List ℕ) → (DeskView → Result X F → DeskView → Type 0)
    → DeskView → StreamsView → ℕ → OnDesk → Type 0
AnswersCall {X} {F} line name Call desk old status new =
    (after : DeskView) × (reply : Result X F) × Call desk reply after × (new.files.set ≡ after.saved)
    × TellsAnswer line name reply old.output status new.streams.output

-- how `forget` ends, by what the desk answered
abbrev pub EndsForget : List ℕ → OnDesk → ℕ → OnDesk → Type 0
EndsForget text = EndsOnId RefusesOnOutput text (λ id. EndsAtDesk RefusesOnOutput MOST_CAPACITY
    (λ desk old status new. OnlyOutput old new.streams
    × AnswersCall (λ _. forgotten_line id) forget_fault_name (Forgets id) desk old status new))

-- the line of what was added
abbrev pub import_line : Imported → List ℕ
import_line reply = imported_line reply.id reply.n reply.added (kind_name reply.kind)

-- What `import` does with a file. It could not be read, and was refused; or these are its first bytes, at most one more
-- than the greatest file has, and the desk answered.
pub data ImportsFile (file : FileView) : DeskView × OutputView → ℕ → DeskView × OutputView → Type 0 where
  file_not_read : {desk : DeskView} {old new : OutputView} {status : ℕ} (fault : InputFault) → GivesNothing file fault
      → TellsRefusal (input_fault_name fault) old status new → ImportsFile file (desk, old) status (desk, new)
  file_read : {desk after : DeskView} {old new : OutputView} {status : ℕ} (bytes : List ℕ)
      (reply : Result Imported ImportFault) → IfSome file.remaining (λ all. bytes ≡ take IMPORT_BYTES all)
      → ImportsBytes bytes desk reply after → TellsAnswer import_line import_fault_name reply old status new
      → ImportsFile file (desk, old) status (after, new)

-- How `import` ends. Of its input: it could not be read; or these bytes were read, and the desk was opened and
-- answered. Nothing went to the standard error. Of files: memory was refused for their bytes; or the desk was opened,
-- and they were imported in turn until the output or a save failed. What was held stays held, in order with the desk's
-- set.
pub data EndsImport (capacity : ℕ) : List FileView → OnDesk → ℕ → OnDesk → Type 0 where
  not_read : {old new : OnDesk} {status : ℕ} {files : List FileView} (fault : InputFault)
      → HasInputFault old.streams.input new.streams.input fault → new.files ≡ old.files
      → TellsRefusal (input_fault_name fault) old.streams.output status new.streams.output
      → new.streams.errors ≡ old.streams.errors → EndsImport capacity files old status new
  read : {old new : OnDesk} {status : ℕ} (bytes : List ℕ)
      → ReadsFirst old.streams.input new.streams.input IMPORT_BYTES bytes
      → EndsAtDesk (λ name before told after. TellsRefusal name before.output told after.output) capacity
      (AnswersCall import_line import_fault_name (ImportsBytes bytes)) old status new
      → new.streams.errors ≡ old.streams.errors → EndsImport capacity [] old status new
  read_files : {old new : OnDesk} {status : ℕ} {file : FileView} {later : List FileView}
      → EndsAtDesk RefusesOnOutput capacity (λ desk old status new. (after : DeskView)
      × TellsFiles ImportsFile (λ at. at.1.has_failed || at.0.is_failed) (file ∷ later) (desk, old.output) status
      (after, new.streams.output) × OnlyOutput old new.streams × KeepsPages desk.held after.held × DeskIsInOrder after
      × (new.files.set ≡ after.saved)) old status new → EndsImport capacity (file ∷ later) old status new

-- ---- what is scanned

-- a desk that scans, and the standard error
pub record AtDesk : Type 0 where
  pub desk : DeskView
  pub errors : OutputView

-- how many documents a full desk has room for, and that it may have more, unless it has the most
abbrev pub room_text : ℕ → List ℕ
room_text count = codes "; the desk has room for " ++ (decimal count
    ++ (if nat_lt count MOST_CAPACITY then codes ", and with --capacity for up to 1024 documents" else codes " documents"))

-- the refusal is of the image itself, and not of what its label says, nor of the desk
abbrev pub is_of_image : ScanFault → Bool
is_of_image (Label (Border wrong)) = true
is_of_image (Label (Block block)) = true
is_of_image fault = false

-- How the note of a refusal ends, by the documents that are held: with nothing; with a change after which the image
-- would be read, if the refusal is of the image; with how many the desk has room for, if it is full and so holds as many.
abbrev pub EndsRefusal : ScanFault → Picture → Documents → List ℕ → Type 0
EndsRefusal Full p held ending = (ending ≡ []) ⊎ (ending ≡ room_text (length (summaries held)))
EndsRefusal fault p held ending = EndsNote (is_of_image fault) p ending

-- the refusal of a picture was noted, with such an ending
abbrev pub NotesPicture : (List ℕ → Type 0) → ℕ → Option ℕ → List ℕ → OutputView → OutputView → Type 0
NotesPicture Ends number id name old new =
    (ending : List ℕ) × Ends ending × NotesImage number id name ending old new

-- the grid opens as a label with this ID
abbrev pub IsIdOn : GridView → ℕ → Type 0
IsIdOn grid id = (page : PageView) × (corrected wrong : ℕ) × OpensAs grid page corrected wrong × (page.id ≡ id)

-- the answer is that the page is held already
abbrev pub is_held_again : Kind → Bool
is_held_again Again = true
is_held_again other = false

-- the answer follows from what the desk held, and nothing was saved
abbrev pub rests_on_held : Result Accepted ScanFault → Bool
rests_on_held (Ok reply) = is_held_again reply.kind
rests_on_held (Err Conflict) = true
rests_on_held (Err Full) = true
rests_on_held (Err other) = false

-- the desk's answer to the grid rests on what it holds, and that could not be settled
abbrev pub IsUnsettled : GridView → StoreFault → DeskView → Type 0
IsUnsettled grid why desk = (reply : Result Accepted ScanFault) × (rests_on_held reply ≡ true)
    × AcceptsGrid grid desk reply desk × MayNotSettle desk.saved why

-- What is said of a picture, and the desk and the standard error afterwards. The picture's grid is handed to the desk,
-- if it has one; a refusal is noted.
pub data ScansPicture (number : ℕ) (p : Picture) (before : AtDesk) : Said → AtDesk → Type 0 where
  accepted : {desk : DeskView} (grid : GridView) (reply : Accepted) → HasShape p → IsGridInside p grid
      → AcceptsGrid grid before.desk (Ok reply) desk → ScansPicture number p before
      (record { line = accepted_line reply.id reply.m reply.n (kind_name reply.kind); refused = false }) (record before { desk = desk })
  refused : {after : AtDesk} (grid : GridView) (fault : ScanFault) (id : Option ℕ) → HasShape p → IsGridInside p grid
      → AcceptsGrid grid before.desk (Err fault) after.desk → IfSome id (IsIdOn grid)
      → NotesPicture (EndsRefusal fault p after.desk.held) number id (scan_fault_name fault) before.errors after.errors
      → ScansPicture number p before (refusal_of (scan_fault_name fault)) after
  unsettled : {errors : OutputView} (grid : GridView) (why : StoreFault) → HasShape p → IsGridInside p grid
      → IsUnsettled grid why before.desk
      → NotesImage number None (move_fault_name (move_fault_of why)) [] before.errors errors
      → ScansPicture number p before (refusal_of (move_fault_name (move_fault_of why))) (record before { errors = errors })
  no_grid : {errors : OutputView} → ¬ HasShape p
      → NotesPicture (EndsNote true p) number None (shape_fault_name Shape) before.errors errors
      → ScansPicture number p before (refusal_of (shape_fault_name Shape)) (record before { errors = errors })

-- `scan` as a command over images: after a failed save it reads no more
abbrev pub scan_images : ImageCommand
scan_images = record {
  State = AtDesk;
  Answers = λ number before p said after. ScansPicture number p before said after;
  SeesUnread = λ number before name after.
      (after.desk ≡ before.desk) × NotesImage number None name [] before.errors after.errors;
  has_ended = λ at. at.desk.is_failed;
}

-- A desk that was opened before anything was read scanned all files, or the whole input if there are none. Or the
-- output refused a line, or a save failed, and the images up to there were scanned. Either way each page that was held
-- still is, with the same bytes, and what the desk holds is in order with its set.
abbrev pub ScansAll : List FileView → DeskView → StreamsView → ℕ → OnDesk → Type 0
ScansAll images desk old status new = (after : DeskView) × TellsInputs scan_images images
    (progress_at (record { desk = desk; errors = old.errors }) old.input old.output) status
    (progress_at (record { desk = after; errors = new.streams.errors }) new.streams.input new.streams.output)
    × KeepsPages desk.held after.held × DeskIsInOrder after × (new.files.set ≡ after.saved)

-- how `scan` ends; if there is no desk, nothing was read
abbrev pub EndsScan : ℕ → List FileView → OnDesk → ℕ → OnDesk → Type 0
EndsScan capacity images = EndsAtDesk RefusesOnOutput capacity (ScansAll images)

-- ---- held

-- What `held` prints: what the files of a desk hold, file by file. It opens no desk and changes no file.

-- ---- what is seen

-- what was found at the joint file: its documents, if there is such a file, or why it is not sound
abbrev pub SeenJoint : Type 0
SeenJoint = Result (Option Documents) MoveFault

-- its documents: none if there is no such file, or it is not sound
abbrev pub documents_in : SeenJoint → Documents
documents_in (Ok (Some documents)) = documents
documents_in _ = map.empty

-- what was found at the joint file is true of it
abbrev pub SeesJoint : Saved → SeenJoint → Type 0
SeesJoint saved (Err moves.Device) = saved.load_plan ≡ LoadsOpen
SeesJoint saved (Err moves.Memory) = IsTrue saved.may_lack_memory
SeesJoint saved (Err fault) = IsTrue saved.is_honest → IsSomeAnd saved.content (λ bytes. HasJointFileFault bytes fault)
SeesJoint saved (Ok found) = IsTrue saved.is_honest → HoldsJointFile saved.content (documents_in (Ok found))

-- what is seen of the document with this number: what its own file has, if there is one, or else the joint file
abbrev pub SeesNumber : SavedSet → SeenJoint → ℕ → Result (Option Held) DeskFault → Type 0
SeesNumber set joint number (Err fault) = SeesKey set number (Err fault)
SeesNumber set joint number (Ok None) = SeesKey set number (Ok None) × (map.get (documents_in joint) number ≡ None)
SeesNumber set joint number (Ok (Some held)) =
    SeesKey set number (Ok (Some held))
    ⊎ (SeesKey set number (Ok None) × ((pages : Pages)
    × (map.get (documents_in joint) number ≡ Some pages) × (held ≡ summary (number, pages))))

-- ---- what is printed

-- the line of what was seen of a number; there is none if nothing is held of it
abbrev pub seen_line : ℕ → Result (Option Held) DeskFault → List ℕ
seen_line number (Ok None) = []
seen_line number (Ok (Some held)) = held_line held
seen_line number (Err fault) = unsound_line number (desk_fault_name fault)

-- the line of the joint file, if it is not sound
abbrev pub joint_line : SeenJoint → List ℕ
joint_line (Ok _) = []
joint_line (Err fault) = unsound_joint_line (move_fault_name fault)

-- the lines of the numbers below this one, after the joint file's; and whether any of them is of an unsound file
pub data Lists (set : SavedSet) (joint : SeenJoint) : ℕ → List ℕ → Bool → Type 0 where
  begun : Lists set joint 0 (joint_line joint) (is_err joint)
  further : {number : ℕ} {text : List ℕ} {unsound : Bool} (found : Result (Option Held) DeskFault)
      → Lists set joint number text unsound → SeesNumber set joint number found
      → Lists set joint (number + 1) (text ++ seen_line number found) (unsound || is_err found)

-- What is said of one document, or of all, and the exit status. If nothing is held of the one that is asked for, that
-- is refused; but if the joint file is not sound, its line stands there instead, since it may have held the document.
pub data Says (set : SavedSet) (joint : SeenJoint) : Option ℕ → List ℕ → ℕ → Type 0 where
  is_held : {id : ℕ} (held : Held) → SeesNumber set joint id (Ok (Some held))
      → Says set joint (Some id) (held_line held) 0
  not_held : {id : ℕ} → IsOk joint → SeesNumber set joint id (Ok None)
      → Says set joint (Some id) (refused_line (ask_fault_name asks.NotHeld)) 1
  joint_unsound : {id : ℕ} (fault : MoveFault) → joint ≡ Err fault → SeesNumber set joint id (Ok None)
      → Says set joint (Some id) (unsound_joint_line (move_fault_name fault)) 1
  unsound : {id : ℕ} (fault : DeskFault) → SeesNumber set joint id (Err fault)
      → Says set joint (Some id) (unsound_line id (desk_fault_name fault)) 1
  all : {text : List ℕ} {unsound : Bool} → Lists set joint 65536 text unsound
      → Says set joint None text (if unsound then 1 else 0)
  no_keys : (why : StoreFault) → ListsKeys (λ (keys : List ℕ). keys) set 65536 (Err why) set
      → Says set joint None (refused_line (move_fault_name (move_fault_of why))) 1

-- This was written. Or what was seen could not be settled, or memory was refused for the text: then the line of that
-- refusal alone was.
pub data TellsHeld (set : SavedSet) (joint : SeenJoint) (id : Option ℕ) (old : OutputView) (status : ℕ) (new : OutputView)
    : Type 0 where
  told : (text : List ℕ) (wanted : ℕ) → Says set joint id text wanted → Tells text wanted old status new
      → TellsHeld set joint id old status new
  unsettled : (why : StoreFault) → MayNotSettle set why
      → TellsRefusal (move_fault_name (move_fault_of why)) old status new → TellsHeld set joint id old status new
  no_memory : TellsRefusal (refusal_name refusals.Memory) old status new → TellsHeld set joint id old status new

-- how `held` ends for an ID, or for all: it changes no file, and no other stream
pub record EndsHeldOf (id : Option ℕ) (old : OnDesk) (status : ℕ) (new : OnDesk) : Type 0 where
  pub joint : SeenJoint
  pub sees : SeesJoint old.files.joint joint
  pub told : TellsHeld old.files.set joint id old.streams.output status new.streams.output
  pub only : OnlyOutput old.streams new.streams
  pub same : new.files ≡ old.files

-- how `held` ends, with the text of an ID or without
abbrev pub EndsHeld : Option (List ℕ) → OnDesk → ℕ → OnDesk → Type 0
EndsHeld None = EndsHeldOf None
EndsHeld (Some text) = EndsOnId RefusesOnOutput text (λ id. EndsHeldOf (Some id))

-- ---- held --long

-- the line of the document of an ID, if it is held, or those of all documents, by rising ID
abbrev pub long_text : Option ℕ → Documents → Option (List ℕ)
long_text None held = Some (flat_map long_line (map.entries held))
long_text (Some id) held = option_map (λ pages. long_line (id, pages)) (map.get held id)

-- That was written. Or the document is not held, or memory was refused for the text, and that was said.
pub data TellsLong (id : Option ℕ) (held : Documents) (old : OutputView) (status : ℕ) (new : OutputView) : Type 0 where
  tells : (text : List ℕ) → long_text id held ≡ Some text → Tells text 0 old status new → TellsLong id held old status new
  tells_none : long_text id held ≡ None → TellsRefusal (ask_fault_name asks.NotHeld) old status new
      → TellsLong id held old status new
  lacks_memory : TellsRefusal (refusal_name refusals.Memory) old status new → TellsLong id held old status new

-- how `held --long` ends for an ID, or for all
abbrev pub EndsHeldLongOf : Option ℕ → OnDesk → ℕ → OnDesk → Type 0
EndsHeldLongOf id = EndsAtDesk RefusesOnOutput MOST_CAPACITY (λ desk old status new.
    TellsLong id desk.held old.output status new.streams.output × OnlyOutput old new.streams
    × (new.files.set ≡ desk.saved))

-- how it ends, with the text of an ID or without
abbrev pub EndsHeldLong : Option (List ℕ) → OnDesk → ℕ → OnDesk → Type 0
EndsHeldLong None = EndsHeldLongOf None
EndsHeldLong (Some text) = EndsOnId RefusesOnOutput text (λ id. EndsHeldLongOf (Some id))

-- ---- copy

-- What `copy` does to the files of a desk, and what it writes: the image of the label of a page that the desk holds.

-- ---- the label

-- the page is page m of the document, as the desk holds it
pub record IsPageHeld (held : Documents) (id m : ℕ) (page : PageView) : Type 0 where
  pub id_is : page.id ≡ id
  pub m_is : page.m ≡ m
  pub n_is : page.n ≡ count_at held id
  pub bytes_are : page_at held id m ≡ Some page.bytes

-- the grid is the label of page m of the document, as the desk holds it, in this size and encodation: the page fits,
-- and the label carries it
pub record Copies (held : Documents) (id m : ℕ) (size : Size) (scheme : Scheme) (grid : GridView) : Type 0 where
  pub page : PageView
  pub is_held : IsPageHeld held id m page
  pub fits : Fits size scheme page.bytes
  pub sealed : Seals size scheme page grid
  pub carries : Carries page grid

-- the name of the reason why there is no such label, or no image of it: the first of these that applies
pub data HasNoCopy (held : Documents) (id m : ℕ) (size : Size) (scheme : Scheme) : List ℕ → Type 0 where
  not_held : map.get held id ≡ None → HasNoCopy held id m size scheme (codes "NotHeld")
  incomplete : IsSome (map.get held id) → page_at held id m ≡ None
      → HasNoCopy held id m size scheme (codes "Incomplete")
  too_long : IsSomeAnd (page_at held id m) (IsTooLong size scheme) → HasNoCopy held id m size scheme (codes "TooLong")
  no_memory : IsSomeAnd (page_at held id m) (Fits size scheme) → HasNoCopy held id m size scheme (codes "Memory")

-- the bytes of the label's image, or that name
abbrev pub GivesCopy : ℕ → ℕ → Size → Scheme → Documents → Result (List ℕ) (List ℕ) → Type 0
GivesCopy id m size scheme held (Ok bytes) = (grid : GridView) × Copies held id m size scheme grid × (bytes ≡ p4 grid)
GivesCopy id m size scheme held (Err name) = HasNoCopy held id m size scheme name

-- ---- the command

-- how `copy` ends for an ID: no size has the side; or as the desk answers
pub data EndsCopyOf (options : CopyOptions) (id : ℕ) (old : OnDesk) (status : ℕ) (new : OnDesk) : Type 0 where
  no_side : ¬ IsSide options.side → new.files ≡ old.files
      → RefusesOnErrors (refusal_name refusals.Side) old.streams status new.streams
      → EndsCopyOf options id old status new
  of_side : (size : Size) → side size ≡ options.side → EndsAtDesk RefusesOnErrors MOST_CAPACITY
      (GivesOut (GivesCopy id options.page size options.scheme)) old status new → EndsCopyOf options id old status new

-- how `copy` ends
abbrev pub EndsCopy : CopyOptions → OnDesk → ℕ → OnDesk → Type 0
EndsCopy options = EndsOnId RefusesOnErrors options.id.now (EndsCopyOf options)

-- ---- what a copy opens as

-- the label opened as page m of the document, as the desk holds it, with no wrong codeword or module of a finder
-- pattern; only memory may be refused
abbrev pub OpensAsHeld : {A : Type 0} → Documents → ℕ → ℕ → Result (Opened A) LabelFault → Type 0
OpensAsHeld held id m (Ok label) = IsPageHeld held id m label.page × (label.corrected ≡ 0) × (label.wrong ≡ 0)
OpensAsHeld held id m (Err labels.Memory) = Unit {0}
OpensAsHeld held id m (Err _) = ⊥

-- if a page was opened, it is page m of the document, as the desk holds it
abbrev pub OpensAsNoOther : {A : Type 0} → Documents → ℕ → ℕ → Result (Opened A) LabelFault → Type 0
OpensAsNoOther held id m result = IfOk result (λ label. IsPageHeld held id m label.page)
