-- The document that a command reads; how its line and its exit status say what happened, and what is out if its output
-- fails; and which of its streams it changes.
use Rattle.std.specs.Prelude.{◌≡◌, ℕ, true, IsTrue, List, ◌⊎◌, Result, Ok, Err, OnErr, OnOk, codes, ◌+◌, ◌<◌, ◌≤◌, Bool, false, ◌||◌, if◌then◌else◌, [], ◌∷◌, Option, max, MatchResult, ◌*◌, ◌-◌, ◌/◌, ◌%◌, ◌==◌, ◌++◌, map, slice_index_or, None, Some}
use Rattle.relay_streams.specs.Streams.{InputView, ReadsFirst, AppendsPart, OutputView, refused_line, write_fault_name, input_fault_name}
use Rattle.relay_streams.specs.declared.fault.{InputFault.InputFault, WriteFault.WriteFault}
use Rattle.relay_shared.specs.declared.{command.TheConstants.DOCUMENT_BYTES, command.Refusal.Refusal, cure.Cure.Cure}
use Rattle.std.specs.Io.KnownBytes.{Appends, Consumes, IsAtEnd, Keeps}
use Rattle.relay_streams.specs.declared.fault.WriteFault.TheVariants.{Write}
use Rattle.relay_shared.specs.declared.command.Refusal.TheVariants.{Side, FileId, Ticket, TooMany, Memory, Output}
use Rattle.dm_pbm_io.specs.{Image.Picture, Image.Spells, Image.Refuses, declared.fault.PbmFault.PbmFault}
use Rattle.dm_pbm_io.specs.FaultNames.{pbm_fault_name}
use Rattle.relay_shared.specs.declared.images.{TheConstants.MOST_IMAGES, Answered.Answered}
use Rattle.std.specs.{Bool.xor, Fmt.decimal, List.range_with_len}
use Rattle.dm_finder_frame.specs.Frame.{GridView}
use Rattle.dm_symbol.specs.Correction.{CorrectedView, IsCorrectedAs}
use Rattle.relay_shared.specs.Lines.{id_text}
use Rattle.relay_streams.specs.declared.fault.InputFault.TheVariants as input_faults
use Rattle.dm_pbm_io.specs.declared.fault.PbmFault.TheVariants as image_faults
use Rattle.dm_size.specs.Sizes as sizes

-- No read failed, and this document was read and no other byte: at most one byte more than the longest document that a
-- printer can cut into labels. That many bytes are too long for every side.
abbrev pub ReadsDocument : InputView → InputView → List ℕ → Type 0
ReadsDocument input rest document = ReadsFirst input rest DOCUMENT_BYTES document

-- why the input gave no bytes: a read failed; or memory was refused for them, and nothing was read
pub record HasInputFault (input rest : InputView) (fault : InputFault) : Type 0 where
  pub read : fault ≡ input_faults.Read → rest.has_failed ≡ true
  pub memory : fault ≡ input_faults.Memory → rest ≡ input

-- ---- lines

-- The text was written, or the output failed. Either way a first part of the text is out, and nothing else.
pub record PutsText {T : Type 0} (text : List ℕ) (old : OutputView) (result : Result T WriteFault) (new : OutputView)
    : Type 0 where
  pub written : OnOk result (Appends old.contents new.contents text)
  pub part : AppendsPart old.contents new.contents text
  pub failed : OnErr result (new.has_failed ≡ true)

-- the line was written, and the status is as wanted; or the output failed with a first part of it out, and it is 1
abbrev pub Tells : List ℕ → ℕ → OutputView → ℕ → OutputView → Type 0
Tells line wanted old status new =
    (Appends old.contents new.contents line × (status ≡ wanted))
    ⊎ ((new.has_failed ≡ true) × AppendsPart old.contents new.contents line × (status ≡ 1))

-- the line of the refusal with this name was written, or a part of it and the output failed; the status is 1
abbrev pub TellsRefusal : List ℕ → OutputView → ℕ → OutputView → Type 0
TellsRefusal name old status new = Tells (refused_line name) 1 old status new

-- the line of an answer was written, with the status 0, or that of a refusal, with the status 1
abbrev pub TellsAnswer : {X F : Type 0} → (X → List ℕ) → (F → List ℕ) → Result X F → OutputView → ℕ → OutputView → Type 0
TellsAnswer line name (Ok answer) old status new = Tells (line answer) 0 old status new
TellsAnswer line name (Err fault) old status new = TellsRefusal (name fault) old status new

-- ---- the streams

-- what a command reads, what it writes, and the standard error
pub record StreamsView : Type 0 where
  pub input : InputView
  pub output : OutputView
  pub errors : OutputView

-- only the output may have changed
abbrev pub OnlyOutput : StreamsView → StreamsView → Type 0
OnlyOutput old new = new ≡ record old { output = new.output }

-- nothing was read
abbrev pub ReadsNothing : StreamsView → StreamsView → Type 0
ReadsNothing old new = new.input ≡ old.input

-- The line was written to the output, and the exit status is 0; or the output failed with a part of the line out, and
-- the exit status is 1. Nothing happened to the other streams.
abbrev pub TellsOnOutput : List ℕ → StreamsView → ℕ → StreamsView → Type 0
TellsOnOutput line old status new = Tells line 0 old.output status new.output × OnlyOutput old new

-- The line of a refusal was written to the output, or the output failed with a part of it out; the exit status is 1.
-- Nothing happened to the other streams.
abbrev pub RefusesOnOutput : List ℕ → StreamsView → ℕ → StreamsView → Type 0
RefusesOnOutput name old status new = TellsRefusal name old.output status new.output × OnlyOutput old new

-- the same, with the standard error in place of the output
abbrev pub RefusesOnErrors : List ℕ → StreamsView → ℕ → StreamsView → Type 0
RefusesOnErrors name old status new =
    TellsRefusal name old.errors status new.errors × (new ≡ record old { errors = new.errors })

-- The bytes were written to the output, and nothing happened to the other streams. Or the output failed with a first
-- part of them out, nothing was read, and the line that says so went to the standard error, unless that failed too.
abbrev pub TellsBytes : List ℕ → StreamsView → ℕ → StreamsView → Type 0
TellsBytes bytes old status new =
    (Appends old.output.contents new.output.contents bytes × OnlyOutput old new × (status ≡ 0))
    ⊎ ((new.output.has_failed ≡ true) × AppendsPart old.output.contents new.output.contents bytes
    × ReadsNothing old new × TellsRefusal (write_fault_name Write) old.errors status new.errors)

abbrev pub refusal_name : Refusal → List ℕ
refusal_name Side = codes "Side"
refusal_name FileId = codes "FileId"
refusal_name Ticket = codes "Ticket"
refusal_name TooMany = codes "TooMany"
refusal_name Memory = codes "Memory"
refusal_name (Output fault) = write_fault_name fault

-- ---- images

-- A command over images answers each image on its input with a line, in order, until the input ends, after a plain
-- image, at bytes that are no image, in a state in which it reads no more, or after the greatest number of images. If
-- it is given files, each of them is such an input.

-- The bytes that were taken spell no image, for this reason; if the reason is the reader, a read failed.
pub record IsUnread (fault : PbmFault) (taken : List ℕ) (rest : InputView) : Type 0 where
  pub refused : Refuses fault taken rest.remaining
  pub failed : fault ≡ image_faults.Read → rest.has_failed ≡ true

-- what was taken spells an image or, for a reason, none
abbrev pub IsAnother : List ℕ → InputView → Type 0
IsAnother taken rest = ((p : Picture) × Spells taken p) ⊎ ((fault : PbmFault) × IsUnread fault taken rest)

-- ---- what is said

-- one or more lines, and whether any of them names a refusal
pub record Said : Type 0 where
  pub line : List ℕ
  pub refused : Bool

-- the line of the refusal with this name
abbrev pub refusal_of : List ℕ → Said
refusal_of name = record { line = refused_line name; refused = true }

-- ---- the command

-- The states of a command; what it says of the picture of an image with this number, from 1, and the state after that;
-- the state after an image that could not be read; and whether it has ended, and reads no more.
pub record ImageCommand : Type 1 where
  pub State : Type 0
  pub Answers : ℕ → State → Picture → Said → State → Type 0
  pub SeesUnread : ℕ → State → List ℕ → State → Type 0
  pub has_ended : State → Bool

-- its state and its streams
pub record Progress (c : ImageCommand) : Type 0 where
  pub state : c.State
  pub input : InputView
  pub output : OutputView

abbrev pub progress_at : {c : ImageCommand} → c.State → InputView → OutputView → Progress c
progress_at now input output = record { state = now; input = input; output = output }

-- its state and its output, while it answers to one image
pub record AtImage (c : ImageCommand) : Type 0 where
  pub state : c.State
  pub output : OutputView

-- the answer to one picture: its line was written, or the output failed with a part of the line out
pub record AnswersPicture (c : ImageCommand) (number : ℕ) (p : Picture) (old : AtImage c)
    (result : Result Answered WriteFault) (new : AtImage c) : Type 0 where
  pub said : Said
  pub answers : c.Answers number old.state p said new.state
  pub told : MatchResult result
      (λ a. Appends old.output.contents new.output.contents said.line × (a.refused ≡ said.refused)
      × (a.last ≡ c.has_ended new.state))
      (λ _. AppendsPart old.output.contents new.output.contents said.line × (new.output.has_failed ≡ true))

-- ---- one step

-- The bytes that come after this many images, if the input hasn't ended: what is said of them, whether nothing is read
-- after them, and the state after them.
pub data ImageComes (c : ImageCommand) (count : ℕ) (now : c.State) (bytes : List ℕ) (rest : InputView)
    : Said → Bool → c.State → Type 0 where
  image : {said : Said} {last : Bool} {after : c.State} (p : Picture) → count < MOST_IMAGES → Spells bytes p
      → c.Answers (count + 1) now p said after → last ≡ (p.plain || c.has_ended after)
      → ImageComes c count now bytes rest said last after
  unread : {after : c.State} (fault : PbmFault) → count < MOST_IMAGES → IsUnread fault bytes rest
      → c.SeesUnread (count + 1) now (pbm_fault_name fault) after
      → ImageComes c count now bytes rest (refusal_of (pbm_fault_name fault)) true after
  too_many : count ≡ MOST_IMAGES → IsAnother bytes rest
      → ImageComes c count now bytes rest (refusal_of (refusal_name TooMany)) true now

-- the bytes were taken from the input, and this is said of them
pub record TakesImage (c : ImageCommand) (count : ℕ) (old : Progress c) (said : Said) (last : Bool) (new : Progress c)
    : Type 0 where
  pub bytes : List ℕ
  pub consumed : Consumes old.input.remaining new.input.remaining bytes
  pub comes : ImageComes c count old.state bytes new.input said last new.state

-- how the input ends after this many images: there is no other, or what comes is the last
pub data EndsImages (c : ImageCommand) (count : ℕ) (old : Progress c) : Said → Progress c → Type 0 where
  no_image : {rest : InputView} {output : OutputView} → count ≤ MOST_IMAGES
      → Keeps old.input.remaining rest.remaining → IsAtEnd rest.remaining
      → EndsImages c count old (record { line = []; refused = false }) (progress_at old.state rest output)
  last_line : {said : Said} {new : Progress c} → TakesImage c count old said true new → EndsImages c count old said new

-- ---- all of them

-- This many images were taken, others may follow, no read failed, and the line of each was written, in order; and
-- whether any of them names a refusal.
pub data AnswersImages (c : ImageCommand) (start : Progress c) : ℕ → Bool → Progress c → Type 0 where
  none : AnswersImages c start 0 false start
  another : {count : ℕ} {refused : Bool} {old new : Progress c} (said : Said) → AnswersImages c start count refused old
      → TakesImage c count old said false new → new.input.has_failed ≡ old.input.has_failed
      → Appends old.output.contents new.output.contents said.line
      → AnswersImages c start (count + 1) (refused || said.refused) new

-- what is said last if a read failed: that it did, or that there are too many images, whatever comes after them
abbrev pub IsOfFailedRead : Said → Type 0
IsOfFailedRead said =
    (said ≡ refusal_of (pbm_fault_name image_faults.Read)) ⊎ (said ≡ refusal_of (refusal_name TooMany))

-- How a command over images ends: the lines of its whole input were written, and the exit status says whether any of
-- them names a refusal; or the output failed at one of them, and a part of it is out. A failed read is taken neither
-- for the end nor for part of an image.
pub data TellsImages (c : ImageCommand) (start : Progress c) (status : ℕ) (new : Progress c) : Type 0 where
  ended : {count : ℕ} {refused : Bool} {old : Progress c} (said : Said) → AnswersImages c start count refused old
      → EndsImages c count old said new → (new.input.has_failed ≡ old.input.has_failed) ⊎ IsOfFailedRead said
      → Appends old.output.contents new.output.contents said.line
      → status ≡ (if refused || said.refused then 1 else 0) → TellsImages c start status new
  stopped : {count : ℕ} {refused last : Bool} {old : Progress c} (said : Said) → AnswersImages c start count refused old
      → TakesImage c count old said last new → new.output.has_failed ≡ true
      → AppendsPart old.output.contents new.output.contents said.line → status ≡ 1 → TellsImages c start status new

-- ---- files that are given by their names

-- what is known of a file: the bytes that it gives, and the faults for which its opening may be refused
pub record FileView : Type 0 where
  pub remaining : Option (List ℕ)
  pub may_refuse : InputFault → Bool

-- why a file gave no bytes: its opening was refused, or a read failed
abbrev pub GivesNothing : FileView → InputFault → Type 0
GivesNothing file fault = IsTrue (file.may_refuse fault) ⊎ (fault ≡ input_faults.Read)

abbrev pub at_image : {c : ImageCommand} → c.State → OutputView → AtImage c
at_image now output = record { state = now; output = output }

-- How a command over images ends for a file: as for an input with its bytes, or the file is refused at its opening.
pub data TellsFile (c : ImageCommand) (file : FileView) (old : AtImage c) (status : ℕ) (new : AtImage c) : Type 0 where
  opened : (rest : InputView)
      → TellsImages c (progress_at old.state (record { remaining = file.remaining; has_failed = false }) old.output) status
      (progress_at new.state rest new.output) → TellsFile c file old status new
  not_opened : (fault : InputFault) → IsTrue (file.may_refuse fault) → new.state ≡ old.state
      → TellsRefusal (input_fault_name fault) old.output status new.output → TellsFile c file old status new

-- the output has failed or the command has ended, so that nothing is read any more
abbrev pub has_stopped : (c : ImageCommand) → AtImage c → Bool
has_stopped c at = at.output.has_failed || c.has_ended at.state

-- the same for files, one after another, until it has stopped; the status is the greatest
pub data TellsFiles {S : Type 0} (Tells : FileView → S → ℕ → S → Type 0) (has_stopped : S → Bool)
    : List FileView → S → ℕ → S → Type 0 where
  no_file : {now : S} → TellsFiles Tells has_stopped [] now 0 now
  last_file : {file : FileView} {later : List FileView} {old new : S} {status : ℕ}
      → Tells file old status new → has_stopped new ≡ true → TellsFiles Tells has_stopped (file ∷ later) old status new
  next_file : {file : FileView} {later : List FileView} {old now new : S} {status others : ℕ}
      → Tells file old status now → has_stopped now ≡ false → TellsFiles Tells has_stopped later now others new
      → TellsFiles Tells has_stopped (file ∷ later) old (max status others) new

-- How a command over images ends: for the files that it is given, and then it reads nothing else, or for its input if
-- it is given none.
pub data TellsInputs (c : ImageCommand) : List FileView → Progress c → ℕ → Progress c → Type 0 where
  of_input : {start new : Progress c} {status : ℕ} → TellsImages c start status new → TellsInputs c [] start status new
  of_files : {file : FileView} {later : List FileView} {start new : Progress c} {status : ℕ}
      → new.input ≡ start.input
      → TellsFiles (TellsFile c) (has_stopped c) (file ∷ later) (at_image start.state start.output) status
      (at_image new.state new.output)
      → TellsInputs c (file ∷ later) start status new

-- ---- changes after which an image would be read

-- What a note says of a refused image: which it is, why it was refused, and after which change it would be read. What
-- is tried, and what the note says, are this project's own.

-- The place, in an image of this width, of the pixel that comes to row r and column c, each at most `last`: every
-- square of `scale` by `scale` pixels becomes one, and the image is then mirrored, left to right, and turned clockwise.
abbrev pub place_before : Cure → ℕ → ℕ → ℕ → ℕ → ℕ
place_before cure width last r c =
    let at : ℕ × ℕ = slice_index_or ((r, c) ∷ (last - c, r) ∷ (last - r, last - c) ∷ (c, last - r) ∷ []) cure.turns (r, c) in
    let column = if cure.mirrored then last - at.1 else at.1 in
    (at.0 * cure.scale + cure.scale / 2) * width + (column * cure.scale + cure.scale / 2)

-- module i, row by row, of the grid with this side that is inside the quiet zone after the change
abbrev pub module_after : Cure → Picture → ℕ → ℕ → Bool
module_after cure p side i = xor
    (slice_index_or p.pixels (place_before cure p.width (side + 1) (i / side + 1) (i % side + 1)) false) cure.inverted

-- after the change the picture has a grid that can be corrected to a symbol
pub record IsCure (p : Picture) (cure : Cure) : Type 0 where
  pub grid : GridView
  pub square : p.width ≡ p.height
  pub side : (sizes.side grid.size + 2) * cure.scale ≡ p.width
  pub modules : let n = sizes.side grid.size in grid.modules ≡ map (module_after cure p n) (range_with_len 0 (n * n))
  pub read : (symbol : CorrectedView) × IsCorrectedAs grid symbol

-- what a note says of a change
abbrev pub cure_text : Cure → List ℕ
cure_text cure =
    codes "; " ++ ((if cure.inverted then codes "inverted, " else []) ++ ((if cure.mirrored then codes "mirrored, " else [])
    ++ (slice_index_or ([] ∷ codes "turned right, " ∷ codes "turned round, " ∷ codes "turned left, " ∷ []) cure.turns []
    ++ (if cure.scale == 1 then codes "it reads" else codes "reduced " ++ (decimal cure.scale ++ codes " times, it reads")))))

-- how a note ends: with nothing or, if the refusal is of the image itself, with a change after which it would be read
abbrev pub EndsNote : Bool → Picture → List ℕ → Type 0
EndsNote is_of_image p ending =
    (ending ≡ []) ⊎ ((is_of_image ≡ true) × (cure : Cure) × IsCure p cure × (ending ≡ cure_text cure))

-- `relay: image`, its number, the ID of its label, if one is known, the name of its refusal, and the end
abbrev pub image_note : ℕ → Option ℕ → List ℕ → List ℕ → List ℕ
image_note number None name ending =
    codes "relay: image " ++ (decimal number ++ (codes ": " ++ (name ++ (ending ++ 10 ∷ []))))
image_note number (Some id) name ending = codes "relay: image " ++
    (decimal number ++ (codes " (" ++ (id_text id ++ (codes "): " ++ (name ++ (ending ++ 10 ∷ []))))))

-- this note went to the standard error, or that failed with a part of it out
abbrev pub NotesImage : ℕ → Option ℕ → List ℕ → List ℕ → OutputView → OutputView → Type 0
NotesImage number id name ending old new =
    (put : Result (Unit {0}) WriteFault) × PutsText (image_note number id name ending) old put new

-- Nothing was noted of a refused picture or, if the refusal is of the image itself, a change that makes it readable.
abbrev pub NotesChange : Bool → Picture → ℕ → List ℕ → OutputView → OutputView → Type 0
NotesChange of_image p number name old new = (new ≡ old)
    ⊎ ((of_image ≡ true) × (cure : Cure) × IsCure p cure × NotesImage number None name (cure_text cure) old new)
