-- What a command does to the store and the set at the path that it names, and to its streams, and with which exit
-- status: a line for each command. What a command does not need, it leaves as it was.
use Rattle.std.specs.Prelude.{◌≡◌, ◌==◌, ◌<◌, ◌-◌, ℕ, List, [], ◌∷◌, ◌++◌, Option, Bool, true, false, codes, if◌then◌else◌, length, max, string_bytes, ◌≢◌, ◌⊎◌, map, unwrap_or, IsSome, None, Some, Result, Ok, Err}
use Rattle.std.specs.{Borrow.Bor, Fmt.decimal, Option.option_copied, Io.KnownBytes.Appends, Io.KnownBytes.Keeps}
use Rattle.std.specs.FinMap as finite
use Rattle.relay_command.specs.declared.command.Command.{Command}
use Rattle.relay_command.specs.declared.command.Command.TheVariants.{Words, Draw, Read, Plan, Ticket, Ledger, Print, Give, GiveLast, Take, Left, Audit, Scan, Deliver, DeliverAll, Forget, Export, ExportAll, Import, Held, Copy, World}
use Rattle.relay_streams.specs.{Streams.TakesPart, Streams.AppendsPart, Streams.OutputView, Streams.write_fault_name, declared.fault.WriteFault.TheVariants.Write}
use Rattle.relay_shared.specs.{Command.FileView, Command.StreamsView, Command.TellsRefusal, Lines.id_text, declared.command.TheConstants.DOCUMENT_BYTES}
use Rattle.dm_assembly_desk.specs.{Documents.DeskView, Documents.Documents, declared.limits.TheConstants.MOST_CAPACITY}
use Rattle.relay_shared.specs.Files.{DeskFiles}
use Rattle.relay_desk_commands.specs.{declared.import.TheConstants.IMPORT_BYTES, Desks.OnDesk, Desks.EndsDeliver, Desks.EndsExport, Desks.EndsForget, Desks.EndsImport, Desks.EndsOpening, Desks.EndsScan, Desks.EndsCopy, Desks.EndsHeld, Desks.EndsHeldLong, Desks.OpensDesk, Desks.ids_given}
use Rattle.relay_desk_commands.specs.declared.documents.Given.{Given, TheVariants.Document, TheVariants.File}
use Rattle.relay_printer_commands.specs.{declared.audit.TheConstants.TICKETS_BYTES, Printers.EndsLeft, Printers.OnLedger, Printers.EndsLedger, Printers.EndsAudit, Printers.EndsGive, Printers.EndsGiveLast, Printers.EndsTake, Printers.ledger_at, Printers.EndsPlan, Printers.EndsPrint, Printers.EndsTicket}
use Rattle.relay_world_command.specs.{declared.world.TheConstants.INPUT_BYTES, World.EndsWorld}
use Rattle.relay_symbol_commands.specs.Symbols.{EndsWords, EndsDraw, EndsRead}
use Rattle.relay_places.specs.{Notes.IsNote, Notes.note_line, Places.HoldNothing, Places.KeepsOthers, Places.PlacesView, Places.SavesNew}
use Rattle.dm_store.specs.declared.store.StoreFault.{StoreFault}
use Rattle.relay_line.specs.{Line.EndsAmong, Line.named_images, Line.IsLineOf, Rules.endings, Line.saved_path, Line.saves_output, declared.line.CommandLine.CommandLine, declared.fault.LineFault.LineFault, declared.fault.LineFault.TheVariants.Line, declared.fault.LineFault.TheVariants.Memory}
use Rattle.relay_buffers.specs.Buffers.{IsPartOut}
use Rattle.relay.specs.declared.standard.TheConstants.{MANY_BYTES}
use Rattle.dm_store.specs.declared.store.StoreFault.TheVariants as faults

-- ---- commands

-- at most this many bytes were read
abbrev pub ReadsPart : ℕ → StreamsView → StreamsView → Type 0
ReadsPart most old new = TakesPart old.input.remaining new.input.remaining most

-- what a command that names no file does
abbrev pub OnStreams : (StreamsView → ℕ → StreamsView → Type 0) → OnDesk → ℕ → OnDesk → Type 0
OnStreams Ends old status new = Ends old.streams status new.streams × (new.files ≡ old.files)

-- what a command of a printer does: the store at its path is the ledger's, not a joint file's
abbrev pub OnFile : (OnLedger → ℕ → OnLedger → Type 0) → OnDesk → ℕ → OnDesk → Type 0
OnFile Ends old status new = Ends (ledger_at old.files.joint old.streams) status (ledger_at new.files.joint new.streams)
    × (new.files.set ≡ old.files.set)

-- What a command does over the store at the path that it names and the set beside it, and, of `scan`, `read`, `audit`
-- and `import`, over the files to be read; `A` is what it allocates in. For all documents it only opens the desk.
abbrev pub Does : Type 0 → Command → List FileView → OnDesk → ℕ → OnDesk → Type 0
Does A (Words side scheme) inputs old status new =
    OnStreams (EndsWords (record { side = side; scheme = scheme })) old status new
    × ReadsPart DOCUMENT_BYTES old.streams new.streams
Does A (Draw side scheme plain) inputs old status new =
    OnStreams (EndsDraw (record { side = side; scheme = scheme }) plain) old status new
    × ReadsPart DOCUMENT_BYTES old.streams new.streams
Does A Read inputs old status new = OnStreams (EndsRead inputs) old status new
Does A (Plan scheme) inputs old status new =
    OnStreams (EndsPlan scheme) old status new × ReadsPart DOCUMENT_BYTES old.streams new.streams
Does A (Ticket ticket) inputs old status new = OnStreams (EndsTicket ticket.now) old status new
Does A World inputs old status new = OnStreams (EndsWorld A) old status new × (new.streams.errors ≡ old.streams.errors)
    × ReadsPart INPUT_BYTES old.streams new.streams
Does A (Ledger file number first last) inputs old status new =
    OnFile (EndsLedger number (record { first = first; last = last })) old status new
Does A (Print file number labels scheme) inputs old status new =
    OnFile (EndsPrint number labels scheme) old status new × ReadsPart DOCUMENT_BYTES old.streams new.streams
Does A (Give file number to first last) inputs old status new =
    OnFile (EndsGive number to (record { first = first; last = last })) old status new
Does A (GiveLast file number to count) inputs old status new = OnFile (EndsGiveLast number to count) old status new
Does A (Take file number ticket) inputs old status new = OnFile (EndsTake number ticket.now) old status new
Does A (Left file) inputs old status new = OnFile EndsLeft old status new
Does A Audit inputs old status new = OnStreams (EndsAudit inputs) old status new × ReadsPart TICKETS_BYTES old.streams new.streams
Does A (Scan file capacity) inputs old status new = EndsScan capacity inputs old status new
Does A (Deliver file id) inputs old status new = EndsDeliver id.now old status new
Does A (DeliverAll file folder forgets) inputs old status new = EndsOpening old status new
Does A (Forget file id) inputs old status new = EndsForget id.now old status new
Does A (Export file id) inputs old status new = EndsExport id.now old status new
Does A (ExportAll file folder) inputs old status new = EndsOpening old status new
Does A (Import file capacity) inputs old status new =
    EndsImport capacity inputs old status new × ReadsPart IMPORT_BYTES old.streams new.streams
Does A (Held file id false) inputs old status new = EndsHeld (option_copied id) old status new
Does A (Held file id true) inputs old status new = EndsHeldLong (option_copied id) old status new
Does A (Copy file id page side scheme) inputs old status new =
    EndsCopy (record { id = id; page = page; side = side; scheme = scheme }) old status new

-- the path that a command names
abbrev pub named_path : Command → Option (List ℕ)
named_path (Ledger file number first last) = Some file.now
named_path (Print file number labels scheme) = Some file.now
named_path (Give file number to first last) = Some file.now
named_path (GiveLast file number to count) = Some file.now
named_path (Take file number ticket) = Some file.now
named_path (Left file) = Some file.now
named_path (Scan file capacity) = Some file.now
named_path (Deliver file id) = Some file.now
named_path (DeliverAll file folder forgets) = Some file.now
named_path (Forget file id) = Some file.now
named_path (Export file id) = Some file.now
named_path (ExportAll file folder) = Some file.now
named_path (Import file capacity) = Some file.now
named_path (Held file id is_long) = Some file.now
named_path (Copy file id page side scheme) = Some file.now
named_path other = None

-- the path that a command names, or the empty one if it names none
abbrev pub path_of : Command → List ℕ
path_of command = unwrap_or (named_path command) []

-- whether the output of a command is bytes for another program, so that its refusals go to the standard error
abbrev pub refuses_on_errors : Command → Bool
refuses_on_errors (Draw side scheme plain) = true
refuses_on_errors (Print file number labels scheme) = true
refuses_on_errors (Copy file id page side scheme) = true
refuses_on_errors (DeliverAll file folder forgets) = true
refuses_on_errors (ExportAll file folder) = true
refuses_on_errors other = saves_output other

-- How many bytes of its output a command may hold back: none of a line, if it waits for its input again after one.
abbrev pub least_of : Command → ℕ
least_of Read = 0
least_of (Scan file capacity) = 0
least_of (Import file capacity) = 0
least_of World = 0
least_of other = MANY_BYTES

-- ---- the standard streams

-- the bytes that are left on the input, and those that the output and the standard error have got, where they are known
pub record StandardView : Type 0 where
  pub input : Option (List ℕ)
  pub output : Option (List ℕ)
  pub errors : Option (List ℕ)

-- the streams of a command that begins: their buffers hold nothing, and none has failed
abbrev pub streams_over : StandardView → StreamsView
streams_over standard = record {
  input = record { remaining = standard.input; has_failed = false };
  output = record { contents = standard.output; has_failed = false };
  errors = record { contents = standard.errors; has_failed = false };
}

-- the first bytes of a text are out
abbrev pub ShowsPart : Option (List ℕ) → Option (List ℕ) → List ℕ → Type 0
ShowsPart old out text = (taken : Option (List ℕ)) × AppendsPart old taken text × IsPartOut taken out

-- the line of a refusal was written to a stream, and its first bytes are out
abbrev pub TellsOut : List ℕ → Option (List ℕ) → ℕ → Option (List ℕ) → Type 0
TellsOut name old status new = (told : OutputView)
    × TellsRefusal name (record { contents = old; has_failed = false }) status told × IsPartOut told.contents new

-- the line of a refusal goes to the standard error, or to the output, and nothing happens to the other streams
abbrev pub PutsRefusal : Bool → List ℕ → StandardView → ℕ → StandardView → Type 0
PutsRefusal true name old status new =
    TellsOut name old.errors status new.errors × (new.input ≡ old.input) × (new.output ≡ old.output)
PutsRefusal false name old status new =
    TellsOut name old.output status new.output × (new.input ≡ old.input) × (new.errors ≡ old.errors)

-- the first bytes of a text go to the standard error, and nothing happens to the other streams
abbrev pub ShowsOnErrors : List ℕ → StandardView → StandardView → Type 0
ShowsOnErrors text old new = (new.input ≡ old.input) × (new.output ≡ old.output) × ShowsPart old.errors new.errors text

-- the first bytes of a note go there, or nothing happens
abbrev pub Notes : StandardView → StandardView → Type 0
Notes old new = (new ≡ old) ⊎ ((note : List ℕ) × IsNote note × ShowsOnErrors note old new)

-- the line of a refusal goes there, and then perhaps a note
abbrev pub RefusesNoted : List ℕ → StandardView → ℕ → StandardView → Type 0
RefusesNoted name old status new = (told : StandardView) × PutsRefusal true name old status told × Notes told new

-- What a command wrote is out, and its status is the program's. Or a stream refused a write, and the first bytes of what
-- the command wrote are out: then a refusal goes to the standard error, as far as that takes it, and the status is 1; or
-- the command's own status is not 0, and stands. Of what is written to the standard error, the first bytes are out, and
-- all of it if the status is 0.
pub data PutsOut (wrote : Option (List ℕ)) (told : OutputView) (ended status : ℕ) (out errors : Option (List ℕ))
    : Type 0 where
  lets_all_out : Keeps wrote out → status ≡ ended → IsPartOut told.contents errors →
      (ended ≡ 0 → Keeps told.contents errors) → PutsOut wrote told ended status out errors
  says_nothing : ended ≢ 0 → IsPartOut wrote out → status ≡ ended → IsPartOut told.contents errors →
      PutsOut wrote told ended status out errors
  says_so : (after : OutputView) → IsPartOut wrote out → TellsRefusal (write_fault_name Write) told status after →
      IsPartOut after.contents errors → PutsOut wrote told ended status out errors

-- What a command does between the standard streams, with these files before and after. The status is 0 only if the
-- command's is, and all that it wrote is out. What it has not read is left on the input.
pub record DoesBetween (A : Type 0) (command : Command) (inputs : List FileView) (before : DeskFiles)
    (old : StandardView) (status : ℕ) (after : DeskFiles) (new : StandardView) : Type 0 where
  pub ended : ℕ
  pub wrote : StreamsView
  pub does : Does A command inputs (record { files = before; streams = streams_over old }) ended
      (record { files = after; streams = wrote })
  pub out : PutsOut wrote.output.contents wrote.errors ended status new.output new.errors
  pub left : new.input ≡ wrote.input.remaining

-- ---- a command of a line

-- the standard streams, and what is at each path
pub record SystemView : Type 0 where
  pub standard : StandardView
  pub places : PlacesView

abbrev pub system_at : StandardView → PlacesView → SystemView
system_at standard places = record { standard = standard; places = places }

-- The files before and after are those at the path that a command names, and what is at each other path stays as it
-- was. A command that names no path has files of its own, and changes nothing at any path.
abbrev pub IsAt : Option (List ℕ) → DeskFiles → PlacesView → DeskFiles → PlacesView → Type 0
IsAt None before old after new = new ≡ old
IsAt (Some path) before old after new = (before ≡ old path) × (new path ≡ after) × KeepsOthers path old new

-- What a command does with the files at the path that it names. Afterwards a note may go to the standard error.
pub record DoesAt (A : Type 0) (command : Command) (inputs : List FileView) (old : SystemView) (status : ℕ)
    (new : SystemView) : Type 0 where
  pub before : DeskFiles
  pub after : DeskFiles
  pub done : StandardView
  pub between : DoesBetween A command inputs before old.standard status after done
  pub is_at : IsAt (named_path command) before old.places after new.places
  pub noted : Notes done new.standard

abbrev pub save_fault_name : StoreFault → List ℕ
save_fault_name faults.Device = codes "Save"
save_fault_name faults.Memory = codes "Memory"

-- The output of a command was saved; or it was not, and the line of a refusal goes to the standard error. A note may
-- follow.
abbrev pub TellsSave : Result (Unit {0}) StoreFault → StandardView → ℕ → StandardView → Type 0
TellsSave (Ok _) old status new = Notes old new × (status ≡ 0)
TellsSave (Err fault) old status new = RefusesNoted (save_fault_name fault) old status new

pub record SavesOutput (path bytes : List ℕ) (old : SystemView) (status : ℕ) (new : SystemView) : Type 0 where
  pub answer : Result (Unit {0}) StoreFault
  pub saves : SavesNew path bytes old.places answer new.places
  pub tells : TellsSave answer old.standard status new.standard

-- the system with another output
abbrev pub with_output : SystemView → Option (List ℕ) → SystemView
with_output system output = record system { standard = record system.standard { output = output } }

-- A command writes these bytes, and if it ended with 0 they are saved as the file at a path. The output is as it was.
pub record DoesAndSaves (A : Type 0) (command : Command) (path : List ℕ) (old : SystemView) (status : ℕ) (new : SystemView) :
    Type 0 where
  pub ended : ℕ
  pub bytes : List ℕ
  pub done : SystemView
  pub does : DoesAt A command [] (with_output old (Some [])) ended (with_output done (Some bytes))
  pub output : done.standard.output ≡ old.standard.output
  pub saves : ((ended ≢ 0) × (status ≡ ended) × (new ≡ done)) ⊎ ((ended ≡ 0) × SavesOutput path bytes done status new)

-- ---- all documents of a desk

-- the command that gives this of all documents, each as a file of its own in a folder, and may forget the documents that it
-- gives; and the one that gives it of one
abbrev pub all_command : Given → Bool → Bor (List ℕ) → Bor (List ℕ) → Command
all_command Document forgets file folder = DeliverAll file folder forgets
all_command File forgets file folder = ExportAll file folder

abbrev pub one_command : Given → Bor (List ℕ) → Bor (List ℕ) → Command
one_command Document file id = Deliver file id
one_command File file id = Export file id

-- The documents with these IDs are given in turn, each by a command of its own whose output is saved as the file of that
-- name in a folder.
pub data GivesEach (A : Type 0) (what : Given) (file folder : List ℕ) : List (List ℕ) → SystemView → ℕ → SystemView → Type 0 where
  no_id : {now : SystemView} → GivesEach A what file folder [] now 0 now
  next_id : {later : List (List ℕ)} {old now new : SystemView} {one others : ℕ} (from id : Bor (List ℕ)) → from.now ≡ file →
      DoesAndSaves A (one_command what from id) (folder ++ 47 ∷ id.now) old one now →
      GivesEach A what file folder later now others new → GivesEach A what file folder (id.now ∷ later) old (max one others) new

-- how many documents are incomplete
abbrev pub incomplete_text : ℕ → List ℕ
incomplete_text count =
    decimal count ++ (32 ∷ (if count == 1 then codes "document is incomplete" else codes "documents are incomplete"))

-- that goes to the standard error if there are any, unless memory is refused for it
abbrev pub NotesIncomplete : ℕ → StandardView → StandardView → Type 0
NotesIncomplete count old new = (new ≡ old) ⊎ ((0 < count) × ShowsOnErrors (note_line (incomplete_text count)) old new)

-- What a desk that holds these documents gives of all of them, as files in a folder: of each in turn, and then it is noted
-- of how many nothing is given. Or it holds none, and is refused, since nothing is there.
pub data GivesHeld (A : Type 0) (what : Given) (file folder : List ℕ) (held : Documents) (old : SystemView) (status : ℕ)
    (new : SystemView) : Type 0 where
  gives_each : (done : SystemView) → GivesEach A what file folder (map id_text (ids_given what held)) old status done →
      NotesIncomplete (finite.len held - length (ids_given what held)) done.standard new.standard → new.places ≡ done.places →
      GivesHeld A what file folder held old status new
  has_none : finite.len held ≡ 0 → RefusesNoted (codes "Absent") old.standard status new.standard → new.places ≡ old.places →
      GivesHeld A what file folder held old status new

-- the desk was opened between these files
abbrev pub OpensBetween : DeskView → DeskFiles → DeskFiles → Type 0
OpensBetween desk before after = OpensDesk before MOST_CAPACITY after.joint desk × (after.set ≡ desk.saved)

-- What a command for all documents does: it opens the desk, and gives what that holds; or it is refused.
pub data DoesAll (A : Type 0) (what : Given) (file folder : Bor (List ℕ)) (old : SystemView) (status : ℕ) (new : SystemView)
    : Type 0 where
  opens_desk : (seen : SystemView) (desk : DeskView) (at : DoesAt A (all_command what false file folder) [] old 0 seen) →
      OpensBetween desk at.before at.after → GivesHeld A what file.now folder.now desk.held seen status new →
      DoesAll A what file folder old status new
  opens_none : status ≢ 0 → DoesAt A (all_command what false file folder) [] old status new →
      DoesAll A what file folder old status new

-- the IDs of the documents that were to be saved
abbrev pub ids_of_all : {A : Type 0} {what : Given} {file folder : Bor (List ℕ)} {old new : SystemView} {status : ℕ} →
    DoesAll A what file folder old status new → List (List ℕ)
ids_of_all {A} {what} (opens_desk seen desk at between gives) = map id_text (ids_given what desk.held)
ids_of_all (opens_none refused at) = []

-- the document with this ID is forgotten by a command of its own; or memory was refused for that
pub data ForgetsOne (A : Type 0) (file id : List ℕ) (old : SystemView) (status : ℕ) (new : SystemView) : Type 0 where
  forgets_it : (from text : Bor (List ℕ)) → from.now ≡ file → text.now ≡ id →
      DoesAt A (Forget from text) [] old status new → ForgetsOne A file id old status new
  lacks_its_memory : new.places ≡ old.places → PutsRefusal false (codes "Memory") old.standard status new.standard →
      ForgetsOne A file id old status new

-- the documents with these IDs are forgotten in turn
pub data ForgetsEach (A : Type 0) (file : List ℕ) : List (List ℕ) → SystemView → ℕ → SystemView → Type 0 where
  none_left : {now : SystemView} → ForgetsEach A file [] now 0 now
  forgets_next : {id : List ℕ} {later : List (List ℕ)} {old now new : SystemView} {one others : ℕ} →
      ForgetsOne A file id old one now → ForgetsEach A file later now others new →
      ForgetsEach A file (id ∷ later) old (max one others) new

-- What a command for all documents does that forgets them: if all that it gives was saved, it forgets each of these.
pub data DoesAndForgets (A : Type 0) (what : Given) (file folder : Bor (List ℕ)) (old : SystemView) (status : ℕ)
    (new : SystemView) : Type 0 where
  forgets_each : (saved : SystemView) (all : DoesAll A what file folder old 0 saved) →
      ForgetsEach A file.now (ids_of_all all) saved status new → DoesAndForgets A what file folder old status new
  forgets_none : status ≢ 0 → DoesAll A what file folder old status new → DoesAndForgets A what file folder old status new

-- what a command for all documents does, which forgets them or doesn't
abbrev pub DoesForAll : Type 0 → Bool → Given → Bor (List ℕ) → Bor (List ℕ) → SystemView → ℕ → SystemView → Type 0
DoesForAll A false what file folder = DoesAll A what file folder
DoesForAll A true what file folder = DoesAndForgets A what file folder

-- ---- what a line names

-- a line that names a path, or files to be read
abbrev pub NamesFiles : CommandLine → Type 0
NamesFiles line = IsSome (named_path line.command) ⊎ (named_images line ≢ [])

-- the command gives nothing of all documents of a desk
abbrev pub IsNotOfAll : Command → Type 0
IsNotOfAll command = (what : Given) (forgets : Bool) (file folder : Bor (List ℕ)) → command ≢ all_command what forgets file folder

abbrev pub is_held : Command → Bool
is_held (Held file id is_long) = true
is_held other = false

-- What a command does; but `held` that ended with 0, where nothing is at its path, may be refused after all.
pub data DoesOrFindsNothing (A : Type 0) (command : Command) (inputs : List FileView) (old : SystemView) (status : ℕ)
    (new : SystemView) : Type 0 where
  finds : DoesAt A command inputs old status new → DoesOrFindsNothing A command inputs old status new
  finds_nothing : (seen : SystemView) → is_held command ≡ true → DoesAt A command inputs old 0 seen → HoldNothing (seen.places (path_of command)) →
      new.places ≡ seen.places → PutsRefusal (refuses_on_errors command) (codes "Absent") seen.standard status new.standard →
      DoesOrFindsNothing A command inputs old status new

-- What a line does: its command, with the files that it names to be read and, if it names one, the file for its output;
-- or what is given of all documents of a desk; or nothing, since memory is refused.
pub data DoesFor (A : Type 0) (inputs : List ℕ → FileView) (line : CommandLine) (old : SystemView) (status : ℕ)
    (new : SystemView) : Type 0 where
  does_here : saved_path line ≡ None → IsNotOfAll line.command →
      DoesOrFindsNothing A line.command (map inputs (named_images line)) old status new →
      DoesFor A inputs line old status new
  does_and_saves : (path : List ℕ) → saved_path line ≡ Some path → DoesAndSaves A line.command path old status new →
      DoesFor A inputs line old status new
  does_all : (what : Given) (file folder : Bor (List ℕ)) → line.command ≡ all_command what false file folder →
      DoesAll A what file folder old status new → DoesFor A inputs line old status new
  does_and_forgets : (file folder : Bor (List ℕ)) → line.command ≡ all_command Document true file folder →
      DoesAndForgets A Document file folder old status new → DoesFor A inputs line old status new
  lacks_memory : NamesFiles line → new.places ≡ old.places → PutsRefusal (refuses_on_errors line.command) (codes "Memory")
      old.standard status new.standard → DoesFor A inputs line old status new

-- this was done; or nothing was, since memory was refused, which may happen only under this condition
abbrev pub OrNothing : {E : Type 0} → (SystemView → ℕ → SystemView → Type 0) → Type 0 → SystemView → Result ℕ E → SystemView → Type 0
OrNothing Does May old (Ok status) new = Does old status new
OrNothing Does May old (Err _) new = May × (new ≡ old)

-- ---- a line

-- The help is out, and the status is 0; or the output refused it, and the standard error has the line of a refusal.
abbrev pub Helps : List ℕ → StandardView → ℕ → StandardView → Type 0
Helps text old status new = (new.input ≡ old.input)
    × ((Appends old.output new.output text × (new.errors ≡ old.errors) × (status ≡ 0))
    ⊎ (ShowsPart old.output new.output text × TellsOut (write_fault_name Write) old.errors status new.errors))

-- What a line that is no command does, by its fault: a help goes to the output, what is wrong to the standard error.
abbrev pub Informs : LineFault → StandardView → ℕ → StandardView → Type 0
Informs (Line text given) old status new =
    (Helps (string_bytes text) old status new × (given ≡ 0))
    ⊎ (ShowsOnErrors (string_bytes text) old new × (status ≡ given) × (given ≢ 0))
Informs Memory old status new = PutsRefusal true (codes "Memory") old status new

-- What a line of these words does, the first of which is the program's name: the command that they give, if they give one;
-- or else it shows what was asked for, or what is wrong, with one of the statuses that such words end with. `inputs` are the
-- files to be read, by their names.
pub data Runs (A : Type 0) (inputs : List ℕ → FileView) (words : List (List ℕ)) (old : SystemView) (status : ℕ)
    (new : SystemView) : Type 0 where
  does : (line : CommandLine) → endings words ≡ [] → IsLineOf words line → DoesFor A inputs line old status new →
      Runs A inputs words old status new
  shows : (fault : LineFault) → EndsAmong (endings words) fault → Informs fault old.standard status new.standard → new.places
      ≡ old.places → Runs A inputs words old status new
