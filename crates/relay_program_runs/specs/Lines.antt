-- The laws of commands, said of the program: of lines that ran on the places of one system.
use Rattle.std.specs.Prelude.{◌≡◌, ◌≢◌, ◌++◌, ◌∷◌, ◌⊎◌, ℕ, AllPairs, Bool, IfSome, List, MatchOption, [], None, Option, Some, IsTrue, map}
use Rattle.std.specs.{Borrow.Bor, List.AllByRecursion, Io.KnownBytes.Appends, Io.KnownBytes.Keeps, Io.KnownBytes.append_known}
use Rattle.dm_store.specs.Saved.{SavedIn}
use Rattle.dm_assembly_desk.specs.Documents.{Documents}
use Rattle.relay_command.specs.declared.command.Command.{Command}
use Rattle.relay_desk_commands.specs.{declared.documents.Given.Given, declared.documents.Given.TheVariants.Document, declared.documents.Given.TheVariants.File}
use Rattle.relay_buffers.specs.Buffers.{IsPartOut}
use Rattle.relay.specs.{Places.PlacesView, Program.named_path, Program.path_of, Program.DoesAll, Program.DoesAt, Program.ForgetsEach, Program.GivesEach, Program.GivesHeld, Program.SystemView, Program.does, Program.does_all, Program.does_and_forgets, Program.does_and_saves, Program.does_here, Program.finds, Program.finds_nothing, Program.forgets_each, Program.forgets_it, Program.forgets_next, Program.forgets_none, Program.gives_each, Program.has_none, Program.ids_of_all, Program.lacks_its_memory, Program.next_id, Program.no_id, Program.none_left, Program.opens_desk, Program.opens_none, Program.shows, Program.streams_over}
use Rattle.relay.specs.Program as program
use Rattle.relay_program_runs.specs.Law.{AreApart, AreVouchedFor, DeliversPrinted, DeliversTheDocument, Each, IsBlank, HaveOneDocument, IsDocumentOf, IsFirstOfItsId, Ran, SomeRan, TakesGiven, all_made, exited, store_of}
use Rattle.relay_program_runs.specs.Passed.{text_of}
use Rattle.relay_shared.specs.{Command.FileView, Files.DeskFiles}

-- A line that ran: what is known of the files that it was to read, by their names; its words; the system before and after
-- it; and its status. If the machine cut it short, nobody saw that, and the line left what it may leave if,
-- from some point on, each call and each write fails.
pub record LineRan (A : Type 0) : Type 0 where
  pub inputs : List ℕ → FileView
  pub words : List (List ℕ)
  pub before : SystemView
  pub status : ℕ
  pub after : SystemView
  pub runs : program.Runs A inputs words before status after

-- the path of a file in a folder
abbrev pub in_folder : List ℕ → List ℕ → List ℕ
in_folder folder name = folder ++ 47 ∷ name

-- ---- the commands of lines

module _ {A : Type 0} where
  -- the command that was done, with what it found and what it left at its path
  abbrev pub ran_at : {command : Command} {inputs : List FileView} {old new : SystemView} {status : ℕ} →
      DoesAt A command inputs old status new → Ran A
  ran_at {command} {inputs} {old} at = record {
    command = command;
    inputs = inputs;
    before = record { files = at.before; streams = streams_over old.standard };
    after = record { files = at.after; streams = at.between.wrote };
    ends = exited at.between.ended at.between.does;
  }

  -- the laws speak of no command that names no path
  abbrev pub if_named : Option (List ℕ) → Ran A → List (Ran A)
  if_named None ran = []
  if_named (Some path) ran = ran ∷ []

  -- the commands that give documents, in turn
  abbrev pub givers_in : {what : Given} {file folder : List ℕ} {ids : List (List ℕ)} {old new : SystemView} {status : ℕ} →
      GivesEach A what file folder ids old status new → List (Ran A)
  givers_in no_id = []
  givers_in (next_id from id at to later) = ran_at to.does ∷ givers_in later

  abbrev pub givers_of : {what : Given} {file folder : List ℕ} {held : Documents} {old new : SystemView} {status : ℕ} →
      GivesHeld A what file folder held old status new → List (Ran A)
  givers_of (gives_each done each noted same) = givers_in each
  givers_of (has_none none told same) = []

  -- the command that opened a desk, and those that gave all its documents
  abbrev pub commands_of : {what : Given} {file folder : Bor (List ℕ)} {old new : SystemView} {status : ℕ} →
      DoesAll A what file folder old status new → List (Ran A)
  commands_of (opens_desk seen desk at between gives) = ran_at at ∷ givers_of gives
  commands_of (opens_none refused at) = ran_at at ∷ []

  -- the commands that forget documents, in turn
  abbrev pub forgetters_in : {file : List ℕ} {ids : List (List ℕ)} {old new : SystemView} {status : ℕ} →
      ForgetsEach A file ids old status new → List (Ran A)
  forgetters_in none_left = []
  forgetters_in (forgets_next (forgets_it from id at is ran) later) = ran_at ran ∷ forgetters_in later
  forgetters_in (forgets_next (lacks_its_memory same told) later) = forgetters_in later

  abbrev pub commands_in : {inputs : List ℕ → FileView} {words : List (List ℕ)} {old new : SystemView} {status : ℕ} →
      program.Runs A inputs words old status new → List (Ran A)
  commands_in (does line right is (does_here none one (finds at))) = if_named (named_path line.command) (ran_at at)
  commands_in (does line right is (does_here none one (finds_nothing seen held at holds same told))) =
      if_named (named_path line.command) (ran_at at)
  commands_in (does line right is (does_and_saves path saved to)) = if_named (named_path line.command) (ran_at to.does)
  commands_in (does line right is (does_all what file folder gives all)) = commands_of all
  commands_in (does line right is (does_and_forgets file folder gives (forgets_each saved all forgets))) =
      commands_of all ++ forgetters_in forgets
  commands_in (does line right is (does_and_forgets file folder gives (forgets_none fails all))) = commands_of all
  commands_in other = []

  abbrev pub all_commands : List (LineRan A) → List (Ran A)
  all_commands [] = []
  all_commands (line ∷ later) = commands_in line.runs ++ all_commands later

  -- the paths at which a line was to save its outputs
  abbrev pub saved_as : {inputs : List ℕ → FileView} {words : List (List ℕ)} {old new : SystemView} {status : ℕ} →
      program.Runs A inputs words old status new → List (List ℕ)
  saved_as (does line right is (does_and_saves path saved to)) = path ∷ []
  saved_as (does line right is (does_all what file folder gives all)) = map (in_folder folder.now) (ids_of_all all)
  saved_as (does line right is (does_and_forgets file folder gives (forgets_each saved all forgets))) =
      map (in_folder folder.now) (ids_of_all all)
  saved_as (does line right is (does_and_forgets file folder gives (forgets_none fails all))) =
      map (in_folder folder.now) (ids_of_all all)
  saved_as other = []

  -- ---- premises

  -- a command of these lines names the path
  abbrev pub IsNamedBy : List (LineRan A) → List ℕ → Type 0
  IsNamedBy lines path = SomeRan (λ ran. path_of ran.command ≡ path) (all_commands lines)

  -- The lines ran one after another, the oldest first. At each of these paths each found, as the store or as the set, what
  -- the one before left.
  abbrev pub Follow : {X : Type 0} → (DeskFiles → SavedIn X) → (List ℕ → Type 0) → PlacesView → List (LineRan A) → Type 0
  Follow of IsOurs places [] = Unit {0}
  Follow of IsOurs places (line ∷ later) = ((path : List ℕ) → IsOurs path → of (line.before.places path) ≡ of (places path))
      × Follow of IsOurs line.after.places later

  -- The stores at the paths that their commands name hold nothing at first, and only these lines change them; elsewhere
  -- may be anything. No output is saved at such a path, ledgers are made apart, and tickets are taken as they were given.
  pub record LinesAsk (lines : List (LineRan A)) : Type 0 where
    pub places : PlacesView
    pub is_new : (path : List ℕ) → IsNamedBy lines path → IsBlank None (store_of (places path))
    pub follow : Follow store_of (IsNamedBy lines) places lines
    pub saved_apart : AllByRecursion (λ line. AllByRecursion (λ path.
        AllByRecursion (λ ran. path ≢ path_of ran.command) (all_commands lines)) (saved_as line.runs)) lines
    pub apart : AllPairs AreApart (all_made (all_commands lines))
    pub tickets : Each TakesGiven [] (all_commands lines)

-- ---- conclusions

-- Nothing is added to the output, and the status is 1. Or the output is a first part of what it was with the document
-- added, and all of that if the status is 0.
abbrev pub PutsTheDocument : (List ℕ → Type 0) → SystemView → ℕ → SystemView → Type 0
PutsTheDocument IsIt old status new = ((status ≡ 1) × IsPartOut old.standard.output new.standard.output)
    ⊎ ((document : List ℕ) × IsIt document × IsPartOut (append_known old.standard.output document) new.standard.output
    × (status ≡ 0 → Appends old.standard.output new.standard.output document))

-- If the store at the path is honest, the file there is as it was, and the status isn't 0; or the file is the document.
abbrev pub SavesTheDocument : (List ℕ → Type 0) → List ℕ → SystemView → ℕ → SystemView → Type 0
SavesTheDocument IsIt path old status new = IsTrue (old.places path).joint.is_honest →
    ((status ≢ 0) × ((new.places path).joint.content ≡ (old.places path).joint.content))
    ⊎ ((document : List ℕ) × IsIt document × ((new.places path).joint.content ≡ Some document))

-- A line `deliver` at one of these paths puts out the document of its ID. With `--to` it saves that, and leaves the
-- output as it was; with `--all` it saves each complete document of the desk, as the file of its ID in the folder.
abbrev pub LetsOutTheDocument : {A : Type 0} → (List ℕ → Type 0) → (List ℕ → List ℕ → Type 0) →
    {inputs : List ℕ → FileView} {words : List (List ℕ)} {old new : SystemView} {status : ℕ} →
    program.Runs A inputs words old status new → Type 0
LetsOutTheDocument IsAmong IsIt {old} {new} {status}
    (does line right is (does_all Document file folder gives all)) = IsAmong file.now →
    AllByRecursion (λ id. SavesTheDocument (IsIt id) (in_folder folder.now id) old status new) (ids_of_all all)
LetsOutTheDocument IsAmong IsIt (does line right is (does_all File file folder gives all)) = Unit {0}
LetsOutTheDocument IsAmong IsIt {old} {new} {status}
    (does line right is (does_and_forgets file folder gives (forgets_each saved all forgets))) = IsAmong file.now →
    AllByRecursion (λ id. SavesTheDocument (IsIt id) (in_folder folder.now id) old status new) (ids_of_all all)
LetsOutTheDocument IsAmong IsIt {old} {new} {status}
    (does line right is (does_and_forgets file folder gives (forgets_none fails all))) = IsAmong file.now →
    AllByRecursion (λ id. SavesTheDocument (IsIt id) (in_folder folder.now id) old status new) (ids_of_all all)
LetsOutTheDocument IsAmong IsIt {old} {new} {status} (does line right is done) =
    IfSome (text_of line.command) (λ text. IsAmong (path_of line.command) →
    MatchOption line.saved_as (PutsTheDocument (IsIt text) old status new) (λ path.
    (new.standard.output ≡ old.standard.output) × SavesTheDocument (IsIt text) path.now old status new))
LetsOutTheDocument IsAmong IsIt (shows fault ends shown same) = Unit {0}

-- ---- the laws

-- No line prints an ID that was printed before.
abbrev pub NoLinePrintsAnIdAgain : Type 0 → Type 0
NoLinePrintsAnIdAgain A = (lines : List (LineRan A)) → LinesAsk lines → Each IsFirstOfItsId [] (all_commands lines)

-- What lines deliver at chosen paths was printed, if what was taken in there was printed too.
abbrev pub WhatLinesDeliverWasPrinted : Type 0 → Type 0
WhatLinesDeliverWasPrinted A = (among : List ℕ → Bool) (lines : List (LineRan A)) → LinesAsk lines →
    AreVouchedFor (λ path. IsTrue (among path)) (all_commands lines) →
    Each (DeliversPrinted (λ path. IsTrue (among path))) [] (all_commands lines)

-- Each ID has one document.
abbrev pub EachIdOfLinesHasOneDocument : Type 0 → Type 0
EachIdOfLinesHasOneDocument A = (lines : List (LineRan A)) → LinesAsk lines → HaveOneDocument (all_commands lines)

-- What lines deliver at chosen paths is that document.
abbrev pub WhatLinesDeliverIsTheDocument : Type 0 → Type 0
WhatLinesDeliverIsTheDocument A = (among : List ℕ → Bool) (lines : List (LineRan A)) → LinesAsk lines →
    AreVouchedFor (λ path. IsTrue (among path)) (all_commands lines) →
    Each (DeliversTheDocument (λ path. IsTrue (among path)) (all_commands lines)) [] (all_commands lines)

-- What comes out of a line `deliver` at a chosen path is that document: what the system has got, not just the command.
abbrev pub WhatLinesLetOutIsTheDocument : Type 0 → Type 0
WhatLinesLetOutIsTheDocument A = (among : List ℕ → Bool) (before after : List (LineRan A)) (line : LineRan A) →
    let lines : List (LineRan A) = before ++ line ∷ after in LinesAsk lines →
    AreVouchedFor (λ path. IsTrue (among path)) (all_commands lines) →
    LetsOutTheDocument (λ path. IsTrue (among path)) (IsDocumentOf (all_commands before) (all_commands lines)) line.runs

-- If a line whose command is done here exits with 0, so did the command, and all of its output is out.
abbrev pub AllIsOut : Type 0 → Type 0
AllIsOut A = (command : Command) (inputs : List FileView) (old new : SystemView) →
    (at : DoesAt A command inputs old 0 new) →
    (at.between.ended ≡ 0) × Keeps at.between.wrote.output.contents new.standard.output
