-- A worked list of typed lines, over places that hold nothing at first. It meets all premises of the laws of lines, and
-- this is what the laws say of it.
use Rattle.std.specs.Prelude.{◌≡◌, ◌++◌, ◌∷◌, ℕ, IsTrue, List, [], None, Option, Some, codes, drop, length, map, slice_get, take, true}
use Rattle.std.specs.{Borrow.Bor, Global.Global}
use Prim.Native.String.{String}
use Rattle.std.specs.FinMap as finite
use Rattle.relay_shared.specs.{Command.FileView, Files.DeskFiles}
use Rattle.dm_encodation.specs.declared.scheme.Scheme.TheVariants.{Ascii}
use Rattle.relay_command.specs.declared.command.Command.{Command, TheVariants.Deliver, TheVariants.Give, TheVariants.Ledger, TheVariants.Print, TheVariants.Scan, TheVariants.Take}
use Rattle.relay_command.specs.declared.command.Labels.TheVariants.{OfSide}
use Rattle.relay.specs.{CommandLine.CommandLine, Line.IsLineOf, Line.named_images, Line.saved_path, Rules.endings}
use Rattle.relay.specs.{Places.PlacesView, Program.DoesFor, Program.StandardView, Program.SystemView, Program.system_at}
use Rattle.relay_program_runs.specs.Law.{AreVouchedFor, IsBlank, IsDocumentOf}
use Rattle.relay_program_runs.specs.Lines.{LineRan, LinesAsk, all_commands}

-- the input has these bytes, and nothing was written
abbrev pub fed : PlacesView → List ℕ → SystemView
fed places input = system_at (record { input = Some input; output = Some []; errors = Some [] }) places

-- The words give a line of this command, which names no files to be read, and this path for its output, or none. It was
-- done over these places and this input; this is what it left there, and what it wrote.
pub record IsLineDone (inputs : List ℕ → FileView) (words : List (List ℕ)) (command : Command) (saved : Option (List ℕ))
    (places : PlacesView) (input : List ℕ) (status : ℕ) (after : PlacesView) (output : List ℕ) : Type 0 where
  pub line : CommandLine
  pub right : endings words ≡ []
  pub is : IsLineOf words line
  pub command_is : line.command ≡ command
  pub no_images : named_images line ≡ []
  pub saved_is : saved_path line ≡ saved
  pub standard : StandardView
  pub does : DoesFor Global inputs line (fed places input) status (system_at standard after)
  pub output_is : standard.output ≡ Some output

abbrev pub Text : Type 0
Text = Bor (List ℕ)

-- the commands of the worked list
pub record AreWorked (commands : List Command) : Type 0 where
  pub file : Text × Text × Text × Text × Text × Text × Text × Text × Text
  pub ticket : Text × Text
  pub id : Text
  pub capacity : ℕ
  pub are : commands ≡ Ledger file.0 0 0 99 ∷ Ledger file.1 2 100 199 ∷ Give file.2 0 2 0 9
      ∷ Take file.3 2 ticket.0 ∷ Take file.4 2 ticket.1 ∷ Ledger file.5 3 200 299
      ∷ Print file.6 0 (OfSide 12) Ascii ∷ Scan file.7 capacity ∷ Deliver file.8 id ∷ []
  pub ledgers : (file.0.now ≡ codes "a") × (file.1.now ≡ codes "b") × (file.2.now ≡ codes "a") × (file.3.now ≡ codes "b")
      × (file.4.now ≡ codes "b") × (file.5.now ≡ codes "c") × (file.6.now ≡ codes "a")
  pub desk : (file.7.now ≡ codes "d") × (file.8.now ≡ codes "d")
  pub tickets : (ticket.0.now ≡ codes "00000000000200000009") × (ticket.1.now ≡ codes "00000000000200000009")
  pub id_is : id.now ≡ codes "010b"

-- a store and a set that are honest, and hold nothing
abbrev pub AreBlank : DeskFiles → Type 0
AreBlank files = IsBlank None files.joint × IsBlank finite.empty files.set

-- the words of each line, of which the last delivers
abbrev pub worked_words : List (List String)
worked_words =
    ("relay" ∷ "ledger" ∷ "--file" ∷ "a" ∷ "--first" ∷ "0" ∷ "--last" ∷ "99" ∷ [])
    ∷ ("relay" ∷ "ledger" ∷ "--file" ∷ "b" ∷ "--number" ∷ "2" ∷ "--first" ∷ "100" ∷ "--last" ∷ "199" ∷ [])
    ∷ ("relay" ∷ "give" ∷ "--file" ∷ "a" ∷ "--number" ∷ "0" ∷ "--to" ∷ "2" ∷ "--first" ∷ "0" ∷ "--last" ∷ "9" ∷ [])
    ∷ ("relay" ∷ "take" ∷ "--file" ∷ "b" ∷ "--number" ∷ "2" ∷ "--ticket" ∷ "00000000000200000009" ∷ [])
    ∷ ("relay" ∷ "take" ∷ "--file" ∷ "b" ∷ "--number" ∷ "2" ∷ "--ticket" ∷ "00000000000200000009" ∷ [])
    ∷ ("relay" ∷ "ledger" ∷ "--file" ∷ "c" ∷ "--number" ∷ "3" ∷ "--first" ∷ "200" ∷ "--last" ∷ "299" ∷ [])
    ∷ ("relay" ∷ "print" ∷ "--file" ∷ "a" ∷ "--side" ∷ "12" ∷ [])
    ∷ ("relay" ∷ "scan" ∷ "--file" ∷ "d" ∷ [])
    ∷ ("relay" ∷ "deliver" ∷ "--file" ∷ "d" ∷ "--id" ∷ "010b" ∷ "--to" ∷ "out" ∷ []) ∷ []

-- what a line left on its output
abbrev pub output_of : LineRan Global → Option (List ℕ)
output_of line = line.after.standard.output

abbrev pub typed : List String → List (List ℕ)
typed words = map codes words

-- Nine lines with these words and statuses, one after another, from places that hold nothing. Two were refused: a ticket
-- that was taken before, and a third ledger. What the print wrote stood in the file `labels`, and the scan read it. The
-- lines meet all premises of the laws of lines, at all paths. So the last one saves the one document of its ID, which is
-- what the print read, in a file that was not there.
pub record LinesGoWell : Type 0 where
  pub earlier : List (LineRan Global)
  pub print : LineRan Global
  pub scan : LineRan Global
  pub deliver : LineRan Global
  pub words : map (λ line. line.words) (earlier ++ deliver ∷ []) ≡ map typed worked_words
  pub statuses : map (λ line. line.status) (earlier ++ deliver ∷ []) ≡ 0 ∷ 0 ∷ 0 ∷ 0 ∷ 1 ∷ 1 ∷ 0 ∷ 0 ∷ 0 ∷ []
  pub commands : length (all_commands (earlier ++ deliver ∷ [])) ≡ 9
  pub told : take 2 (drop 4 (map output_of earlier)) ≡ Some (codes "refused Old\n") ∷ Some (codes "refused Device\n") ∷ []
  pub asks : LinesAsk (earlier ++ deliver ∷ [])
  pub blank : (path : List ℕ) → AreBlank (asks.places path)
  pub vouched : AreVouchedFor (λ path. IsTrue true) (all_commands (earlier ++ deliver ∷ []))
  pub printed : slice_get earlier 6 ≡ Some print
  pub print_read : print.before.standard.input ≡ Some (codes "1234")
  pub scanned : slice_get earlier 7 ≡ Some scan
  pub labels : (bytes : List ℕ) × (output_of print ≡ Some bytes)
      × ((scan.before.places (codes "labels")).joint.content ≡ Some bytes) × (scan.before.standard.input ≡ Some bytes)
  pub document : IsDocumentOf (all_commands earlier) (all_commands (earlier ++ deliver ∷ [])) (codes "010b") (codes "1234")
  pub nothing : (deliver.before.places (codes "out")).joint.content ≡ None
  pub saved : (deliver.after.places (codes "out")).joint.content ≡ Some (codes "1234")
