-- What a command line gives.
use Prim.Native.String.{String}
use Rattle.std.specs.Prelude.{◌≡◌, ℕ, ◌≤◌, List, codes, [], map, Bool, true, false, Option, Some, None, MatchOption, MatchResult, Result, option_map, if◌then◌else◌, ◌==◌}
use Rattle.std.specs.List.{list_any}
use Rattle.std.specs.Str.Parse.{digits_value, without_leading_plus}
use Rattle.clap.specs.Walk.{Row, all_of, first_of}
use Rattle.dm_encodation.specs.declared.scheme.Scheme.TheVariants.{Ascii}
use Rattle.relay_command.specs.{declared.command.Command.Command, declared.command.Labels.Labels, Schemes.scheme_name}
use Rattle.relay_command.specs.declared.command.Command.TheVariants.{Words, Draw, Read, Plan, Ticket, Ledger, Print, Give, GiveLast, Take, Left, Audit, Scan, Deliver, DeliverAll, Forget, Export, ExportAll, Import, Held, Copy, World}
use Rattle.relay_command.specs.declared.command.Labels.TheVariants.{OfSide, AtMost}
use Rattle.std.specs.Borrow.{Bor}
use Rattle.clap.specs.Words.{found_of, rows_of, subcommand_of}
use Rattle.clap.specs.declared.parser.matches.ArgMatches.{ArgMatches}
use Rattle.relay_line.specs.Parsed.{the_app}
use Rattle.relay_line.specs.declared.{line.CommandLine.CommandLine, fault.LineFault.LineFault}
use Rattle.relay_line.specs.declared.fault.LineFault.TheVariants.{Line, Memory}

-- the name by which a command is asked for
abbrev pub command_name : Command → List ℕ
command_name (Words side scheme) = codes "words"
command_name (Draw side scheme plain) = codes "draw"
command_name Read = codes "read"
command_name (Plan scheme) = codes "plan"
command_name (Ticket ticket) = codes "ticket"
command_name (Ledger file number first last) = codes "ledger"
command_name (Print file number labels scheme) = codes "print"
command_name (Give file number to first last) = codes "give"
command_name (GiveLast file number to count) = codes "give"
command_name (Take file number ticket) = codes "take"
command_name (Left file) = codes "left"
command_name Audit = codes "audit"
command_name (Scan file capacity) = codes "scan"
command_name (Deliver file id) = codes "deliver"
command_name (DeliverAll file folder forgets) = codes "deliver"
command_name (Forget file id) = codes "forget"
command_name (Export file id) = codes "export"
command_name (ExportAll file folder) = codes "export"
command_name (Import file capacity) = codes "import"
command_name (Held file id is_long) = codes "held"
command_name (Copy file id page side scheme) = codes "copy"
command_name World = codes "world"

-- a command that can save its output as a file
abbrev pub saves_output : Command → Bool
saves_output (Deliver file id) = true
saves_output (Export file id) = true
saves_output other = false

-- the files that a line names to be read, in turn, and the file that its output is saved as
abbrev pub named_images : CommandLine → List (List ℕ)
named_images line = map (λ name. name.now) line.images.items

abbrev pub saved_path : CommandLine → Option (List ℕ)
saved_path line = option_map (λ path. path.now) line.saved_as

-- what a parse found for a command
module _ (found : List Row) where
  -- under the name of an option it found this text, or this number
  abbrev pub HasText : String → List ℕ → Type 0
  HasText name text = first_of (codes name) found ≡ Some text

  abbrev pub number_at : List ℕ → Option ℕ
  number_at name = option_map (λ text. digits_value 10 (without_leading_plus text)) (first_of name found)

  abbrev pub HasNumber : String → ℕ → Type 0
  HasNumber name number = number_at (codes name) ≡ Some number

  abbrev pub HasFlag : String → Bool → Type 0
  HasFlag name is_there = HasText name (if is_there then codes "true" else codes "false")

  -- a side; and the labels of a print: their side, or how many at most
  abbrev pub HasSide : ℕ → Type 0
  HasSide side = (10 ≤ side) × (side ≤ 132) × HasNumber "side" side

  abbrev pub HasLabels : Labels → Type 0
  HasLabels (OfSide side) = HasSide side
  HasLabels (AtMost most) = (2 ≤ most) × (most ≤ 16) × HasNumber "labels" most

  -- Each field is what stands under its own name, and in range. The other numbers are of 16 bits, and the calls above
  -- refuse those beyond their ranges.
  abbrev pub HasValues : Command → Type 0
  HasValues (Words side scheme) = HasSide side × HasText "scheme" (scheme_name scheme)
  HasValues (Draw side scheme plain) = HasSide side × HasText "scheme" (scheme_name scheme) × HasFlag "plain" plain
  HasValues Read = Unit {0}
  HasValues (Plan scheme) = HasText "scheme" (scheme_name scheme)
  HasValues (Ticket ticket) = HasText "ticket" ticket.now
  HasValues (Ledger file number first last) = HasText "file" file.now × HasNumber "number" number
      × HasNumber "first" first × HasNumber "last" last
  HasValues (Print file number labels scheme) = HasText "file" file.now × HasNumber "number" number
      × HasLabels labels × HasText "scheme" (scheme_name scheme)
  HasValues (Give file number to first last) = HasText "file" file.now × HasNumber "number" number
      × HasNumber "to" to × HasNumber "first" first × HasNumber "last" last
  HasValues (GiveLast file number to count) = HasText "file" file.now × HasNumber "number" number
      × HasNumber "to" to × HasNumber "count" count
  HasValues (Take file number ticket) = HasText "file" file.now × HasNumber "number" number
      × HasText "ticket" ticket.now
  HasValues (Left file) = HasText "file" file.now
  HasValues Audit = Unit {0}
  HasValues (Scan file capacity) = HasText "file" file.now × HasNumber "capacity" capacity
  HasValues (Deliver file id) = HasText "file" file.now × HasText "id" id.now
  HasValues (DeliverAll file folder forgets) = HasText "file" file.now × HasText "all" folder.now × HasFlag "forget" forgets
  HasValues (Forget file id) = HasText "file" file.now × HasText "id" id.now
  HasValues (Export file id) = HasText "file" file.now × HasText "id" id.now
  HasValues (ExportAll file folder) = HasText "file" file.now × HasText "all" folder.now
  HasValues (Import file capacity) = HasText "file" file.now × HasNumber "capacity" capacity
  HasValues (Held file id is_long) = HasText "file" file.now × (first_of (codes "id") found ≡ option_map (λ id. id.now) id)
      × HasFlag "long" is_long
  HasValues (Copy file id page side scheme) = HasText "file" file.now × HasText "id" id.now × HasSide side
      × (1 ≤ page) × (page ≤ 16) × HasNumber "page" page × HasText "scheme" (scheme_name scheme)
  HasValues World = Unit {0}

  -- the other files of a line were found too
  abbrev pub HasFiles : CommandLine → Type 0
  HasFiles line = MatchOption (all_of (codes "images") found) (named_images line ≡ []) (λ names. named_images line ≡ names)
      × (saved_path line ≡ if saves_output line.command then first_of (codes "to") found else None)

  -- the command of a name, with its values
  abbrev pub IsCommandOf : List ℕ → Command → Type 0
  IsCommandOf name command = (name ≡ command_name command) × HasValues command

-- `words` with its defaults and no other files
abbrev pub IsDefault : CommandLine → Type 0
IsDefault line = (line.command ≡ Words 10 Ascii) × (named_images line ≡ []) × (saved_path line ≡ None)

-- the line of the command that the parser met, with what it found for it; or `words` with its defaults, where it met none
abbrev pub IsLineMet : Option (List ℕ × List Row) → CommandLine → Type 0
IsLineMet met line = MatchOption met (IsDefault line) (λ m. IsCommandOf m.1 m.0 line.command × HasFiles m.1 line)

-- the line of these words, by the table of `Listed`
abbrev pub IsLineOf : List (List ℕ) → CommandLine → Type 0
IsLineOf words line = IsLineMet (subcommand_of the_app words) line

-- a command that the parser met, with what it found for it
abbrev pub met_rows : Option (Bor (List ℕ) × Bor ArgMatches) → Option (List ℕ × List Row)
met_rows = option_map (λ met. (met.0.now, rows_of (found_of met.1.now)))

-- it ends with one of these, unless memory is refused
abbrev pub EndsAmong : List ℕ → LineFault → Type 0
EndsAmong statuses (Line text status) = list_any (λ s. s == status) statuses ≡ true
EndsAmong statuses Memory = Unit {0}

-- such a line where no status is listed, and else a fault that ends with one of those that are
abbrev pub Gives : List ℕ → (CommandLine → Type 0) → Result CommandLine LineFault → Type 0
Gives statuses IsLine result = MatchResult result (λ line. (statuses ≡ []) × IsLine line) (EndsAmong statuses)
