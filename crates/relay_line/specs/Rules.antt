-- The rules that the parser leaves to this crate, and with which status a line ends that gives no command.
use Rattle.std.specs.Prelude.{ℕ, ◌&&◌, ◌||◌, List, [], ◌∷◌, codes, map, Bool, true, false, not, Option, Some, None, is_some, unwrap_or, option_map, slice_get, if◌then◌else◌, find}
use Rattle.std.specs.{List.list_all, List.list_any, Option.option_map_or, Str.bytes_eq}
use Rattle.clap.specs.ValueTests.{is_unsigned_in}
use Rattle.clap.specs.Words.{Row, all_of, first_of, fault_of, subcommand_of}
use Rattle.clap.specs.declared.error.kind.ErrorKind.{ErrorKind}
use Rattle.clap.specs.declared.error.kind.ErrorKind.TheVariants as kind
use Rattle.dm_encodation.specs.declared.scheme.Scheme.TheVariants.{Ascii, C40, Base256}
use Rattle.dm_encodation.specs.declared.scheme.Scheme.TheVariants as schemes
use Rattle.relay_command.specs.Schemes.{scheme_name}
use Rattle.relay_line.specs.Listed.{Argument, Listing, Standing, optional, the_commands, one_word, any_words}
use Rattle.relay_line.specs.Parsed.{the_app}
use Rattle.relay_line.specs.declared.options.Values.{Values}
use Rattle.relay_line.specs.declared.options.Values.TheVariants.{Text, Path, NoDash, Number, Scheme, Truth}

abbrev pub is_among : List (List ℕ) → List ℕ → Bool
is_among names text = list_any (λ name. bytes_eq name text) names

-- what an argument takes as a value
abbrev pub takes : Values → List ℕ → Bool
takes Text text = true
takes Path text = not (bytes_eq text [])
takes NoDash text = not (bytes_eq text []) && not (bytes_eq text (codes "-"))
takes (Number least most) text = is_unsigned_in least most text
takes Scheme text = is_among (map scheme_name (Ascii ∷ C40 ∷ schemes.Text ∷ Base256 ∷ [])) text
takes Truth text = bytes_eq text (codes "true") || bytes_eq text (codes "false")

-- only these may have no value
abbrev pub may_lack : Standing → Bool
may_lack optional = true
may_lack one_word = true
may_lack any_words = true
may_lack other = false

-- what the parser found for a command
module _ (found : List Row) where
  abbrev pub has : List ℕ → Bool
  has name = is_some (first_of name found)

  -- The flag stands on the line: for one that does not, the parser writes "false".
  abbrev pub is_set : List ℕ → Bool
  is_set name = option_map_or (λ text. bytes_eq text (codes "true")) (first_of name found) false

  -- an argument that has no value where it may, and else takes each value that it has
  abbrev pub is_kept : Argument → Bool
  is_kept argument = (may_lack argument.standing || has argument.name)
      && list_all (takes argument.values) (unwrap_or (all_of argument.name found) [])

  -- the option has a value, and takes each that it has
  abbrev pub meets : List ℕ → Values → Bool
  meets name values = has name && list_all (takes values) (unwrap_or (all_of name found) [])

  abbrev pub has_one : List ℕ → List ℕ → Bool
  has_one one other = if has one then not (has other) else has other

  abbrev pub has_all_or_id : Bool
  has_all_or_id = has_one (codes "id") (codes "all") && not (has (codes "all") && has (codes "to"))

  -- the options that a command wants together, or one of
  abbrev pub has_form : List ℕ → Bool
  has_form command =
      if bytes_eq command (codes "print") then has_one (codes "side") (codes "labels")
      else if bytes_eq command (codes "give") then not (has_one (codes "first") (codes "last")) && has_one (codes "first") (codes "count")
      else if bytes_eq command (codes "deliver") then has_all_or_id && (has (codes "all") || not (is_set (codes "forget")))
      else if bytes_eq command (codes "export") then has_all_or_id
      else true

  abbrev pub keeps_all : List Argument → List ℕ → Bool
  keeps_all arguments command = list_all is_kept arguments && has_form command

-- a table of commands: the arguments of that of a name, and whether what was found for it breaks no rule of these
module _ (table : List Listing) (command : List ℕ) where
  abbrev pub arguments_in : Option (List Argument)
  arguments_in = option_map (λ listing. listing.arguments) (find (λ listing. bytes_eq listing.name command) table)

  unfoldable pub keeps_rules_in : List Row → Bool
  keeps_rules_in found = option_map_or (λ arguments. keeps_all found arguments command) arguments_in false

abbrev pub keeps_rules : List ℕ → List Row → Bool
keeps_rules command found = keeps_rules_in the_commands command found

-- the status of a line that breaks a rule
abbrev pub endings_kept : Bool → List ℕ
endings_kept kept = if kept then [] else 2 ∷ []

-- The statuses with which a line of this command may end where it gives none: none where it keeps the rules. `explain`
-- ends with 2 if no refusal has the name.
unfoldable pub endings_at : List ℕ → List Row → List ℕ
endings_at command found =
    if bytes_eq command (codes "version") then 0 ∷ []
    else if bytes_eq command (codes "explain") then (if has found (codes "name") then 0 ∷ 2 ∷ [] else 0 ∷ [])
    else endings_kept (keeps_rules command found)

-- The same, by the first word and the command that the parser met: a line has no word, or the first is its command.
abbrev pub endings_met : Option (List ℕ) → Option (List ℕ × List Row) → List ℕ
endings_met None None = []
endings_met (Some word) (Some met) = if bytes_eq word met.0 then endings_at met.0 met.1 else 2 ∷ []
endings_met word met = 2 ∷ []

-- what the parser shows as it was asked, and what it refuses
abbrev pub kind_status : ErrorKind → ℕ
kind_status kind.DisplayHelp = 0
kind_status kind.DisplayVersion = 0
kind_status other = 2

abbrev pub endings_by : List ErrorKind → List ℕ → List ℕ
endings_by [] own = own
endings_by (k ∷ kinds) own = map kind_status (k ∷ kinds)

-- the statuses with which these words may end: none where they give a command
unfoldable pub endings : List (List ℕ) → List ℕ
endings words =
    endings_by (fault_of the_app words) (endings_met (slice_get words 1) (subcommand_of the_app words))
