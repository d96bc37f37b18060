-- The arguments of each command, and what their values have to be. `COMMANDS` of options.rt is compared with this table.
use Prim.Native.String.{String}
use Rattle.std.specs.Prelude.{ℕ, List, [], ◌∷◌, codes, take}
use Rattle.relay_line.specs.declared.options.Values.{Values}
use Rattle.relay_line.specs.declared.options.Values.TheVariants.{Text, Path, NoDash, Number, Scheme, Truth}

-- How an argument stands on a line: as an option that may be left out, that a line has to have, or that has a value
-- where it is left out; as a flag; as one word or none; as any number of words.
pub data Standing : Type 0 where
  optional : Standing
  required : Standing
  preset : List ℕ → Standing
  flag : Standing
  one_word : Standing
  any_words : Standing

pub record Argument : Type 0 where
  pub name : List ℕ
  pub standing : Standing
  pub values : Values

-- a command with its arguments
pub record Listing : Type 0 where
  pub name : List ℕ
  pub arguments : List Argument

abbrev argument : String → Standing → Values → Argument
argument name standing values = record { name = codes name; standing = standing; values = values }

abbrev default : String → Standing
default text = preset (codes text)

abbrev command : String → List Argument → Listing
command name arguments = record { name = codes name; arguments = arguments }

abbrev file : Argument
file = argument "file" required Path

abbrev u16 : Values
u16 = Number 0 65535

abbrev side : Values
side = Number 10 132

abbrev scheme : Argument
scheme = argument "scheme" (default "ascii") Scheme

abbrev own_number : Argument
own_number = argument "number" (default "0") u16

abbrev capacity : Argument
capacity = argument "capacity" (default "64") u16

abbrev id : Argument
id = argument "id" required Text

abbrev any_id : Argument
any_id = argument "id" optional Text

-- all commands
unfoldable pub the_commands : List Listing
the_commands =
    command "words" (argument "side" (default "10") side ∷ scheme ∷ [])
    ∷ command "draw" (argument "side" (default "10") side ∷ scheme ∷ argument "plain" flag Truth ∷ [])
    ∷ command "read" (argument "images" any_words Path ∷ [])
    ∷ command "ledger" (file ∷ argument "first" required u16 ∷ argument "last" required u16 ∷ own_number ∷ [])
    ∷ command "plan" (scheme ∷ [])
    ∷ command "print" (file ∷ argument "side" optional side ∷ argument "labels" optional (Number 2 16) ∷ scheme
    ∷ own_number ∷ [])
    ∷ command "give" (file ∷ argument "number" required u16 ∷ argument "to" required u16
    ∷ argument "first" optional u16 ∷ argument "last" optional u16 ∷ argument "count" optional (Number 1 64516) ∷ [])
    ∷ command "ticket" (argument "ticket" required Text ∷ [])
    ∷ command "take" (file ∷ argument "number" required u16 ∷ argument "ticket" required Text ∷ [])
    ∷ command "left" (file ∷ [])
    ∷ command "audit" (argument "images" any_words NoDash ∷ [])
    ∷ command "scan" (file ∷ capacity ∷ argument "images" any_words Path ∷ [])
    ∷ command "deliver" (file ∷ any_id ∷ argument "to" optional NoDash ∷ argument "all" optional NoDash
    ∷ argument "forget" flag Truth ∷ [])
    ∷ command "forget" (file ∷ id ∷ [])
    ∷ command "export" (file ∷ any_id ∷ argument "to" optional NoDash ∷ argument "all" optional NoDash ∷ [])
    ∷ command "import" (file ∷ capacity ∷ argument "images" any_words Path ∷ [])
    ∷ command "held" (file ∷ any_id ∷ argument "long" flag Truth ∷ [])
    ∷ command "copy" (file ∷ id ∷ argument "page" required (Number 1 16) ∷ argument "side" required side ∷ scheme ∷ [])
    ∷ command "world" []
    ∷ command "explain" (argument "name" one_word Text ∷ [])
    ∷ command "version" []
    ∷ []

-- those that do something: all but `explain` and `version`
unfoldable pub doing_commands : List Listing
doing_commands = take 19 the_commands
