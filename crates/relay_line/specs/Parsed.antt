-- What the parser reads of a table of commands.
use Rattle.std.specs.Prelude.{ℕ, List, [], ◌∷◌, Some, true, map, length, ◌==◌, codes}
use Rattle.clap.specs.Lexer.{usize_max}
use Rattle.clap.specs.Words.{App, Rule, Shape, new_rule}
use Rattle.clap.specs.Simple.{new_shape}
use Rattle.clap.specs.declared.builder.action.ArgAction.TheVariants.{SetTrue}
use Rattle.relay_line.specs.Listed.{Argument, Listing, Standing, flag, optional, preset, required, the_commands, one_word, any_words}
use Rattle.relay_line.specs.declared.{options.Kind.Kind, options.Row.Row, options.Listed.Listed}
use Rattle.relay_line.specs.declared.options.Kind.TheVariants as kinds

-- the table of the code, without its pointers
abbrev pub standing_of : Kind → Standing
standing_of kinds.Optional = optional
standing_of kinds.Required = required
standing_of (kinds.Default text) = preset text.now
standing_of kinds.Flag = flag
standing_of kinds.Word = one_word
standing_of kinds.Words = any_words

abbrev pub argument_of : Row → Argument
argument_of row = record { name = row.0.now; standing = standing_of row.1; values = row.2 }

abbrev pub listing_of : Listed → Listing
listing_of listed = record { name = listed.name.now; arguments = map argument_of listed.rows.now }

-- an argument with a value, which is any text for the parser
abbrev pub valued : List ℕ → Rule
valued name = record (new_rule name) { value_names = 1 }

abbrev pub rule_as : List ℕ → Standing → Rule
rule_as name optional = record (valued name) { long = Some name }
rule_as name required = record (valued name) { long = Some name }
rule_as name (preset text) = record (valued name) { long = Some name; defaults = text ∷ [] }
rule_as name flag = record (new_rule name) { long = Some name; action = Some SetTrue }
rule_as name one_word = valued name
rule_as name any_words = record (valued name) { range = Some (record { start_inclusive = 0; end_inclusive = usize_max }) }

abbrev pub rule_of_argument : Argument → Rule
rule_of_argument argument = rule_as argument.name argument.standing

abbrev pub shape_of_listing : Listing → Shape
shape_of_listing listing = record (new_shape listing.name) { rules = map rule_of_argument listing.arguments }

-- the program that has these commands
abbrev pub app_of_table : List Listing → App
app_of_table table = record {
  top = record (new_shape (codes "relay")) { is_leaf = length table == 0; has_version = true };
  subs = map shape_of_listing table;
}

unfoldable pub the_app : App
the_app = app_of_table the_commands
