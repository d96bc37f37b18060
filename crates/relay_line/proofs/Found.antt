-- What a getter says, by the rows that contracts see.
use Rattle.std.specs.Prelude.{◌≡◌, ℕ, List, option_map}
use Rattle.clap.specs.Matches.{first_value, matched_of, raw_values}
use Rattle.clap.specs.{Walk.all_of, Walk.first_of, Walk.rows_of, declared.parser.matches.Found.Found}
use Rattle.clap.proofs.WalkLemmas.{first_value-rows, raw_values-rows}

pub first_value_of : (f : Found) (id : List ℕ) → first_value f id ≡ first_of id (rows_of f)
first_value_of = first_value-rows

pub all_values_of : (f : Found) (id : List ℕ) → option_map raw_values (matched_of f id) ≡ all_of id (rows_of f)
all_values_of = raw_values-rows
