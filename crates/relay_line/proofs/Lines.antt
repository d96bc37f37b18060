-- What the parser met on a line, and the line of it.
use Rattle.std.proofs.Common.{◌≡◌, ◌∙◌, ◌∷◌, ℕ, List, [], Option, Some, None, Result, Ok, Err, IfOk, IfErr, true, refl, sym, ap, ap₂, is_some, option_map, slice_get, unwrap_or, subst}
use Rattle.std.proofs.lemmas.Bool.{true≢false, false≢true}
use Rattle.std.specs.Borrow.{Bor}
use Rattle.std.specs.Box.{box_value}
use Rattle.std.specs.Prelude.{Box}
use Rattle.clap.specs.Words.{App, HasKind, HasMatchesOf, Row, fault_of, found_of, is_simple, is_simple_and_free, kind_of, rows_of, subcommand_of, subcommand_rows_of}
use Rattle.clap.specs.declared.error.Error.{Error}
use Rattle.clap.specs.declared.error.kind.ErrorKind.TheVariants.{OutOfMemory}
use Rattle.clap.specs.Simple.{subcommand_rows}
use Rattle.clap.specs.declared.parser.matches.ArgMatches.{ArgMatches}
use Rattle.clap.specs.declared.parser.matches.ArgMatches.TheViews.{out-SubCommand}
use Rattle.clap.specs.declared.parser.matches.SubCommand.{SubCommand}
use Rattle.relay_line.proofs.Endings.{ends_by_kind}
use Rattle.relay_line.specs.Line.{EndsAmong, Gives, IsLineMet, met_rows}
use Rattle.relay_line.specs.Listed.{the_commands}
use Rattle.relay_line.specs.Parsed.{the_app}
use Rattle.relay_line.specs.declared.line.CommandLine.{CommandLine}
use Rattle.relay_line.specs.Rules.{endings, endings_by, endings_met, kind_status}
use Rattle.relay_line.specs.declared.fault.LineFault.{LineFault}
use Rattle.relay_line.specs.declared.fault.LineFault.TheVariants.{Memory}

-- the program is one of those whose parse clap's contract gives
pub app_is_simple : is_simple the_app ≡ true
unfolding the_app the_commands
app_is_simple = refl

pub app_is_free : is_simple_and_free the_app ≡ true
unfolding the_app the_commands
app_is_free = refl

some_text : (a b : List ℕ) → Some a ≡ Some b → a ≡ b
some_text a b same = ap (λ (o : Option (List ℕ)). unwrap_or o []) same

some_rows : (a b : List Row) → Some a ≡ Some b → a ≡ b
some_rows a b same = ap (λ (o : Option (List Row)). unwrap_or o []) same

-- what `subcommand` gives is what the parser met
pub met_is : {Z : Type 0} (met : Option (Bor (List ℕ) × Bor ArgMatches)) (sub : Option (Box SubCommand Z))
    → is_some met ≡ is_some sub
    → option_map (λ (p : Bor (List ℕ) × Bor ArgMatches). p.0.now) met ≡ option_map (λ (b : Box SubCommand Z). (out-SubCommand (box_value b)).name.now) sub
    → option_map (λ (p : Bor (List ℕ) × Bor ArgMatches). rows_of (found_of p.1.now)) met
    ≡ option_map (λ (p : List ℕ × List Row). p.1) (subcommand_rows sub)
    → met_rows met ≡ subcommand_rows sub
met_is None None both name rows = refl
met_is None (Some b) both name rows = absurd (false≢true both)
met_is (Some p) None both name rows = absurd (true≢false both)
met_is (Some p) (Some b) both name rows =
    ap₂ (λ (n : List ℕ) (r : List Row). Some (n, r)) (some_text _ _ name) (some_rows _ _ rows)

-- what a parse of the program says, by the table
module _ (app : App) (is : app ≡ the_app) (words : List (List ℕ)) where
  pub refused_ends : (e : Error) (fault : LineFault) → (is_simple_and_free app ≡ true → HasKind (fault_of app words) e)
      → EndsAmong (kind_status (kind_of e) ∷ []) fault → (kind_of e ≡ OutOfMemory → fault ≡ Memory) → EndsAmong (endings words) fault
  unfolding endings
  refused_ends e fault has ends memory = ends_by_kind e fault (fault_of the_app words) _
      (subst (λ a. is_simple_and_free a ≡ true → HasKind (fault_of a words) e) is has app_is_free) ends memory

  pub met_by_table : (m : ArgMatches) → HasMatchesOf app words m → subcommand_rows_of m ≡ subcommand_of the_app words
  met_by_table m matches = (subst (λ a. HasMatchesOf a words m) is matches app_is_simple).1

  pub taken_endings : (word : Option (List ℕ)) (met : Option (List ℕ × List Row)) → (is_simple_and_free app ≡ true → fault_of app words ≡ [])
      → word ≡ slice_get words 1 → met ≡ subcommand_of the_app words → endings words ≡ endings_met word met
  unfolding endings
  taken_endings word met none first second =
      ap (λ kinds. endings_by kinds (endings_met (slice_get words 1) (subcommand_of the_app words)))
      (subst (λ a. is_simple_and_free a ≡ true → fault_of a words ≡ []) is none app_is_free)
      ∙ ap₂ endings_met (sym first) (sym second)

-- the same line or fault, by other statuses and another command that are the same
pub gives_same : (before after : List ℕ) (met same : Option (List ℕ × List Row)) (result : Result CommandLine LineFault)
    → after ≡ before → met ≡ same → Gives before (IsLineMet met) result → Gives after (IsLineMet same) result
gives_same before after met same result statuses is given =
    subst (λ s. Gives s (IsLineMet same) result) (sym statuses) (subst (λ m. Gives before (IsLineMet m) result) is given)

-- its parts
pub given_parts : (statuses : List ℕ) (IsLine : CommandLine → Type 0) (result : Result CommandLine LineFault) → Gives statuses IsLine result
    → IfOk result (λ _. statuses ≡ []) × IfOk result IsLine × IfErr result (EndsAmong statuses)
given_parts statuses IsLine (Ok line) given = (given.0, given.1, tt)
given_parts statuses IsLine (Err fault) given = (tt, tt, given)
