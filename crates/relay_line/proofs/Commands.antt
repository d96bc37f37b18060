-- What the options of a command are, where its line keeps the rules.
use Rattle.std.proofs.Common.{◌≡◌, ◌≢◌, ◌&&◌, ◌∙◌, ℕ, Bool, List, [], ◌∷◌, Option, Some, None, ap, option_map, true, false, not, refl, subst, sym, zero, suc, if◌then◌else◌, codes, slice_get}
use Rattle.std.specs.List.{list_all}
use Rattle.std.specs.Option.{option_map_or}
use Rattle.std.specs.Str.{bytes_eq}
use Rattle.std.proofs.lemmas.Bool.{true≢false, false≢true, false_from_ne_true}
use Rattle.std.proofs.lemmas.Slice.Eq.{bytes_eq-Decides}
use Rattle.clap.specs.Words.{Row}
use Rattle.clap.proofs.WalkLemmas.{both}
use Rattle.relay_line.specs.Listed.{Argument, Listing, doing_commands, the_commands}
use Rattle.relay_line.specs.Rules.{arguments_in, has_form, is_kept, keeps_all, keeps_rules, keeps_rules_in}

-- both tests pass
pub all_of_two : (a b : Bool) → a ≡ true → b ≡ true → (a && b) ≡ true
all_of_two a b first second = rw first second

-- the argument at a place, if there is one, is kept
abbrev pub KeptAt : List Row → Option Argument → Type 0
KeptAt found None = Unit {0}
KeptAt found (Some argument) = is_kept found argument ≡ true

module _ (found : List Row) where
  all_kept : (arguments : List Argument) → list_all (is_kept found) arguments ≡ true → (k : ℕ) → KeptAt found (slice_get arguments k)
  all_kept [] kept k = tt
  all_kept (a ∷ rest) kept zero = (both _ _ kept).0
  all_kept (a ∷ rest) kept (suc k) = all_kept rest (both _ _ kept).1 k

  -- each argument of a command, and its form
  pub rules_kept : (table : List Listing) (command name : List ℕ) (arguments : List Argument) → name ≡ command
      → keeps_rules_in table name found ≡ true → arguments_in table command ≡ Some arguments
      → ((k : ℕ) → KeptAt found (slice_get arguments k)) × (has_form found command ≡ true)
  unfolding keeps_rules_in
  rules_kept table command name arguments is kept listed =
      let parts = both _ _ (subst (λ o. option_map_or (λ a. keeps_all found a command) o false ≡ true) listed
      (subst (λ n. keeps_rules_in table n found ≡ true) is kept)) in
      (all_kept arguments parts.0, parts.1)

-- a print without a number of labels has a side
pub other_one : (one other : Bool) → (if one then not other else other) ≡ true → other ≡ false → one ≡ true
other_one true other form missing = refl
other_one false other form missing = absurd (true≢false (sym form ∙ missing))

-- a give without a count has both ends of a range
pub both_ends : (first last count : Bool) → (not (if first then not last else last) && (if first then not count else count)) ≡ true
    → count ≡ false → (first ≡ true) × (last ≡ true)
both_ends true true count form missing = (refl, refl)
both_ends true false count form missing = absurd (false≢true form)
both_ends false true count form missing = absurd (false≢true form)
both_ends false false count form missing = absurd (true≢false (sym form ∙ missing))

-- a line without an ID is of all documents
pub one_or_all : (id all to : Bool) → ((if id then not all else all) && not (all && to)) ≡ true → id ≡ false → all ≡ true
one_or_all true all to form missing = absurd (true≢false missing)
one_or_all false true to form missing = refl
one_or_all false false to form missing = absurd (false≢true form)

pub differs : {name : List ℕ} (known : List ℕ) → name ≢ known → bytes_eq known name ≡ false
differs known other = false_from_ne_true _ (λ same. other (sym ((bytes_eq-Decides _ _).0 same)))

-- a table of one command has no other
pub last_one : (name : List ℕ) (found : List Row) (last : Listing) → keeps_rules_in (last ∷ []) name found ≡ true → name ≡ last.name
unfolding keeps_rules_in
last_one name found last kept = at (bytes_eq last.name name) refl kept
  where
    at : (is_this : Bool) → bytes_eq last.name name ≡ is_this
        → option_map_or (λ a. keeps_all found a name) (option_map (λ (l : Listing). l.arguments) (if is_this then Some last else None)) false ≡ true
        → name ≡ last.name
    at true is met = sym ((bytes_eq-Decides _ _).0 is)
    at false is met = absurd (false≢true met)

-- a command that keeps its rules does something, unless it only shows something
pub is_doing : (name : List ℕ) (found : List Row) → keeps_rules name found ≡ true → name ≢ codes "explain" → name ≢ codes "version"
    → keeps_rules_in doing_commands name found ≡ true
unfolding keeps_rules_in the_commands doing_commands
is_doing name found kept no_explain no_version = rw (differs (codes "explain") no_explain, differs (codes "version") no_version) at kept

-- A line keeps the rules if and only if nothing is told of its arguments.
pub rules_told : (table : List Listing) (name : List ℕ) (found : List Row) (arguments : List Argument) (is_silent : Bool)
    → table ≡ the_commands → Some arguments ≡ arguments_in table name → is_silent ≡ keeps_all found arguments name
    → keeps_rules name found ≡ is_silent
unfolding keeps_rules_in
rules_told table name found arguments is_silent same listed told =
    subst (λ (t : List Listing). keeps_rules_in t name found ≡ is_silent) same
    (ap (λ (o : Option (List Argument)). option_map_or (λ a. keeps_all found a name) o false) (sym listed) ∙ sym told)

pub not_listed : (table : List Listing) (name : List ℕ) (found : List Row) → table ≡ the_commands → None ≡ arguments_in table name
    → keeps_rules name found ≡ false
unfolding keeps_rules_in
not_listed table name found same listed = subst (λ (t : List Listing). keeps_rules_in t name found ≡ false) same
    (ap (λ (o : Option (List Argument)). option_map_or (λ a. keeps_all found a name) o false) (sym listed))
