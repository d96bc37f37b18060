-- What is known of the options of a line that keeps the rules.
use Rattle.std.proofs.Common.{◌≡◌, ◌≤◌, ◌&&◌, ℕ, Bool, List, [], ◌∷◌, Option, Some, None, true, false, refl, is_some, option_map, unwrap_or, slice_get, find, arith, ◌<◌, ◌^◌, ◌∙◌, ◌||◌, ◌≢◌, ap, sym, subst, codes, map, if◌then◌else◌}
use Rattle.std.proofs.lemmas.Bool.{false_from_ne_true, lt-ltb}
use Rattle.std.proofs.lemmas.Slice.Eq.{bytes_eq-Decides}
use Rattle.std.specs.Prelude.{MatchOption, nat_le, nat_lt}
use Rattle.std.specs.Str.Parse.{IsNumeral, digits_value, without_leading_plus}
use Rattle.std.specs.Option.{option_map_or}
use Rattle.std.specs.Prelude.{option_and_then}
use Rattle.std.specs.List.{list_all}
use Rattle.std.specs.Borrow.{Bor}
use Rattle.std.specs.Str.{bytes_eq}
use Rattle.clap.specs.Words.{Row, first_of}
use Rattle.clap.proofs.WalkLemmas.{both}
use Rattle.clap.proofs.ValueTestLemmas.{Accepts-accepts, accepts-Accepts}
use Rattle.clap.specs.Values.{IsUnsignedIn}
use Rattle.clap.specs.ValueTests.{is_numeral, is_unsigned_in}
use Rattle.clap.specs.declared.builder.value_parser.ValueParser.TheVariants as vp
use Rattle.dm_encodation.specs.declared.scheme.Scheme.{Scheme}
use Rattle.dm_encodation.specs.declared.scheme.Scheme.TheVariants as schemes
use Rattle.relay_command.specs.Schemes.{scheme_name}
use Rattle.relay_line.specs.Line.{number_at}
use Rattle.relay_line.specs.Rules.{is_among, is_set, meets, takes}
use Rattle.relay_line.specs.declared.options.Values.{Values}
use Rattle.relay_line.specs.declared.options.Values.TheVariants.{Number, Truth}

some_same : {a b : List ℕ} → Some a ≡ Some b → a ≡ b
some_same same = ap (λ (o : Option (List ℕ)). unwrap_or o []) same

-- an option that takes each of its values takes the first one
first_in : (values : Values) (row : Option Row) (text : List ℕ) → Some text ≡ option_and_then (λ (r : Row). slice_get r.values 0) row
    → list_all (takes values) (unwrap_or (option_map (λ (r : Row). r.values) row) []) ≡ true → takes values text ≡ true
first_in values None text first kept = cc
first_in values (Some row) text first kept = at row.values first kept
  where
    at : (texts : List (List ℕ)) → Some text ≡ slice_get texts 0 → list_all (takes values) texts ≡ true → takes values text ≡ true
    at [] first kept = cc
    at (t ∷ texts) first kept = subst (λ x. takes values x ≡ true) (sym (some_same first)) (both _ _ kept).0

pub first_taken : (found : List Row) (name : List ℕ) (values : Values) (text : List ℕ) → Some text ≡ first_of name found
    → meets found name values ≡ true → takes values text ≡ true
first_taken found name values text first kept = first_in values (find (λ row. bytes_eq row.id name) found) text first (both _ _ kept).1

-- the number that a text writes
abbrev written : List ℕ → ℕ
written text = digits_value 10 (without_leading_plus text)

module _ (found : List Row) (name text : List ℕ) (least most : ℕ)
    (taken : (first_of name found ≡ Some text) × (takes (Number least most) text ≡ true)) where
  within : IsUnsignedIn least most text
  within = accepts-Accepts false (vp.Unsigned least most) text taken.1

  pub number_read : (n : ℕ) → n ≡ written text → (least ≤ n) × (n ≤ most) × (number_at found name ≡ Some n)
  number_read n is = rw is (within.2, within.3, ap (option_map written) taken.0)

  pub number_fits : most < 65536 → (IsNumeral 10 (without_leading_plus text) × (written text < 65536) → ⊥) → ⊥
  number_fits small refused =
      let below : written text < 65536 = omega (arith, within.3, small) in
      refused (within.0, below)

-- a text that is read as a number of 16 bits passes where the number is in the range, and no other does
pub in_range : (text : List ℕ) (least most n : ℕ) → IsNumeral 10 (without_leading_plus text) × (written text < 65536) → n ≡ written text
    → (nat_le least n && nat_le n most) ≡ is_unsigned_in least most text
in_range text least most n read is =
    let below : written text < 2 ^ 64 = omega (arith, read.1) in
    let numeral : is_numeral (without_leading_plus text) ≡ true = (both _ _ (Accepts-accepts false (vp.Unsigned 0 (2 ^ 64)) text
    (read.0, below, omega arith, omega (arith, below)))).0 in
    let fits : nat_lt (written text) (2 ^ 64) ≡ true = lt-ltb (written text) (2 ^ 64) below in
    rw (numeral, fits) (ap (λ (k : ℕ). nat_le least k && nat_le k most) is)

pub out_of_range : (text : List ℕ) (least most : ℕ) → most < 65536
    → (IsNumeral 10 (without_leading_plus text) × (written text < 65536) → ⊥) → is_unsigned_in least most text ≡ false
out_of_range text least most small refused = false_from_ne_true _ (λ passes.
    let within = accepts-Accepts false (vp.Unsigned least most) text passes in
    let below : written text < 65536 = omega (arith, within.3, small) in
    refused (within.0, below))

-- the names of encodations
abbrev scheme_names : List (List ℕ)
scheme_names = map scheme_name (schemes.Ascii ∷ schemes.C40 ∷ schemes.Text ∷ schemes.Base256 ∷ [])

scheme_listed : (scheme : Scheme) → is_among scheme_names (scheme_name scheme) ≡ true
scheme_listed schemes.Ascii = refl
scheme_listed schemes.C40 = refl
scheme_listed schemes.Text = refl
scheme_listed schemes.Base256 = refl

pub no_scheme : (text : List ℕ) → ((scheme : Scheme) → text ≢ scheme_name scheme) → is_among scheme_names text ≡ false
no_scheme text none = rw (differs schemes.Ascii, differs schemes.C40, differs schemes.Text, differs schemes.Base256) refl
  where
    differs : (scheme : Scheme) → bytes_eq (scheme_name scheme) text ≡ false
    differs scheme = false_from_ne_true _ (λ same. none scheme (sym ((bytes_eq-Decides _ _).0 same)))

-- a name of an encodation, and no other, is taken
pub scheme_taken : (text : List ℕ) (known : Option Scheme)
    → MatchOption known ((scheme : Scheme) → text ≢ scheme_name scheme) (λ scheme. text ≡ scheme_name scheme)
    → is_some known ≡ is_among scheme_names text
scheme_taken text None none = sym (no_scheme text none)
scheme_taken text (Some scheme) is = sym (subst (λ t. is_among scheme_names t ≡ true) (sym is) (scheme_listed scheme))

-- a flag stands on the line, or does not
pub flag_read : (found : List Row) (name : List ℕ) → meets found name Truth ≡ true → (is_there : Bool) → is_there ≡ is_set found name
    → first_of name found ≡ Some (if is_there then codes "true" else codes "false")
flag_read found name kept is_there is =
    at (first_of name found) is_there (both _ _ kept).0 (λ text first. first_taken found name Truth text first kept) is
  where
    at : (first : Option (List ℕ)) (b : Bool) → is_some first ≡ true → ((text : List ℕ) → Some text ≡ first → takes Truth text ≡ true)
        → b ≡ option_map_or (λ text. bytes_eq text (codes "true")) first false
        → first ≡ Some (if b then codes "true" else codes "false")
    at None b there taken is = cc
    at (Some text) true there taken is = ap (λ (t : List ℕ). Some t) ((bytes_eq-Decides _ _).0 (sym is))
    at (Some text) false there taken is = ap (λ (t : List ℕ). Some t) ((bytes_eq-Decides _ _).0
        (subst (λ b. (b || bytes_eq text (codes "false")) ≡ true) (sym is) (taken text refl)))

regroup : (a b c : Bool) → (a && (b && c)) ≡ ((a && b) && c)
regroup true b c = refl
regroup false b c = refl

-- the values that an argument has, or none
pub values_of : (given : Option (Bor (List (Bor (List ℕ))))) (none : Bor (List (Bor (List ℕ)))) (all : Option (List (List ℕ)))
    → none.now ≡ [] → option_map (λ (s : Bor (List (Bor (List ℕ)))). map (λ v. v.now) s.now) given ≡ all
    → map (λ v. v.now) (unwrap_or given none).now ≡ unwrap_or all []
values_of None none all empty is = ap (map (λ v. v.now)) empty ∙ ap (λ (o : Option (List (List ℕ))). unwrap_or o []) is
values_of (Some s) none all empty is = ap (λ (o : Option (List (List ℕ))). unwrap_or o []) is

-- an argument, by whether it may lack a value and by those that it has
pub kept_with : (after middle before lack : Bool) (values : Values) (texts all : List (List ℕ)) → texts ≡ all
    → middle ≡ (before && lack) → after ≡ (middle && list_all (takes values) texts) → after ≡ (before && (lack && list_all (takes values) all))
kept_with after middle before lack values texts all is first last =
    rw is at last ∙ (ap (λ b. b && list_all (takes values) all) first ∙ sym (regroup before lack _))
