-- What a ledger is after a print, a ticket given, and a ticket taken.
use Rattle.std.proofs.Common.{◌≡◌, ◌≤◌, ◌<◌, ℕ, true, false, List, [], ◌∷◌, length, refl, ap, ◌∙◌, arith}
use Rattle.dm_print_ledger.proofs.Rising.{RiseFrom, range_fact, rise_fact, rise_test, givers_fact}
use Rattle.dm_print_ledger.specs.declared.{range.Range.Range, giver.Giver.Giver}
use Rattle.dm_print_ledger.specs.Ledger.{is_range, are_ranges, givers_with, are_givers, is_sound}
use Rattle.dm_print_ledger.specs.Verdicts.{without, union_with_range, are_free, has_free, single, least, RangesAreNumbers, FirstIsLeast, GiversAreNoted, opening}
use Rattle.dm_print_ledger.proofs.{RangeLaws.least_free, InLaws.meets_no, InLaws.puts_in, InLaws.meets_none}
use Rattle.dm_print_ledger.proofs.OutLaws.{covered_free, covers_all, takes_out, first_out}
use Rattle.dm_print_ledger.proofs.GiverLaws.{notes}

-- tests and changes of lists are of numbers
pub ranges_are_numbers : RangesAreNumbers
ranges_are_numbers ranges range rises is =
    let rise = rise_fact 0 ranges rises in
    let fact = range_fact range is in
    record {
      all = (covered_free ranges range, covers_all ranges range (are_free ranges range) rise fact refl);
      none = (meets_none ranges range, meets_no ranges range (has_free ranges range) rise fact refl);
      taken_out = λ free. takes_out ranges range rise fact.not_empty free;
      put_in = λ none. puts_in ranges range rise fact (meets_none ranges range none);
    }

pub first_is_least : FirstIsLeast
first_is_least one ranges rises = least_free one ranges (rise_fact 0 (one ∷ ranges) rises)

pub givers_are_noted : GiversAreNoted
givers_are_noted givers last rise = notes givers last.number last.serial (givers_fact 0 givers rise)

-- the least number is free
least_covered : (one : Range) (ranges : List Range) → RiseFrom 0 (one ∷ ranges) →
    are_free (one ∷ ranges) (single one.first) ≡ true
least_covered one ranges rise = grind arith

-- without it the ranges rise
pub used_rise : (ranges : List Range) → RiseFrom 0 ranges → 0 < length ranges →
    RiseFrom 0 (without ranges (single (least ranges)))
used_rise [] rise some = absurd (omega arith)
used_rise (one ∷ ranges) rise some =
    let same : one.first ≤ one.first = omega arith in
    rise_fact 0 _ (takes_out (one ∷ ranges) (single one.first) rise same (least_covered one ranges rise)).ranges

-- and are no more
pub used_few : (ranges : List Range) → RiseFrom 0 ranges → 0 < length ranges →
    length (without ranges (single (least ranges))) ≤ length ranges
used_few [] rise some = absurd (omega arith)
used_few (one ∷ ranges) rise some = first_out one ranges rise

-- the ranges that a print, a range given and a ticket taken leave
pub used_ranges : (ranges new : List Range) → are_ranges ranges ≡ true → 0 < length ranges →
    new ≡ without ranges (single (least ranges)) → are_ranges new ≡ true
used_ranges ranges new rises some e =
    ap are_ranges e ∙ rise_test 0 _ (used_rise ranges (rise_fact 0 ranges rises) some)

pub given_ranges : (ranges new : List Range) (range : Range) → are_ranges ranges ≡ true → is_range range ≡ true →
    are_free ranges range ≡ true → new ≡ without ranges range → are_ranges new ≡ true
given_ranges ranges new range rises is free e =
    ap are_ranges e ∙ ((ranges_are_numbers ranges range rises is).taken_out free).ranges

pub taken_ranges : (ranges new : List Range) (range : Range) → are_ranges ranges ≡ true → is_range range ≡ true →
    has_free ranges range ≡ false → new ≡ union_with_range ranges range → are_ranges new ≡ true
taken_ranges ranges new range rises is none e =
    ap are_ranges e ∙ ((ranges_are_numbers ranges range rises is).put_in none).ranges

-- the givers that a ticket taken leaves
pub noted_givers : (givers new : List Giver) (last : Giver) → are_givers givers ≡ true →
    new ≡ givers_with givers last → are_givers new ≡ true
noted_givers givers new last rise e = ap are_givers e ∙ (givers_are_noted givers last rise).givers

-- an opening ledger is sound
pub opening_sound : (number : ℕ) (range : Range) → is_range range ≡ true → is_sound (opening number range) ≡ true
opening_sound number range is = grind arith
