-- The last numbers, so many, that follow one another and are free, and the most that do.
use Rattle.std.proofs.Common.{◌≡◌, ◌≤◌, ◌<◌, ◌+◌, ◌-◌, ◌⊎◌, inl, inr, ℕ, Bool, true, false, Option, None, Some, List, [], ◌∷◌, refl, arith}
use Rattle.std.specs.Prelude.{MatchOption, if◌then◌else◌, nat_le}
use Rattle.std.specs.Option.{option_or}
use Rattle.std.proofs.lemmas.Bool.{and_from, and_parts, cases_lt, le-leb, leb-false, leb-true, or_cases, or_left, or_right}
use Rattle.dm_print_ledger.specs.declared.range.Range.{Range}
use Rattle.dm_print_ledger.specs.Ledger.{are_ranges, size_of}
use Rattle.dm_print_ledger.specs.Verdicts.{AreFree, AreLastFree, IsLongest, LastIsFound, are_free, covers, last_of, longest}
use Rattle.dm_print_ledger.proofs.{LedgerLaws.ranges_are_numbers, RangeTests.free_after, RangeTests.free_here}
use Rattle.dm_print_ledger.proofs.Rising.{IsRange, RiseFrom, range_fact, range_test, rise_fact}

covers_from : (one range : Range) → one.first ≤ range.first → range.last ≤ one.last → covers one range ≡ true
covers_from one range low high = and_from _ _ (le-leb _ _ low) (le-leb _ _ high)

-- ---- the longest

most_of : (ranges : List Range) (range : Range) → are_free ranges range ≡ true → size_of range ≤ longest ranges
most_of [] range free = absurd (cc)
most_of (one ∷ ranges) range free = elim (or_cases (covers one range) (are_free ranges range) free) [
  | inl here ↦
      let parts = and_parts _ _ here in
      let low : one.first ≤ range.first = leb-true _ _ parts.0 in
      let high : range.last ≤ one.last = leb-true _ _ parts.1 in
      omega arith
  | inr after ↦ let rest : size_of range ≤ longest ranges = most_of ranges range after in omega arith
]

some_of : (from : ℕ) (ranges : List Range) → RiseFrom from ranges →
    (longest ranges ≡ 0) ⊎ ((range : Range) × IsRange range × AreFree ranges range × (size_of range ≡ longest ranges))
some_of from [] rise = inl refl
some_of from (one ∷ ranges) rise = elim (cases_lt (size_of one) (longest ranges)) [
  | inl less ↦ elim (some_of (one.last + 2) ranges rise.2) [
    | inl none ↦ absurd (omega arith)
    | inr found ↦ inr (
      found.0,
      found.1,
      (λ n there. free_after one ranges n (found.2 n there)),
      let same : size_of found.0 ≡ longest ranges = found.3 in omega arith,
    )
  ]
  | inr most ↦ inr (one, rise.1, (λ n there. free_here one ranges n there), omega arith)
]

-- ---- the last

-- numbers as a test of ranges has them
record IsLast (from : ℕ) (ranges : List Range) (count : ℕ) (range : Range) : Type 0 where
  is : IsRange range
  size : size_of range ≡ count
  free : are_free ranges range ≡ true
  low : from ≤ range.first
  last : (other : Range) → IsRange other → size_of other ≡ count → are_free ranges other ≡ true → other.last ≤ range.last

-- the ones at the end of the first range, where no later one has as many
here_or_none : (from : ℕ) (one : Range) (ranges : List Range) (count : ℕ) → RiseFrom from (one ∷ ranges) → 1 ≤ count →
    longest ranges < count → (fits : Bool) → nat_le count (size_of one) ≡ fits →
    MatchOption (if fits then Some (record { first = one.last + 1 - count; last = one.last }) else None)
    (longest (one ∷ ranges) < count) (IsLast from (one ∷ ranges) count)
here_or_none from one ranges count rise some less true e =
    let fits : count ≤ size_of one = leb-true _ _ e in
    let low : from ≤ one.first = rise.0 in
    let some : one.first ≤ one.last = rise.1.not_empty in
    let most : one.last ≤ 64515 = rise.1.within in
    let end : Range = record { first = one.last + 1 - count; last = one.last } in
    record {
      is = record { not_empty = omega arith; within = most };
      size = omega arith;
      free = or_left (covers one end) (are_free ranges end) (covers_from one end (omega arith) (omega arith));
      low = omega arith;
      last = λ other own size free. elim (or_cases (covers one other) (are_free ranges other) free) [
        | inl here ↦ leb-true _ _ (and_parts _ _ here).1
        | inr after ↦ let rest : size_of other ≤ longest ranges = most_of ranges other after in absurd (omega arith)
      ];
    }
here_or_none from one ranges count rise some less false e =
    let short : size_of one < count = leb-false _ _ e in omega arith

later_or_here : (from : ℕ) (one : Range) (ranges : List Range) (count : ℕ) → RiseFrom from (one ∷ ranges) → 1 ≤ count →
    (found : Option Range) → MatchOption found (longest ranges < count) (IsLast (one.last + 2) ranges count) →
    MatchOption (option_or found (if nat_le count (size_of one)
    then Some (record { first = one.last + 1 - count; last = one.last }) else None))
    (longest (one ∷ ranges) < count) (IsLast from (one ∷ ranges) count)
later_or_here from one ranges count rise some None less =
    here_or_none from one ranges count rise some less (nat_le count (size_of one)) refl
later_or_here from one ranges count rise some (Some range) last =
    let low : from ≤ one.first = rise.0 in
    let full : one.first ≤ one.last = rise.1.not_empty in
    let next : one.last + 2 ≤ range.first = last.low in
    record {
      is = last.is;
      size = last.size;
      free = or_right (covers one range) (are_free ranges range) last.free;
      low = omega arith;
      last = λ other own size free. elim (or_cases (covers one other) (are_free ranges other) free) [
        | inl here ↦
            let ends : other.last ≤ one.last = leb-true _ _ (and_parts _ _ here).1 in
            let first : range.first ≤ range.last = last.is.not_empty in
            omega arith
        | inr after ↦ last.last other own size after
      ];
    }

last_is : (from : ℕ) (ranges : List Range) (count : ℕ) → RiseFrom from ranges → 1 ≤ count →
    MatchOption (last_of ranges count) (longest ranges < count) (IsLast from ranges count)
last_is from [] count rise some = some
last_is from (one ∷ ranges) count rise some =
    later_or_here from one ranges count rise some (last_of ranges count) (last_is (one.last + 2) ranges count rise.2 some)

as_free : (ranges : List Range) (count : ℕ) → are_ranges ranges ≡ true → (found : Option Range) →
    MatchOption found (longest ranges < count) (IsLast 0 ranges count) →
    MatchOption found (longest ranges < count) (AreLastFree ranges count)
as_free ranges count rises None less = less
as_free ranges count rises (Some range) is = record {
  is = range_test range is.is;
  size = is.size;
  free = (ranges_are_numbers ranges range rises (range_test range is.is)).all.0 is.free;
  last = λ other own size free. is.last other (range_fact other own) size
      ((ranges_are_numbers ranges other rises own).all.1 free);
}

longest_is : (ranges : List Range) → are_ranges ranges ≡ true → IsLongest ranges (longest ranges)
longest_is ranges rises = record {
  bound = λ range own free. most_of ranges range ((ranges_are_numbers ranges range rises own).all.1 free);
  there = elim (some_of 0 ranges (rise_fact 0 ranges rises)) [
    | inl none ↦ inl none
    | inr found ↦ inr (found.0, range_test found.0 found.1, found.2, found.3)
  ];
}

pub last_is_found : LastIsFound
last_is_found ranges count rises some = (
  longest_is ranges rises,
  as_free ranges count rises (last_of ranges count) (last_is 0 ranges count (rise_fact 0 ranges rises) some),
)
