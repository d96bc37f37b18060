-- Ranges without the numbers of one.
use Rattle.std.proofs.Common.{◌≡◌, ◌+◌, ◌-◌, ◌≤◌, ◌<◌, ◌⊎◌, ℕ, Bool, true, false, ◌&&◌, not, List, [], ◌∷◌, ◌++◌, refl, sym, ◌∙◌, ap, subst, inl, inr, arith, length, min, max}
use Rattle.std.specs.{List.list_any, Prelude.nat_lt}
use Rattle.std.proofs.lemmas.Bool.{leb-true, le-leb, or_cases, or_parts, and_parts, and_from, le-ltb, lt-ltb, cond-true, cond-false, cases_lt}
use Rattle.dm_print_ledger.specs.Verdicts.{AreFree, TakesOut, covers, span, without}
use Rattle.dm_print_ledger.proofs.Rising.{IsRange, RiseFrom, rise_test}
use Rattle.dm_print_ledger.specs.declared.range.Range.{Range}
use Rattle.dm_print_ledger.specs.Ledger.{is_in, is_free, free_count, size_of}
use Rattle.dm_print_ledger.proofs.RangeTests.{same_tests, both, in_from, at_least, at_most, not_in_below, not_in_above, free_here, free_after, free_cases, not_free, still_free, was_free, is_outside}
use Rattle.dm_print_ledger.proofs.RangeLaws.{below_not_free, rise_lower}

-- the range from one number on and below another
abbrev upto : ℕ → ℕ → Range
upto from to = record { first = from; last = to - 1 }

-- the range of two numbers
abbrev range_of : ℕ → ℕ → Range
range_of first last = record { first = first; last = last }

-- some range has all numbers of one
abbrev pub any_covers : List Range → Range → Bool
any_covers ranges range = list_any (λ one. covers one range) ranges

-- a range that covers begins no later
covers_low : (one range : Range) → covers one range ≡ true → one.first ≤ range.first
covers_low one range h = leb-true _ _ (and_parts _ _ h).0

-- a range that covers ends no earlier
covers_high : (one range : Range) → covers one range ≡ true → range.last ≤ one.last
covers_high one range h = leb-true _ _ (and_parts _ _ h).1

-- a range that begins no later and ends no earlier covers
pub covers_from : (one range : Range) → one.first ≤ range.first → range.last ≤ one.last → covers one range ≡ true
covers_from one range low high = and_from _ _ (le-leb one.first range.first low) (le-leb range.last one.last high)

-- where none covers, neither the first nor one of the rest does
any_parts : (one : Range) (ranges : List Range) (range : Range) → any_covers (one ∷ ranges) range ≡ false →
    (covers one range ≡ false) × (any_covers ranges range ≡ false)
any_parts one ranges range h = or_parts (covers one range) (any_covers ranges range) h

-- all numbers of a range that is covered are free
pub covered_free : (ranges : List Range) (range : Range) → any_covers ranges range ≡ true → AreFree ranges range
covered_free [] range h = λ n inside. both _ h refl
covered_free (one ∷ ranges) range h = λ n inside.
    elim (or_cases (covers one range) (any_covers ranges range) h) [
      | inl here ↦
          let a : one.first ≤ range.first = covers_low one range here in
          let b : range.last ≤ one.last = covers_high one range here in
          let low : range.first ≤ n = at_least range n inside in
          let high : n ≤ range.last = at_most range n inside in
          free_here one ranges n (in_from one n (omega arith) (omega arith))
      | inr later ↦ free_after one ranges n (covered_free ranges range later n inside)
    ]

-- some number of the range is not free
abbrev pub HasTaken : List Range → Range → Type 0
HasTaken ranges range = (number : ℕ) × (is_in range number ≡ true) × (is_free ranges number ≡ false)

-- some number of a range that is not covered is not free
pub gap : (from : ℕ) (ranges : List Range) (range : Range) → RiseFrom from ranges → range.first ≤ range.last →
    any_covers ranges range ≡ false → HasTaken ranges range
gap from [] range rise some h = (range.first, in_from range range.first (omega arith) some, refl)
gap from (one ∷ ranges) range rise some h =
    let least : one.first ≤ one.last = rise.1.not_empty in
    elim (cases_lt range.first one.first) [
      | inl low ↦ (
        range.first,
        in_from range range.first (omega arith) some,
        not_free one ranges range.first (not_in_below one range.first low)
            (below_not_free (one.last + 2) ranges range.first rise.2 (omega arith)),
      )
      | inr high ↦ elim (cases_lt one.last range.last) [
        | inr inside ↦ both (covers one range) (covers_from one range high inside) (any_parts one ranges range h).0
        | inl over ↦ elim (cases_lt one.last range.first) [
          | inr begun ↦ (
            one.last + 1,
            in_from range (one.last + 1) (omega arith) (omega arith),
            not_free one ranges (one.last + 1) (not_in_above one (one.last + 1) (omega arith))
                (below_not_free (one.last + 2) ranges (one.last + 1) rise.2 (omega arith)),
          )
          | inl past ↦
              let found : HasTaken ranges range = gap (one.last + 2) ranges range rise.2 some
              (any_parts one ranges range h).1 in
              let low : range.first ≤ found.0 = at_least range found.0 found.1 in
              (found.0, found.1, not_free one ranges found.0 (not_in_above one found.0 (omega arith)) found.2)
        ]
      ]
    ]

-- ---- spans

span_none : (from to : ℕ) → to ≤ from → span from to ≡ []
span_none from to least = cond-false (nat_lt from to) (upto from to ∷ []) [] (le-ltb from to least)

span_some : (from to : ℕ) → from < to → span from to ≡ upto from to ∷ []
span_some from to less = cond-true (nat_lt from to) (upto from to ∷ []) [] (lt-ltb from to less)

span_to : (from to : ℕ) (rest : List Range) (n : ℕ) → is_free (span from to ++ rest) n ≡ true →
    ((from ≤ n) × (n < to)) ⊎ (is_free rest n ≡ true)
span_to from to rest n = grind arith

span_here : (from to : ℕ) (rest : List Range) (n : ℕ) → from ≤ n → n < to → is_free (span from to ++ rest) n ≡ true
span_here from to rest n low high = grind arith

span_rest : (from to : ℕ) (rest : List Range) (n : ℕ) → is_free rest n ≡ true → is_free (span from to ++ rest) n ≡ true
span_rest from to rest n free = grind arith

span_rises : (low from to : ℕ) (rest : List Range) → low ≤ from → to ≤ 64516 → RiseFrom (to + 1) rest →
    RiseFrom low rest → RiseFrom low (span from to ++ rest)
span_rises low from to rest above within after others = grind arith

span_count : (from to : ℕ) (rest : List Range) → free_count (span from to ++ rest) ≡ to - from + free_count rest
span_count from to rest = grind arith

span_length : (from to : ℕ) (rest : List Range) → length (span from to ++ rest) ≤ length rest + 1
span_length from to rest = grind arith

-- ---- the ranges without one

-- the spans of the first range stand before the rest
spans_first : (one : Range) (ranges : List Range) (range : Range) →
    without (one ∷ ranges) range
    ≡ span one.first (min (one.last + 1) range.first)
    ++ (span (max one.first (range.last + 1)) (one.last + 1) ++ without ranges range)
spans_first one ranges range = grind arith

without_free : (ranges : List Range) (range : Range) (n : ℕ) → range.first ≤ range.last →
    is_free (without ranges range) n ≡ (is_free ranges n && not (is_in range n))
without_free [] range n some = refl
without_free (one ∷ ranges) range n some =
    search (
      arith,
      not,
      same_tests,
      span_to,
      min,
      max,
      spans_first,
      still_free,
      free_here,
      in_from,
      not_in_below,
      not_in_above,
      free_after,
      was_free,
      is_outside,
      free_cases,
      at_least,
      at_most,
      cases_lt,
      span_here,
      span_rest,
      both,
      without_free ranges range n some,
    )

without_rises : (from : ℕ) (ranges : List Range) (range : Range) → RiseFrom from ranges → range.first ≤ range.last →
    RiseFrom from (without ranges range)
without_rises from [] range rise some = tt
without_rises from (one ∷ ranges) range rise some =
    let least : from ≤ one.first = rise.0 in
    let full : one.first ≤ one.last = rise.1.not_empty in
    let most : one.last ≤ 64515 = rise.1.within in
    let rest : RiseFrom (one.last + 2) (without ranges range) =
    without_rises (one.last + 2) ranges range rise.2 some in
    let after : RiseFrom (one.last + 1 + 1) (without ranges range) =
    rise_lower (one.last + 2) (one.last + 1 + 1) _ (omega arith) rest in
    let second : (low : ℕ) → low ≤ max one.first (range.last + 1) → low ≤ one.last + 2 →
    RiseFrom low (span (max one.first (range.last + 1)) (one.last + 1) ++ without ranges range) =
    λ low a b. span_rises low _ _ _ a (omega arith) after (rise_lower (one.last + 2) low _ b rest) in
    subst (λ (all : List Range). RiseFrom from all) (sym (spans_first one ranges range))
    (span_rises from one.first (min (one.last + 1) range.first) _ least (omega arith)
    (second (min (one.last + 1) range.first + 1) (omega arith) (omega arith))
    (second from (omega arith) (omega arith)))

-- ranges above it stay
untouched : (from : ℕ) (ranges : List Range) (range : Range) → RiseFrom from ranges → range.last < from →
    range.first ≤ range.last → without ranges range ≡ ranges
untouched from [] range rise low some = refl
untouched from (one ∷ ranges) range rise low some =
    let least : from ≤ one.first = rise.0 in
    let full : one.first ≤ one.last = rise.1.not_empty in
    let a : span one.first (min (one.last + 1) range.first) ≡ [] = span_none _ _ (omega arith) in
    let first : max one.first (range.last + 1) ≡ one.first = omega arith in
    let b : span (max one.first (range.last + 1)) (one.last + 1) ≡ one ∷ [] =
    ap (λ (k : ℕ). span k (one.last + 1)) first ∙ span_some one.first (one.last + 1) (omega arith) ∙
    ap (λ (k : ℕ). range_of one.first k ∷ []) (let e : one.last + 1 - 1 ≡ one.last = omega arith in e) in
    let c : without ranges range ≡ ranges = untouched (one.last + 2) ranges range rise.2 (omega arith) some in
    cc

-- a range that is covered begins no earlier than the ranges
covered_after : (from : ℕ) (ranges : List Range) (range : Range) → RiseFrom from ranges → range.first ≤ range.last →
    any_covers ranges range ≡ true → from ≤ range.first
covered_after from ranges range rise some h = elim (cases_lt range.first from) [
  | inl low ↦ both _ (covered_free ranges range h range.first (in_from range range.first (omega arith) some))
      (below_not_free from ranges range.first rise low)
  | inr high ↦ high
]

without_count : (from : ℕ) (ranges : List Range) (range : Range) → RiseFrom from ranges → range.first ≤ range.last →
    any_covers ranges range ≡ true → free_count (without ranges range) + size_of range ≡ free_count ranges
without_count from [] range rise some h = both _ h refl
without_count from (one ∷ ranges) range rise some h =
    let full : one.first ≤ one.last = rise.1.not_empty in
    let a : free_count (without (one ∷ ranges) range)
    ≡ min (one.last + 1) range.first - one.first
    + free_count (span (max one.first (range.last + 1)) (one.last + 1) ++ without ranges range) =
    ap free_count (spans_first one ranges range) ∙ span_count _ _ _ in
    let b : free_count (span (max one.first (range.last + 1)) (one.last + 1) ++ without ranges range)
    ≡ one.last + 1 - max one.first (range.last + 1) + free_count (without ranges range) = span_count _ _ _ in
    elim (or_cases (covers one range) (any_covers ranges range) h) [
      | inl here ↦
          let low : one.first ≤ range.first = covers_low one range here in
          let high : range.last ≤ one.last = covers_high one range here in
          let same : without ranges range ≡ ranges =
          untouched (one.last + 2) ranges range rise.2 (omega arith) some in
          let c : free_count (without ranges range) ≡ free_count ranges = ap free_count same in
          omega arith
      | inr later ↦
          let past : one.last + 2 ≤ range.first = covered_after (one.last + 2) ranges range rise.2 some later in
          let c : free_count (without ranges range) + size_of range ≡ free_count ranges =
          without_count (one.last + 2) ranges range rise.2 some later in
          omega arith
    ]

-- the range is taken out
pub takes_out : (ranges : List Range) (range : Range) → RiseFrom 0 ranges → range.first ≤ range.last →
    any_covers ranges range ≡ true → TakesOut ranges range (without ranges range)
takes_out ranges range rise some h = grind (arith, rise_test, without_rises, without_free, without_count)

-- without the first number there are no more ranges
pub first_out : (one : Range) (ranges : List Range) → RiseFrom 0 (one ∷ ranges) →
    (let first : Range = record { first = one.first; last = one.first } in
    length (without (one ∷ ranges) first) ≤ length (one ∷ ranges))
first_out one ranges rise = grind (arith, min, span_none, untouched, max, spans_first, span_length)

-- where all numbers of a range are free, a range covers it
pub covers_all : (ranges : List Range) (range : Range) (test : Bool) → RiseFrom 0 ranges → IsRange range →
    test ≡ any_covers ranges range → AreFree ranges range → test ≡ true
covers_all ranges range true rise is e free = refl
covers_all ranges range false rise is e free =
    let found = gap 0 ranges range rise is.not_empty (sym e) in
    both _ (free found.0 found.1) found.2
