-- Ranges and one more.
use Rattle.std.proofs.Common.{◌≡◌, ◌+◌, ◌≤◌, ◌<◌, ◌⊎◌, ℕ, Bool, true, false, ◌||◌, List, [], ◌∷◌, refl, sym, ◌∙◌, ap, subst, inl, inr, arith, min, max}
use Rattle.std.specs.List.{list_any}
use Rattle.std.specs.Prelude.{nat_lt, if◌then◌else◌}
use Rattle.std.proofs.lemmas.Bool.{leb-true, lt-ltb, le-ltb, or_left, or_right, or_cases, or_parts, and_parts, cond-true, cond-false, cases_lt}
use Rattle.dm_print_ledger.specs.Verdicts.{AreTaken, PutsIn, meets, hull, union_with_range}
use Rattle.dm_print_ledger.proofs.Rising.{IsRange, RiseFrom, rise_test}
use Rattle.dm_print_ledger.specs.declared.range.Range.{Range}
use Rattle.dm_print_ledger.specs.Ledger.{is_in, is_free, free_count, size_of}
use Rattle.dm_print_ledger.proofs.RangeTests.{same_tests, both, in_from, at_least, at_most, not_in_below, not_in_above, free_here, free_after, not_free}
use Rattle.dm_print_ledger.proofs.RangeLaws.{below_not_free, rise_lower}

-- some range has a number of one
abbrev pub any_meets : List Range → Range → Bool
any_meets ranges range = list_any (λ one. meets one range) ranges

-- ranges with a number in common meet
meets_from : (one range : Range) (n : ℕ) → is_in one n ≡ true → is_in range n ≡ true → meets one range ≡ true
meets_from one range n a b = grind arith

-- the greater of the first numbers is in both of two that meet
common : (one range : Range) → IsRange one → range.first ≤ range.last → meets one range ≡ true →
    (n : ℕ) × (is_in one n ≡ true) × (is_in range n ≡ true)
common one range is some h =
    let a : one.first ≤ range.last = leb-true _ _ (and_parts _ _ h).0 in
    let b : range.first ≤ one.last = leb-true _ _ (and_parts _ _ h).1 in
    let c : one.first ≤ one.last = is.not_empty in (
      max one.first range.first,
      in_from one (max one.first range.first) (omega arith) (omega arith),
      in_from range
          (max one.first range.first) (omega arith) (omega arith),
    )

-- some number of the range is free
abbrev pub HasFree : List Range → Range → Type 0
HasFree ranges range = (number : ℕ) × (is_in range number ≡ true) × (is_free ranges number ≡ true)

-- where a range meets one of them, some number of it is free
pub meets_free : (from : ℕ) (ranges : List Range) (range : Range) → RiseFrom from ranges → range.first ≤ range.last →
    any_meets ranges range ≡ true → HasFree ranges range
meets_free from [] range rise some h = both _ h refl
meets_free from (one ∷ ranges) range rise some h =
    elim (or_cases (meets one range) (any_meets ranges range) h) [
      | inl here ↦
          let n : (n : ℕ) × (is_in one n ≡ true) × (is_in range n ≡ true) = common one range rise.1 some here in
          (n.0, n.2, free_here one ranges n.0 n.1)
      | inr later ↦
          let n : HasFree ranges range = meets_free (one.last + 2) ranges range rise.2 some later in
          (n.0, n.1, free_after one ranges n.0 n.2)
    ]

-- where it meets none, no number of it is free
pub meets_none : (ranges : List Range) (range : Range) → any_meets ranges range ≡ false → AreTaken ranges range
meets_none [] range h = λ n inside. refl
meets_none (one ∷ ranges) range h = λ n inside.
    let parts : (meets one range ≡ false) × (any_meets ranges range ≡ false) =
    or_parts (meets one range) (any_meets ranges range) h in
    let here : is_in one n ≡ false = outside one range n parts.0 inside in
    not_free one ranges n here (meets_none ranges range parts.1 n inside)
  where
    outside : (one range : Range) (n : ℕ) → meets one range ≡ false → is_in range n ≡ true → is_in one n ≡ false
    outside one range n h inside =
        elim (cases_lt n one.first) [
          | inl low ↦ not_in_below one n low
          | inr a ↦ elim (cases_lt one.last n) [
            | inl high ↦ not_in_above one n high
            | inr b ↦ both (meets one range) (meets_from one range n (in_from one n a b) inside) h
          ]
        ]

-- a range of which no number is free has none in the rest
taken_after : (one : Range) (ranges : List Range) (range : Range) → AreTaken (one ∷ ranges) range →
    AreTaken ranges range
taken_after one ranges range taken = λ n inside. (or_parts (is_in one n) (is_free ranges n) (taken n inside)).1

-- a range of which no number is free has none in the first range
taken_apart : (one : Range) (ranges : List Range) (range : Range) (n : ℕ) → AreTaken (one ∷ ranges) range →
    is_in range n ≡ true →
    is_in one n ≡ false
taken_apart one ranges range n taken inside = (or_parts (is_in one n) (is_free ranges n) (taken n inside)).0

-- the ranges rise, and have the old numbers and the range's
record IsIn (from : ℕ) (old : List Range) (range : Range) (new : List Range) : Type 0 where
  pub rises : RiseFrom from new
  pub free : (n : ℕ) → is_free new n ≡ (is_in range n || is_free old n)
  pub count : AreTaken old range → free_count new ≡ free_count old + size_of range

-- a test in the place of two
or_both : (h a b c : Bool) → h ≡ (a || b) → (h || c) ≡ (a || (b || c))
or_both h true b c e = ap (λ x. x || c) e
or_both h false b c e = ap (λ x. x || c) e

-- wholly below: the first range stays
past_in : (from : ℕ) (one : Range) (ranges new : List Range) (range : Range) → RiseFrom from (one ∷ ranges) →
    IsIn (one.last + 2) ranges range new → IsIn from (one ∷ ranges) range (one ∷ new)
past_in from one ranges new range rise inner = grind arith

-- wholly above: it stands before all
before_in : (from : ℕ) (one : Range) (ranges : List Range) (range : Range) → RiseFrom from (one ∷ ranges) →
    from ≤ range.first →
    IsRange range → range.last + 1 < one.first → IsIn from (one ∷ ranges) range (range ∷ one ∷ ranges)
before_in from one ranges range rise low is apart = grind arith

-- the numbers of two that touch or meet
hull_in : (one range : Range) (n : ℕ) → one.first ≤ one.last → range.first ≤ range.last → range.first ≤ one.last + 1 →
    one.first ≤ range.last + 1 →
    is_in (hull one range) n ≡ (is_in range n || is_in one n)
hull_in one range n some some' near near' =
    search (arith, same_tests, min, at_least, max, at_most, cases_lt, or_right, in_from, or_left, or_cases)

-- no number of the union with a first range that touches is free in the rest
hull_taken : (from : ℕ) (one : Range) (ranges : List Range) (range : Range) → RiseFrom from (one ∷ ranges) →
    range.first ≤ range.last →
    range.first ≤ one.last + 1 → one.first ≤ range.last + 1 →
    AreTaken (one ∷ ranges) range → AreTaken ranges (hull one range)
hull_taken from one ranges range rise some near near' taken = λ n inside.
    elim (or_cases (is_in range n) (is_in one n) (sym (hull_in one range n rise.1.not_empty some near near') ∙
    inside)) [
      | inl here ↦ taken_after one ranges range taken n here
      | inr here ↦
          let m : n ≤ one.last = at_most one n here in
          below_not_free (one.last + 2) ranges n rise.2 (omega arith)
    ]

-- two that touch and do not meet
apart : (one : Range) (ranges : List Range) (range : Range) → one.first ≤ one.last → range.first ≤ range.last →
    AreTaken (one ∷ ranges) range →
    (one.last < range.first) ⊎ (range.last < one.first)
apart one ranges range some some' taken =
    elim (cases_lt one.last range.first) [
      | inl a ↦ inl a
      | inr a ↦ elim (cases_lt range.last one.first) [
        | inl b ↦ inr b
        | inr b ↦
            let m : ℕ = max one.first range.first in
            both (is_in one m) (in_from one m (let l : one.first ≤ max one.first range.first = omega arith in l)
            (let l : max one.first range.first ≤ one.last = omega arith in l))
            (taken_apart one ranges range m taken
            (in_from range m (let l : range.first ≤ max one.first range.first = omega arith in l)
            (let l : max one.first range.first ≤ range.last = omega arith in l)))
      ]
    ]

-- where the range touches the first one, their union goes on
touch_in : (from : ℕ) (one : Range) (ranges new : List Range) (range : Range) → RiseFrom from (one ∷ ranges) →
    range.first ≤ range.last → range.first ≤ one.last + 1 → one.first ≤ range.last + 1 →
    IsIn from ranges (hull one range) new → IsIn from (one ∷ ranges) range new
touch_in from one ranges new range rise some near near' inner = record {
  rises = inner.rises;
  free = λ n. inner.free n ∙ or_both (is_in (hull one range) n) (is_in range n) (is_in one n) (is_free ranges n)
      (hull_in one range n rise.1.not_empty some near near');
  count = λ taken.
      let is : one.first ≤ one.last = rise.1.not_empty in
      let c : free_count new ≡ free_count ranges + size_of (hull one range) = inner.count
      (hull_taken from one ranges range rise some near near' taken) in
      let two : size_of (hull one range) ≡ size_of one + size_of range =
      elim (apart one ranges range is some taken) [ inl a ↦ omega arith | inr b ↦ omega arith ] in
      omega arith;
}

-- the ranges with one more
in_from_all : (from : ℕ) (ranges : List Range) (range : Range) → RiseFrom from ranges → from ≤ range.first →
    IsRange range →
    IsIn from ranges range (union_with_range ranges range)
in_from_all from [] range rise low is = grind arith
in_from_all from (one ∷ ranges) range rise low is =
    let some : range.first ≤ range.last = is.not_empty in
    let most : range.last ≤ 64515 = is.within in
    let some' : one.first ≤ one.last = rise.1.not_empty in
    let most' : one.last ≤ 64515 = rise.1.within in
    let low' : from ≤ one.first = rise.0 in
    let rest : List Range = if nat_lt (range.last + 1) one.first then range ∷ one ∷ ranges else union_with_range ranges
    (hull one range) in
    let P : List Range → Type 0 = λ new. IsIn from (one ∷ ranges) range new in
    elim (cases_lt (one.last + 1) range.first) [
      | inl past ↦
          let l : one.last + 2 ≤ range.first = omega arith in
          subst P (sym (cond-true (nat_lt (one.last + 1) range.first) (one ∷ union_with_range ranges range) rest
          (lt-ltb _ _ past)))
          (past_in from one ranges (union_with_range ranges range) range rise
          (in_from_all (one.last + 2) ranges range rise.2 l is))
      | inr near ↦
          subst P (sym (cond-false (nat_lt (one.last + 1) range.first) (one ∷ union_with_range ranges range) rest
          (le-ltb _ _ near)))
          (elim (cases_lt (range.last + 1) one.first) [
            | inl before ↦
                subst P (sym (cond-true (nat_lt (range.last + 1) one.first)
                (range ∷ one ∷ ranges) (union_with_range ranges (hull one range))
                (lt-ltb _ _ before)))
                (before_in from one ranges range rise low is before)
            | inr near' ↦
                let h : IsRange (hull one range) = record { not_empty = omega arith; within = omega arith } in
                let l : from ≤ min one.first range.first = omega arith in
                let rest_rises : RiseFrom from ranges = rise_lower (one.last + 2) from ranges (omega arith) rise.2 in
                subst P (sym (cond-false (nat_lt (range.last + 1) one.first)
                (range ∷ one ∷ ranges) (union_with_range ranges (hull one range))
                (le-ltb _ _ near')))
                (touch_in from one ranges (union_with_range ranges (hull one range)) range rise some near near'
                (in_from_all from ranges (hull one range) rest_rises l h))
          ])
    ]

-- the union has the numbers of the range beside the free ones
pub puts_in : (ranges : List Range) (range : Range) → RiseFrom 0 ranges → IsRange range → AreTaken ranges range →
    PutsIn ranges range (union_with_range ranges range)
puts_in ranges range rise is taken =
    let inner : IsIn 0 ranges range (union_with_range ranges range) = in_from_all 0 ranges range rise (omega arith)
    is in
    record {
      ranges = rise_test 0 (union_with_range ranges range) inner.rises;
      free = inner.free;
      count = inner.count taken;
    }

-- where no number of a range is free, no range meets it
pub meets_no : (ranges : List Range) (range : Range) (test : Bool) → RiseFrom 0 ranges → IsRange range →
    test ≡ any_meets ranges range → AreTaken ranges range → test ≡ false
meets_no ranges range true rise is e taken = grind (arith, meets_free, both)
meets_no ranges range false rise is e taken = refl
