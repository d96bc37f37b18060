-- Ranges that rise and do not touch: their least number, and how many they have.
use Rattle.std.proofs.Common.{◌≡◌, ◌+◌, ◌-◌, ◌≤◌, ◌<◌, ℕ, true, false, List, [], ◌∷◌, refl, arith}
use Rattle.std.proofs.lemmas.Bool.{or_from, cases_lt}
use Rattle.dm_print_ledger.specs.{Verdicts.IsLeastFree, declared.range.Range.Range}
use Rattle.dm_print_ledger.proofs.{Rising.RiseFrom, Rising.rise_fact, RangeTests.both, RangeTests.not_in_below}
use Rattle.dm_print_ledger.specs.Ledger.{rise_from, is_free, free_count}

-- no number below is free
pub below_not_free : (from : ℕ) (ranges : List Range) (n : ℕ) → RiseFrom from ranges → n < from →
    is_free ranges n ≡ false
below_not_free from [] n rise low = refl
below_not_free from (one ∷ ranges) n rise low =
    let least : from ≤ one.first = rise.0 in
    let some : one.first ≤ one.last = rise.1.not_empty in
    or_from _ _ (not_in_below one n (omega arith)) (below_not_free (one.last + 2) ranges n rise.2 (omega arith))

-- ranges that rise from a number rise from a lower one
pub rise_lower : (from low : ℕ) (ranges : List Range) → low ≤ from → RiseFrom from ranges → RiseFrom low ranges
rise_lower from low [] less rise = tt
rise_lower from low (one ∷ ranges) less rise = grind arith

-- the first number of the first range is free
pub first_is_free : (from : ℕ) (one : Range) (ranges : List Range) → RiseFrom from (one ∷ ranges) →
    is_free (one ∷ ranges) one.first ≡ true
first_is_free from one ranges rise = grind arith

-- no number before it is
pub from_first : (from : ℕ) (one : Range) (ranges : List Range) (n : ℕ) → RiseFrom from (one ∷ ranges) →
    is_free (one ∷ ranges) n ≡ true → one.first ≤ n
from_first from one ranges n rise free = grind (arith, cases_lt, both, below_not_free)

-- it is the least
pub least_free : (one : Range) (ranges : List Range) → RiseFrom 0 (one ∷ ranges) → IsLeastFree (one ∷ ranges) one.first
least_free one ranges rise = search (arith, first_is_free, from_first)

-- no more numbers are free than there are
pub count_bound : (from : ℕ) (ranges : List Range) → RiseFrom from ranges → free_count ranges ≤ 64516 - from
count_bound from [] rise = omega arith
count_bound from (one ∷ ranges) rise =
    let least : from ≤ one.first = rise.0 in
    let some : one.first ≤ one.last = rise.1.not_empty in
    let most : one.last ≤ 64515 = rise.1.within in
    let rest : free_count ranges ≤ 64516 - (one.last + 2) = count_bound (one.last + 2) ranges rise.2 in
    omega arith

-- at most 64,516 numbers are free
pub all_bound : (ranges : List Range) → rise_from 0 ranges ≡ true → free_count ranges ≤ 64516
all_bound ranges rise = omega (arith, count_bound 0 ranges (rise_fact 0 ranges rise))
