-- Disjoint ranges are few, so the number of each printer has two bytes.
use Rattle.std.proofs.Common.{◌≡◌, ◌≢◌, ◌<◌, ◌≤◌, ◌||◌, ◌==◌, eqb, inl, inr, ℕ, suc, Bool, true, false, List, [], ◌∷◌, length, map, All, slice_index_or, refl, arith}
use Rattle.std.specs.{Prelude.IsTrue, List.list_any, List.AllByRecursion, List.IsDistinct}
use Rattle.std.proofs.lemmas.{List.length-map, List.Elements.All-head, List.Elements.All-tail, Bool.Decides.nat_tests}
use Rattle.std.proofs.lemmas.Map.Steps.{length-le_from_distinct_below}
use Rattle.dm_print_ledger.specs.{declared.range.Range.Range, Ledger.is_range}
use Rattle.dm_event_history.specs.Headline.{IsApart, AreDisjoint}

abbrev IsRange : Range → Type 0
IsRange range = (range.first ≤ range.last) × (range.last ≤ 64515)

ranged : (ranges : List Range) → All (λ range. IsTrue (is_range range)) ranges → All IsRange ranges
ranged ranges each = grind arith

abbrev firsts : List Range → List ℕ
firsts ranges = map (λ range. range.first) ranges

differ : (a b : ℕ) → a ≢ b → eqb a b ≡ false
differ a b away = grind arith

-- a number is no first of ranges that begin elsewhere
none_first : (n : ℕ) (ranges : List Range) → All (λ range. n ≢ range.first) ranges →
    AllByRecursion (λ m. eqb n m ≡ false) (firsts ranges)
none_first n [] each = tt
none_first n (r ∷ rs) each = (
  differ n r.first (All-head (λ (range : Range). n ≢ range.first) r rs each),
  none_first n rs (All-tail (λ (range : Range). n ≢ range.first) r rs each),
)

distinct_firsts : (ranges : List Range) → AreDisjoint ranges → All IsRange ranges → IsDistinct eqb (firsts ranges)
unfolding IsDistinct
distinct_firsts [] apart each = tt
distinct_firsts (r ∷ rs) apart each = (
  none_first r.first rs (λ i d within.
      let one = All-head IsRange r rs each in
      let other = All-tail IsRange r rs each i d within in
      let are_apart : IsApart r (slice_index_or rs i d) = apart 0 (suc i) d (omega arith) (omega arith) in
      λ same. elim are_apart [ inl below ↦ omega arith | inr above ↦ omega arith ]),
  distinct_firsts rs (λ i j d before within. apart (suc i) (suc j) d (omega arith) (omega arith))
      (All-tail IsRange r rs each),
)

small_firsts : (ranges : List Range) → All IsRange ranges → (n : ℕ) → list_any (eqb n) (firsts ranges) ≡ true →
    n < 64516
small_firsts [] each n is = cc
small_firsts (r ∷ rs) each n is = by_test (eqb n r.first) refl is (small_firsts rs (All-tail IsRange r rs each) n)
  where
    by_test : (t : Bool) → eqb n r.first ≡ t → (t || list_any (eqb n) (firsts rs)) ≡ true →
        (list_any (eqb n) (firsts rs) ≡ true → n < 64516) → n < 64516
    by_test true e x again =
        let s : (n == r.first) ≡ true = e in
        let same : n ≡ r.first = grind (arith, nat_tests, s) in
        let one = All-head IsRange r rs each in
        omega arith
    by_test false e x again = again x

-- each range has a first number of its own, and there are 64,516 numbers
pub few_ranges : (ranges : List Range) → All (λ range. IsTrue (is_range range)) ranges → AreDisjoint ranges → length ranges ≤ 64516
few_ranges ranges each apart =
    let few : length (firsts ranges) ≤ 64516 =
    length-le_from_distinct_below (firsts ranges) 64516 (distinct_firsts ranges apart (ranged ranges each))
    (small_firsts ranges (ranged ranges each)) in
    let same : length (firsts ranges) ≡ length ranges = length-map ranges (λ range. range.first) in
    omega arith
