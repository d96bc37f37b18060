-- Ranges that are apart, each from those after it.
use Rattle.std.proofs.Common.{◌≡◌, ◌+◌, ◌-◌, ◌<◌, ℕ, List, length, drop, take, slice_index_or, All, ap, sym, ◌∙◌, subst, arith}
use Rattle.std.proofs.lemmas.{List.length-drop, List.get_or-drop, List.take_rest, Option.slice_get-get_or}
use Rattle.dm_print_ledger.specs.declared.range.Range.{Range}
use Rattle.dm_event_history.specs.Headline.{IsApart, AreDisjoint}

-- an element that is there is the same, whatever would be read were it not
read_same : {X : Type 0} (xs : List X) (i : ℕ) (d e : X) → i < length xs → slice_index_or xs i d ≡ slice_index_or xs i e
read_same xs i d e there = let a = slice_get-get_or xs i d there in let b = slice_get-get_or xs i e there in cc

-- the range at this place is apart from each after it
abbrev pub IsApartFromRest : List Range → ℕ → Type 0
IsApartFromRest ranges i = (d : Range) → All (IsApart (slice_index_or ranges i d)) (drop (i + 1) ranges)

pub apart_from_rest : (ranges : List Range) (i : ℕ) → AreDisjoint ranges → IsApartFromRest ranges i
apart_from_rest ranges i apart d k e within =
    let len : length (drop (i + 1) ranges) ≡ length ranges - (i + 1) = length-drop (i + 1) ranges in
    let there : i < length ranges = omega arith in
    let at : slice_index_or (drop (i + 1) ranges) k e ≡ slice_index_or ranges ((i + 1) + k) e =
    get_or-drop (i + 1) ranges k e in
    subst (λ (x : Range). IsApart (slice_index_or ranges i d) x) (sym at)
    (subst (λ (x : Range). IsApart x (slice_index_or ranges ((i + 1) + k) e)) (read_same ranges i e d there)
    (apart i ((i + 1) + k) e (omega arith) (omega arith)))

pub apart_from_rests : (ranges : List Range) → ((i : ℕ) → i < length ranges → IsApartFromRest ranges i) →
    AreDisjoint ranges
apart_from_rests ranges rests i j d before within =
    let len : length (drop (i + 1) ranges) ≡ length ranges - (i + 1) = length-drop (i + 1) ranges in
    let at : slice_index_or (drop (i + 1) ranges) (j - (i + 1)) d ≡ slice_index_or ranges j d =
    get_or-drop (i + 1) ranges (j - (i + 1)) d ∙
    ap (λ n. slice_index_or ranges n d) (let e : (i + 1) + (j - (i + 1)) ≡ j = omega arith in e) in
    subst (λ (x : Range). IsApart (slice_index_or ranges i d) x) at
    (rests i (omega arith) d (j - (i + 1)) d (omega arith))

-- what was found of the ranges after one, as the code takes them
pub rest_as_taken : (ranges : List Range) (i : ℕ) (d : Range) → i < length ranges →
    All (IsApart (slice_index_or ranges i d)) (take (length ranges - (i + 1)) (drop (i + 1) ranges)) →
    IsApartFromRest ranges i
rest_as_taken ranges i d there apart e =
    subst (λ (x : Range). All (IsApart x) (drop (i + 1) ranges)) (read_same ranges i d e there)
    (subst (λ (l : List Range). All (IsApart (slice_index_or ranges i d)) l) (take_rest ranges (i + 1)) apart)

pub taken_as_rest : (ranges : List Range) (i : ℕ) (d : Range) → IsApartFromRest ranges i →
    All (IsApart (slice_index_or ranges i d)) (take (length ranges - (i + 1)) (drop (i + 1) ranges))
taken_as_rest ranges i d apart =
    subst (λ (l : List Range). All (IsApart (slice_index_or ranges i d)) l) (sym (take_rest ranges (i + 1))) (apart d)
