-- The ranges of ledgers by the numbers of their printers, with a range of nothing where a number has none: so the machine
-- may begin with all of them.
use Rattle.std.proofs.Common.{◌≡◌, ◌⊎◌, ◌+◌, ◌<◌, ◌≤◌, inl, inr, ℕ, zero, suc, List, [], ◌∷◌, Some, slice_get, slice_index_or, refl, sym, ap, subst, ◌∙◌, arith}
use Rattle.std.specs.Prelude.{AllPairs}
use Rattle.std.proofs.lemmas.{Bool.cases_lt, Option.get_or_from_slice_get, Option.slice_get-get_or, Option.slice_get_within}
use Rattle.dm_print_ledger.specs.declared.range.Range.{Range}
use Rattle.dm_event_history.specs.Headline.{AreDisjoint, IsApart}
use Rattle.dm_event_history.proofs.Deciding.{same_or_other}
use Rattle.relay_program_runs.specs.{Law.AreApart, Passed.Made}

-- the range at this place, after as many gaps as are wanted
abbrev placed : Range → List Range → ℕ → Range → List Range
placed gap [] zero range = range ∷ []
placed gap [] (suc n) range = gap ∷ placed gap [] n range
placed gap (x ∷ xs) zero range = range ∷ xs
placed gap (x ∷ xs) (suc n) range = x ∷ placed gap xs n range

-- above all of the ranges
abbrev above : List Made → ℕ
above [] = 1
above (one ∷ more) = one.range.last + 1 + above more

-- a range of nothing
abbrev gap_of : List Made → Range
gap_of made = record { first = above made; last = 0 }

abbrev ranges_by : Range → List Made → List Range
ranges_by gap [] = []
ranges_by gap (one ∷ more) = placed gap (ranges_by gap more) one.number one.range

abbrev pub ranges_of : List Made → List Range
ranges_of made = ranges_by (gap_of made) made

-- ---- what stands where

placed_here : (gap : Range) (xs : List Range) (n : ℕ) (range : Range) → slice_get (placed gap xs n range) n ≡ Some range
placed_here gap [] zero range = refl
placed_here gap [] (suc n) range = placed_here gap [] n range
placed_here gap (x ∷ xs) zero range = refl
placed_here gap (x ∷ xs) (suc n) range = placed_here gap xs n range

placed_there : (gap : Range) (xs : List Range) (n m : ℕ) (range x : Range) → (m ≡ n → ⊥) → slice_get xs m ≡ Some x →
    slice_get (placed gap xs n range) m ≡ Some x
placed_there gap [] n m range x isnt there = cc (there)
placed_there gap (y ∷ xs) zero zero range x isnt there = absurd (isnt refl)
placed_there gap (y ∷ xs) zero (suc m) range x isnt there = there
placed_there gap (y ∷ xs) (suc n) zero range x isnt there = there
placed_there gap (y ∷ xs) (suc n) (suc m) range x isnt there =
    placed_there gap xs n m range x (λ e. isnt (ap suc e)) there

-- it is the range, or a gap, or stood there before
placed_from : (gap : Range) (xs : List Range) (n m : ℕ) (range x : Range) → slice_get (placed gap xs n range) m ≡ Some x →
    ((m ≡ n) × (range ≡ x)) ⊎ ((gap ≡ x) ⊎ (slice_get xs m ≡ Some x))
placed_from gap [] zero zero range x there = inl (refl, cc (there))
placed_from gap [] zero (suc m) range x there = cc (there)
placed_from gap [] (suc n) zero range x there = inr (inl (cc (there)))
placed_from gap [] (suc n) (suc m) range x there = grind (arith, (placed_from gap [] n m range x there))
placed_from gap (y ∷ xs) zero zero range x there = inl (refl, cc (there))
placed_from gap (y ∷ xs) zero (suc m) range x there = inr (inr there)
placed_from gap (y ∷ xs) (suc n) zero range x there = inr (inr there)
placed_from gap (y ∷ xs) (suc n) (suc m) range x there = grind (arith, (placed_from gap xs n m range x there))

-- ---- ledgers that are apart

-- any two of them
pub two_apart : (made : List Made) → AllPairs AreApart made → (i j : ℕ) (one other : Made) → i < j →
    slice_get made i ≡ Some one → slice_get made j ≡ Some other → AreApart one other
two_apart made apart i j one other below at there =
    subst (λ (m : Made). AreApart one m) (get_or_from_slice_get made j other one there)
    (subst (λ (m : Made). AreApart m (slice_index_or made j one)) (get_or_from_slice_get made i one one at)
    (apart i j one below (slice_get_within made j other there)))

pub later_apart : (one : Made) (more : List Made) → AllPairs AreApart (one ∷ more) → AllPairs AreApart more
later_apart one more apart = λ i j d below within. apart (suc i) (suc j) d (omega arith) (omega arith)

found_by : (gap : Range) (made : List Made) → AllPairs AreApart made → (i : ℕ) (one : Made) →
    slice_get made i ≡ Some one → slice_get (ranges_by gap made) one.number ≡ Some one.range
found_by gap [] apart i one there = cc (there)
found_by gap (first ∷ more) apart zero one there =
    let same : first ≡ one = cc (there) in
    subst (λ (m : Made). slice_get (placed gap (ranges_by gap more) m.number m.range) one.number ≡ Some one.range) (sym same)
    (placed_here gap (ranges_by gap more) one.number one.range)
found_by gap (first ∷ more) apart (suc i) one there =
    let other = two_apart (first ∷ more) apart 0 (suc i) first one (omega arith) refl there in
    placed_there gap (ranges_by gap more) first.number one.number first.range one.range (λ e. other.0 (sym e))
    (found_by gap more (later_apart first more apart) i one there)

pub range_found : (made : List Made) → AllPairs AreApart made → (i : ℕ) (one : Made) → slice_get made i ≡ Some one →
    slice_get (ranges_of made) one.number ≡ Some one.range
range_found made apart i one there = found_by (gap_of made) made apart i one there

-- a range that stands there is a gap, or that of a ledger with this number
record IsOf (made : List Made) (number : ℕ) (range : Range) : Type 0 where
  place : ℕ
  one : Made
  there : slice_get made place ≡ Some one
  number_is : number ≡ one.number
  range_is : one.range ≡ range

from_where : (gap : Range) (made : List Made) (number : ℕ) (range : Range) →
    slice_get (ranges_by gap made) number ≡ Some range → (gap ≡ range) ⊎ IsOf made number range
from_where gap [] number range there = cc (there)
from_where gap (first ∷ more) number range there =
    elim (placed_from gap (ranges_by gap more) first.number number first.range range there) [
      | inl here ↦ inr (record { place = 0; one = first; there = refl; number_is = here.0; range_is = here.1 })
      | inr (inl is_gap) ↦ inl is_gap
      | inr (inr before) ↦ elim (from_where gap more number range before) [
        | inl is_gap ↦ inl is_gap
        | inr o ↦ inr (record {
          place = suc o.place;
          one = o.one;
          there = o.there;
          number_is = o.number_is;
          range_is = o.range_is;
        })
      ]
    ]

last_below : (made : List Made) (i : ℕ) (one : Made) → slice_get made i ≡ Some one → one.range.last < above made
last_below [] i one there = cc (there)
last_below (first ∷ more) zero one there =
    let same : first.range.last ≡ one.range.last = (let is : first ≡ one = cc (there) in ap (λ (m : Made). m.range.last) is) in
    omega arith
last_below (first ∷ more) (suc i) one there = let below = last_below more i one there in omega arith

other_way : (one other : Range) → IsApart one other → IsApart other one
other_way one other (inl before) = inr before
other_way one other (inr after) = inl after

positive : (made : List Made) → 0 < above made
positive [] = omega arith
positive (one ∷ more) = omega arith

module _ (made : List Made) (apart : AllPairs AreApart made) where
  -- ledgers of two numbers
  two_ranges : (i j : ℕ) (one other : Range) → (i ≡ j → ⊥) → IsOf made i one → IsOf made j other → IsApart one other
  two_ranges i j one other isnt a b = by_place (cases_lt a.place b.place)
    where
      joined : IsApart a.one.range b.one.range → IsApart one other
      joined is = subst (λ (r : Range). IsApart one r) b.range_is (subst (λ (r : Range). IsApart r b.one.range) a.range_is is)

      same_number : a.place ≡ b.place → ⊥
      same_number e =
          let same : a.one ≡ b.one = cc (a.there, b.there, e) in
          isnt (a.number_is ∙ ap (λ (m : Made). m.number) same ∙ sym b.number_is)

      by_place : (a.place < b.place) ⊎ (b.place ≤ a.place) → IsApart one other
      by_place (inl below) = joined (two_apart made apart a.place b.place a.one b.one below a.there b.there).1
      by_place (inr above) = elim (same_or_other a.place b.place) [
        | inl e ↦ absurd (same_number e)
        | inr isnt ↦ joined (other_way b.one.range a.one.range
            (two_apart made apart b.place a.place b.one a.one (omega (arith, isnt)) b.there a.there).1)
      ]

  any_two : (i j : ℕ) (one other : Range) → (i ≡ j → ⊥) → slice_get (ranges_of made) i ≡ Some one →
      slice_get (ranges_of made) j ≡ Some other → IsApart one other
  any_two i j one other isnt at there =
      by_where (from_where (gap_of made) made i one at) (from_where (gap_of made) made j other there)
    where
      by_where : ((gap_of made ≡ one) ⊎ IsOf made i one) → ((gap_of made ≡ other) ⊎ IsOf made j other) → IsApart one other
      by_where (inr a) (inr b) = two_ranges i j one other isnt a b
      by_where (inl a) (inl b) =
          subst (λ (r : Range). IsApart one r) b (subst (λ (r : Range). IsApart r (gap_of made)) a (inl (positive made)))
      by_where (inl a) (inr b) =
          subst (λ (r : Range). IsApart r other) a (inr (subst (λ (r : Range). r.last < above made) b.range_is
          (last_below made b.place b.one b.there)))
      by_where (inr a) (inl b) =
          subst (λ (r : Range). IsApart one r) b (inl (subst (λ (r : Range). r.last < above made) a.range_is
          (last_below made a.place a.one a.there)))

  pub ranges_apart : AreDisjoint (ranges_of made)
  ranges_apart = λ i j d below within.
      any_two i j (slice_index_or (ranges_of made) i d) (slice_index_or (ranges_of made) j d) (λ e. absurd (omega (arith, e)))
      (slice_get-get_or (ranges_of made) i d (omega arith)) (slice_get-get_or (ranges_of made) j d within)
