-- What stands at a place of a longer list.
use Rattle.std.proofs.Common.{◌≡◌, ◌≢◌, ◌⊎◌, ◌+◌, inl, inr, ℕ, zero, suc, Some, List, [], ◌∷◌, ◌++◌, length, slice_get, slice_set, refl, arith}

-- a ticket that was given is there among more
pub get_more : {X : Type 0} (xs ys : List X) (i : ℕ) (x : X) → slice_get xs i ≡ Some x → slice_get (xs ++ ys) i ≡ Some x
get_more [] ys i x is = cc
get_more (z ∷ zs) ys zero x is = is
get_more (z ∷ zs) ys (suc i) x is = get_more zs ys i x is

-- what stands in two lists joined stands in the first, or in the second
pub in_either : {X : Type 0} (xs ys : List X) (i : ℕ) (x : X) → slice_get (xs ++ ys) i ≡ Some x →
    (slice_get xs i ≡ Some x) ⊎ ((j : ℕ) × (i ≡ length xs + j) × (slice_get ys j ≡ Some x))
in_either [] ys i x is = inr (i, omega arith, is)
in_either (z ∷ zs) ys zero x is = inl is
in_either (z ∷ zs) ys (suc i) x is = grind (arith, (in_either zs ys i x is))

-- what stands at a place once another element was put somewhere
pub set_at : {X : Type 0} (xs : List X) (i j : ℕ) (x y : X) → slice_get (slice_set xs i x) j ≡ Some y →
    ((i ≡ j) × (x ≡ y)) ⊎ ((i ≢ j) × (slice_get xs j ≡ Some y))
set_at [] i j x y is = cc
set_at (z ∷ zs) zero zero x y is = inl (refl, cc (is))
set_at (z ∷ zs) zero (suc j) x y is = inr ((λ e. absurd (omega (arith, e))), is)
set_at (z ∷ zs) (suc i) zero x y is = inr ((λ e. absurd (omega (arith, e))), is)
set_at (z ∷ zs) (suc i) (suc j) x y is = grind (arith, (set_at zs i j x y is))
