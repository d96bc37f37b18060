-- What stands at a place of a mapped list.
use Rattle.std.proofs.Common.{◌≡◌, ℕ, zero, suc, Some, List, [], ◌∷◌, map, slice_get, refl, ap}

pub get_map : {X Y : Type 0} (f : X → Y) (xs : List X) (i : ℕ) (x : X) → slice_get xs i ≡ Some x →
    slice_get (map f xs) i ≡ Some (f x)
get_map f [] i x is = cc
get_map f (z ∷ zs) zero x is = (let e : z ≡ x = cc in ap (λ u. Some (f u)) e)
get_map f (z ∷ zs) (suc i) x is = get_map f zs i x is

pub get_map_from : {X Y : Type 0} (f : X → Y) (xs : List X) (i : ℕ) (y : Y) → slice_get (map f xs) i ≡ Some y →
    (x : X) × (slice_get xs i ≡ Some x) × (f x ≡ y)
get_map_from f [] i y is = cc
get_map_from f (z ∷ zs) zero y is = (z, refl, cc)
get_map_from f (z ∷ zs) (suc i) y is = get_map_from f zs i y is
