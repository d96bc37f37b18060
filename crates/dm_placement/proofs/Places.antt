-- Places of modules, row by row.
use Rattle.std.proofs.Common.{◌≡◌, ℕ, ◌+◌, ◌-◌, ◌*◌, ◌<◌, ◌≤◌, List, [], ◌∷◌, ◌/◌, ◌%◌, zero, suc, map, get_or, arith, refl}
use Rattle.std.proofs.lemmas.Nat.{div-mul-add, mod-mul-add}
use Rattle.dm_placement.specs.declared.shape.{Cell.Cell, Shape.TheVariants.Plain}
use Rattle.dm_placement.specs.Placement.{cell_at, cell_from_anchor, shape_cells, place_of}

-- no cell of a codeword wraps whose anchor is two rows and two columns or more inside
unwrapped : (n r c up left : ℕ) → 2 ≤ r → r < n → 2 ≤ c → c < n → up ≤ 2 → left ≤ 2
    → cell_from_anchor n (cell_at r c) up left ≡ cell_at (r - up) (c - left)
unfolding cell_from_anchor
unwrapped n r c up left hr hrn hc hcn hu hl = grind arith

-- the place of such a cell
place_above : (n r c up left : ℕ) → 2 ≤ r → 2 ≤ c → up ≤ 2 → left ≤ 2
    → (r - up) * n + (c - left) ≡ r * n + c - up * n - left
place_above n r c up left hr hc hu hl = grind arith

-- the places of the bits of such a codeword
pub places_inside : (n r c : ℕ) → 2 ≤ r → r < n → 2 ≤ c → c < n → let at = r * n + c in
    map (place_of n) (shape_cells n (Plain (cell_at r c))) ≡
    (at - 2 * n - 2) ∷ (at - 2 * n - 1) ∷ (at - n - 2) ∷ (at - n - 1) ∷ (at - n) ∷ (at - 2) ∷ (at - 1) ∷ at ∷ []
unfolding shape_cells
places_inside n r c hr hrn hc hcn = grind (arith, unwrapped, place_above)

-- the place of the cell of a bit
pub place_at : (n : ℕ) (cells : List Cell) (i : ℕ) →
    get_or (map (place_of n) cells) i 0 ≡ place_of n (get_or cells i (cell_at 0 0))
place_at n [] i = omega arith
place_at n (p ∷ ps) zero = refl
place_at n (p ∷ ps) (suc i) = place_at n ps i

-- the row and the column of a place
pub row_of_place : (n : ℕ) (p : Cell) → p.column < n → place_of n p / n ≡ p.row
row_of_place n p h = div-mul-add p.row n p.column h

pub column_of_place : (n : ℕ) (p : Cell) → p.column < n → place_of n p % n ≡ p.column
column_of_place n p h = mod-mul-add p.row n p.column h
