-- What the takers of places have, the shapes that may stand on the matrix, and the codewords that the walk comes to.
use Rattle.std.specs.Prelude.{ℕ, ◌+◌, false, true, List, get_or, map, ◌≡◌, ◌≤◌, ◌<◌, ◌-◌, ◌*◌, ◌%◌, [], ◌∷◌, Bool, ◌==◌, nat_lt, nat_le, ◌&&◌, not, if◌then◌else◌, ◌++◌, length}
use Rattle.std.specs.List.{range_with_len}
use Rattle.dm_placement.specs.Placement.{number_of, place_of, cell_at, is_left_out, shapes, bit_cells, bit_of, dark_cells, light_cells, is_dark, word_from}
use Rattle.dm_placement.specs.declared.{shape.Cell.Cell, shape.Shape.Shape}
use Rattle.dm_placement.specs.declared.shape.Shape.TheVariants.{Plain, CornerOne, CornerTwo}
use Rattle.dm_size.specs.{declared.size.Size.Size, Sizes.mapping, Sizes.all_words, Squares.Square}

-- ---- What has the places of the codewords of a size, one after another, in three ways.

-- where bit i of all codewords stands, row by row
abbrev pub bit_place : Size → ℕ → ℕ
bit_place s i = place_of (mapping s) (get_or (bit_cells (mapping s)) i (cell_at 0 0))

-- these are the places of the bits of codeword k
pub record AreOfWord (s : Size) (k : ℕ) (places : List ℕ) : Type 0 where
  pub is_word : k < all_words s
  pub stand : (b : ℕ) → b < 8 → get_or places b 0 ≡ bit_place s (8 * k + b)

-- the places of the codewords before k are kept
pub record HasKept (s : Size) (k : ℕ) (places : List (List ℕ)) : Type 0 where
  pub count : length places ≡ k
  pub words : (w : ℕ) → w < k → AreOfWord s w (get_or places w [])

-- the codeword whose bits stand at eight places, among these modules
abbrev pub word_from_places : List Bool → List ℕ → ℕ
word_from_places modules places =
    number_of (map (λ i. get_or modules (get_or places i 0) false) (range_with_len 0 8))

-- the codewords before k are read from these modules
pub record HasRead (s : Size) (modules : List Bool) (k : ℕ) (words : List ℕ) : Type 0 where
  pub whole : length modules ≡ mapping s * mapping s
  pub read : words ≡ map (λ word. word_from (record { side = mapping s; modules = modules }) (bit_cells (mapping s))
      (8 * word)) (range_with_len 0 k)

-- the bits below i are written, and the free cells
pub record HasBits (n : ℕ) (words : List ℕ) (m : Square) (i : ℕ) : Type 0 where
  pub side : m.side ≡ n
  pub size : length m.modules ≡ n * n
  pub bits : (j : ℕ) → j < i → is_dark m (get_or (bit_cells n) j (cell_at 0 0)) ≡ bit_of words j
  pub dark : (j : ℕ) → j < length (dark_cells n) → is_dark m (get_or (dark_cells n) j (cell_at 0 0)) ≡ true
  pub light : (j : ℕ) → j < length (light_cells n) → is_dark m (get_or (light_cells n) j (cell_at 0 0)) ≡ false

-- the codewords before k are drawn on this matrix
pub record HasPlaced (s : Size) (words : List ℕ) (k placed : ℕ) (m : Square) : Type 0 where
  pub count : length words ≡ all_words s
  pub next : placed ≡ k
  pub bits : HasBits (mapping s) words m (8 * k)

-- ---- The shapes.

-- what the shapes need of a side
pub record IsSideSound (n : ℕ) : Type 0 where
  pub eight : 8 ≤ n
  pub small : n ≤ 120
  pub even : n % 2 ≡ 0

-- A cell that may be an anchor: it lies on the lattice of the anchors and is none of the cells left out for the second
-- corner shape.
pub record MayBeAnchor (n : ℕ) (p : Cell) : Type 0 where
  pub row_in : p.row < n
  pub column_in : p.column < n
  pub on_lattice : (5 * p.row + p.column) % 8 ≡ 4
  pub not_left_out : n % 8 ≡ 6 → p.row + p.column ≡ n - 2 → (0 < p.row) × (0 < p.column)

-- a shape that may stand on the matrix
abbrev pub IsPlaceable : ℕ → Shape → Type 0
IsPlaceable n (Plain p) = MayBeAnchor n p
IsPlaceable n CornerOne = Unit {0}
IsPlaceable n CornerTwo = Unit {0}

-- ---- The walk over the mapping matrix (ISO/IEC 16022:2006, Annex F): it passes over a position that lies outside of
-- the matrix, and over the two cells that are left out for the second corner shape. It counts rows and columns from 2
-- above and left of the matrix, since it never goes further out on those sides.

-- the codeword at a position, if any
unfoldable pub word_at : ℕ → ℕ → ℕ → List Shape
word_at n r c =
    if ((nat_le 2 r && nat_lt r (n + 2)) && (nat_le 2 c && nat_lt c (n + 2))) && not (is_left_out n
    (cell_at (r - 2) (c - 2)))
    then Plain (cell_at (r - 2) (c - 2)) ∷ [] else []

-- The corner shape that an upward sweep from a position begins with, if any.
unfoldable pub corner_at : ℕ → ℕ → ℕ → List Shape
corner_at n r c =
    if (r == n + 2) && (c == 2) then CornerOne ∷ []
    else (if ((r == n) && (c == 2)) && not (n % 4 == 0) then CornerTwo ∷ [] else [])

-- the codewords from k on have these shapes, and then others, on the matrix of side n
pub record ComesTo (n k : ℕ) (new : List Shape) : Type 0 where
  pub done : List Shape
  pub later : List Shape
  pub count : length done ≡ k
  pub whole : done ++ (new ++ later) ≡ shapes n
