-- A whole symbol as contracts see it: its size, and its modules row by row from the top left, finder patterns included
-- and the quiet zone left out (ISO/IEC 16022:2006, 5.5 and 5.8). Rows and columns count from 0.
use Rattle.std.specs.Prelude.{ℕ, ◌≡◌, ◌*◌, ◌<◌, Bool, List, [], ◌∷◌, length, ◌+◌, ◌-◌, ◌/◌, ◌%◌, true, ◌==◌, ◌&&◌, ◌||◌, not, if◌then◌else◌, Option, Some, None, map, count_by, Result, Ok, Err, ◌≤◌}
use Rattle.std.specs.{List.range_with_len, Option.option_map_or}
use Rattle.dm_size.specs.{declared.size.Size.Size, Sizes.IsSide, Sizes.side, Sizes.region, Sizes.regions, Sizes.mapping}
use Rattle.dm_size.specs.Squares.{Square, IsWhole, module_at, with_flipped}
use Rattle.dm_finder_frame.specs.declared.fault.GridFault.{GridFault, TheVariants.Side, TheVariants.Memory}
use Rattle.dm_finder_frame.specs.declared.{unframing.Framed.Framed, fault.FrameFault.FrameFault}
use Rattle.dm_finder_frame.specs.declared.fault.FrameFault.TheVariants.{Border, Memory as NoMemory}

pub record GridView : Type 0 where
  pub size : Size
  pub modules : List Bool

-- the modules of a grid as a square
abbrev pub square_of : GridView → Square
square_of g = record { side = side g.size; modules = g.modules }

-- it has all its modules
abbrev pub IsWholeGrid : GridView → Type 0
IsWholeGrid g = IsWhole (square_of g)

-- whether the module of a row and a column is dark
abbrev pub grid_module_at : GridView → ℕ → ℕ → Bool
grid_module_at g r c = module_at (square_of g) r c

-- the row and the column lie in the grid
abbrev pub IsInGrid : GridView → ℕ × ℕ → Type 0
IsInGrid g cell = (cell.0 < side g.size) × (cell.1 < side g.size)

-- the grid with one module flipped, dark to light or light to dark
abbrev pub grid_with_flipped : GridView → ℕ → ℕ → GridView
grid_with_flipped g r c = record { size = g.size; modules = (with_flipped (square_of g) r c).modules }

-- the grid with these modules, by row and column, flipped one after another; one that is named twice is as it was
abbrev pub flipped : GridView → List (ℕ × ℕ) → GridView
flipped g [] = g
flipped g (flip ∷ flips) = flipped (grid_with_flipped g flip.0 flip.1) flips

-- this list of modules fills a symbol of this side
abbrev pub FillsSymbol : ℕ → List Bool → Type 0
FillsSymbol n modules = IsSide n × (length modules ≡ n * n)

-- ---- The finder patterns of a symbol (ISO/IEC 16022:2006, 5.5 and 5.8): the mapping matrix is cut into data regions
-- of one side, left to right and top to bottom, and each has a frame one module wide. Rows and columns count from 0.

-- a module of the finder pattern, by its place in its framed region of side h + 2
abbrev pub is_on_frame : ℕ → ℕ → ℕ → Bool
is_on_frame h r c = ((r == 0) || (r == h + 1)) || ((c == 0) || (c == h + 1))

-- The left column and the bottom row are dark; the top row is dark at even columns, and the right column at odd rows.
abbrev pub frame_value : ℕ → ℕ → ℕ → Bool
frame_value h r c = if (c == 0) || (r == h + 1) then true else (if r == 0 then c % 2 == 0 else r % 2 == 1)

-- a row or a column of the mapping matrix, of a row or a column of the grid that is on no frame
abbrev pub mapping_place : ℕ → ℕ → ℕ
mapping_place h r = r / (h + 2) * h + r % (h + 2) - 1

-- a row or a column of the grid, of a row or a column of the mapping matrix
abbrev pub grid_place : ℕ → ℕ → ℕ
grid_place h r = r / h * (h + 2) + r % h + 1

-- the row and the column in the mapping matrix of a module of the grid, if it is on no finder pattern
abbrev pub mapping_cell : Size → ℕ → ℕ → Option (ℕ × ℕ)
mapping_cell s r c =
    if is_on_frame (region s) (r % (region s + 2)) (c % (region s + 2)) then None
    else Some (mapping_place (region s) r, mapping_place (region s) c)

-- the module, at a row and a column, of the grid of a mapping matrix
abbrev pub grid_module : Size → Square → ℕ → ℕ → Bool
grid_module s m r c =
    if is_on_frame (region s) (r % (region s + 2)) (c % (region s + 2))
    then frame_value (region s) (r % (region s + 2)) (c % (region s + 2))
    else module_at m (mapping_place (region s) r) (mapping_place (region s) c)

unfoldable pub grid_modules : Size → Square → List Bool
grid_modules s m = map (λ i. grid_module s m (i / side s) (i % side s)) (range_with_len 0 (side s * side s))

-- the grid of a mapping matrix
abbrev pub grid_of_matrix : Size → Square → GridView
grid_of_matrix s m = record { size = s; modules = grid_modules s m }

-- the module, at a row and a column, of the mapping matrix of a grid
abbrev pub matrix_module : GridView → ℕ → ℕ → Bool
matrix_module g r c = grid_module_at g (grid_place (region g.size) r) (grid_place (region g.size) c)

unfoldable pub matrix_modules : GridView → List Bool
matrix_modules g =
    let n = mapping g.size in
    map (λ i. matrix_module g (i / n) (i % n)) (range_with_len 0 (n * n))

-- the mapping matrix of a grid, whatever its finder patterns are
abbrev pub matrix_of_grid : GridView → Square
matrix_of_grid g = record { side = mapping g.size; modules = matrix_modules g }

-- a module at a place of its framed region is one of the finder pattern and differs from what it is to be
abbrev pub wrong_module : ℕ → Bool → ℕ → ℕ → Bool
wrong_module h dark r c = is_on_frame h r c && (if dark then not (frame_value h r c) else frame_value h r c)

-- the module at a row and a column is one of the finder patterns, and wrong
abbrev pub is_wrong_at : GridView → ℕ → ℕ → Bool
is_wrong_at g r c = wrong_module (region g.size) (grid_module_at g r c)
    (r % (region g.size + 2)) (c % (region g.size + 2))

-- the same by the place of the module in the list
abbrev pub is_wrong : GridView → ℕ → Bool
is_wrong g i = is_wrong_at g (i / side g.size) (i % side g.size)

-- how many modules of a grid's finder patterns are wrong
unfoldable pub wrong_frame_modules : GridView → ℕ
wrong_frame_modules g = count_by (λ wrong. wrong) (map (is_wrong g) (range_with_len 0 (side g.size * side g.size)))

-- how many modules the finder patterns of a symbol have
abbrev pub frame_module_count : Size → ℕ
frame_module_count s = regions s * (4 * (region s + 2) - 4)

-- ---- laws

-- The mapping matrix of the grid of a mapping matrix is that matrix.
abbrev pub UnframeUndoesFrame : Size → Type 0
UnframeUndoesFrame s = (m : Square) → IsWhole m → m.side ≡ mapping s → matrix_of_grid (grid_of_matrix s m) ≡ m

-- The grid of a mapping matrix has no wrong module.
abbrev pub FrameHasNoWrongModule : Size → Type 0
FrameHasNoWrongModule s = (m : Square) → wrong_frame_modules (grid_of_matrix s m) ≡ 0

-- To flip a module of a grid is to flip the module of its mapping matrix at that module's cell, if it has one.
abbrev pub FlipsOneModule : Type 0
FlipsOneModule = (g : GridView) (r c : ℕ) → IsWholeGrid g → r < side g.size → c < side g.size
    → matrix_of_grid (grid_with_flipped g r c)
    ≡ option_map_or (λ cell. with_flipped (matrix_of_grid g) cell.0 cell.1) (mapping_cell g.size r c) (matrix_of_grid g)

-- ---- What making a grid of modules answers (this project's own rule): `Side` exactly where the modules do not fill a
-- symbol of that side.

abbrev pub MakesGrid : ℕ → List Bool → Result GridView GridFault → Type 0
MakesGrid n modules (Ok grid) = FillsSymbol n modules × (side grid.size ≡ n) × (grid.modules ≡ modules)
MakesGrid n modules (Err Side) = ¬ FillsSymbol n modules
MakesGrid n modules (Err Memory) = FillsSymbol n modules

-- ---- What taking the finder patterns off a grid answers (this project's own rule): `Border` exactly where more than
-- an eighth of their modules are wrong.

-- at most an eighth of the modules of the finder patterns are wrong
abbrev pub HasGoodFrame : GridView → Type 0
HasGoodFrame g = 8 * wrong_frame_modules g ≤ frame_module_count g.size

-- more than an eighth of them are wrong, and this is their number
abbrev pub HasBadFrame : GridView → ℕ → Type 0
HasBadFrame g wrong = (frame_module_count g.size < 8 * wrong_frame_modules g) × (wrong ≡ wrong_frame_modules g)

abbrev pub Unframes : {A : Type 0} → GridView → Result (Framed A) FrameFault → Type 0
Unframes g (Ok f) = HasGoodFrame g × (f.size ≡ g.size) × (f.matrix ≡ matrix_of_grid g) ×
    (f.wrong ≡ wrong_frame_modules g)
Unframes g (Err (Border wrong)) = HasBadFrame g wrong
Unframes g (Err NoMemory) = HasGoodFrame g
