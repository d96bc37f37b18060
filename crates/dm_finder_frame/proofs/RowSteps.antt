-- One step of each loop that makes a row: the modules so far are those of the square, and stay so.
use Rattle.std.specs.{Prelude.◌%◌, Prelude.OnOk, List.between}
use Rattle.std.proofs.Common.{◌≡◌, ℕ, ◌+◌, ◌-◌, ◌*◌, ◌<◌, ◌≤◌, List, [], ◌∷◌, ◌++◌, length, get_or, take, Bool, true, false, ◌==◌, Result, Ok, Err, is_ok, cond, refl, ap, ◌∙◌, subst, arith, length-append, rules}
use Rattle.std.proofs.{Math.Nat.mul-le-mul_right, lemmas.Nat.div-mul-add, lemmas.Nat.mod-mul-add, lemmas.List.length-take-le, lemmas.List.Edits.length-between}
use Rattle.std.proofs.lemmas.List.FromFn.{length-map-range_with_len}
use Rattle.dm_size.specs.{declared.size.Size.Size, Sizes.side, Sizes.region, Sizes.regions, Sizes.across, Sizes.mapping}
use Rattle.dm_size.specs.Squares.{Square, IsWhole}
use Rattle.dm_finder_frame.specs.declared.framing.TheConstants.{TOP, BOTTOM}
use Rattle.dm_finder_frame.specs.Frame.{frame_module_count, mapping_place, grid_place, grid_module, matrix_module, GridView, IsWholeGrid, square_of}
use Rattle.dm_finder_frame.specs.inner.Filled.{first_modules}
use Rattle.dm_finder_frame.proofs.{Begun.piece_more, Begun.in_row, Begun.row_length, FramedGrids.place_within}
use Rattle.dm_finder_frame.proofs.FramedRows.{inner_piece, top_piece, bottom_piece, matrix_piece}
use Rattle.dm_finder_frame.proofs.GridPlaces.{fills_side, most_side, mapping_place_below}

-- how many modules are made
pub ruleset module_counts = (length-map-range_with_len, length-take-le)

-- the parts of the regions before one, and its own, fit in those of all
pub parts_fit : (b q f : ℕ) → b < q → b * f + f ≤ q * f
parts_fit b q f h = let m : (b + 1) * f ≤ q * f = mul-le-mul_right f (let l : b + 1 ≤ q = omega arith in l) in omega arith

-- one region's part of a row of the grid more, h being the side of a region
pub inner_more : (s : Size) (m : Square) (r b h : ℕ) (line xs ys : List Bool) → region s ≡ h → IsWhole m
    → m.side ≡ mapping s → r < side s → 1 ≤ r % (region s + 2) → r % (region s + 2) ≤ region s → b < across s
    → line ≡ between (mapping_place h r * m.side) ((mapping_place h r + 1) * m.side) m.modules
    → xs ≡ first_modules (side s) (grid_module s m) (r * side s + b * (region s + 2))
    → ys ≡ xs ++ (true ∷ (between (b * h) (b * h + h) line ++ (r % (h + 2) % 2 == 1) ∷ []))
    → ys ≡ first_modules (side s) (grid_module s m) (r * side s + (b + 1) * (region s + 2))
inner_more s m r b h line xs ys e whole same row_in low high b_in is begun joined = subst P e made is joined
  where
    P : ℕ → Type 0
    P = λ h. line ≡ between (mapping_place h r * m.side) ((mapping_place h r + 1) * m.side) m.modules
        → ys ≡ xs ++ (true ∷ (between (b * h) (b * h + h) line ++ (r % (h + 2) % 2 == 1) ∷ []))
        → ys ≡ first_modules (side s) (grid_module s m) (r * side s + (b + 1) * (region s + 2))

    made : P (region s)
    made is joined =
        let h = region s in
        let n = side s in
        let at = mapping_place h r in
        let right = r % (h + 2) % 2 == 1 in
        let piece = between (b * h) (b * h + h) line in
        let in_side = parts_fit b (across s) (h + 2) b_in in
        let in_matrix = parts_fit b (across s) h b_in in
        let in_grid : r < across s * (h + 2) = omega (arith, fills_side s) in
        let below = mapping_place_below h (across s) r low high in_grid in
        let at_in : at < m.side = omega (arith, below, same) in
        let wide : b * h + h ≤ m.side = omega (arith, in_matrix, same) in
        let long = row_length m at line whole at_in is in
        let size : length piece ≡ h = length-between line (b * h) (b * h + h) (omega (arith, wide, long)) ∙ omega arith in
        let next : r * n + (b * (h + 2) + (h + 2)) ≡ r * n + (b + 1) * (h + 2) = omega arith in
        piece_more n r (b * (h + 2)) (h + 2) (grid_module s m) xs ys (true ∷ (piece ++ right ∷ []))
        (omega (arith, in_side, fills_side s)) begun joined (omega (arith, length-append piece (right ∷ []), size))
        (λ k l. inner_piece s m r b k piece low high size l
        (λ j i. in_row m at (b * h) h j line piece whole at_in wide i is refl))
        ∙ ap (first_modules n (grid_module s m)) next

-- that part lies in its row of the mapping matrix
pub inner_fits : (s : Size) (m : Square) (r b h : ℕ) (line : List Bool) → region s ≡ h → IsWhole m
    → m.side ≡ mapping s → r < side s → 1 ≤ r % (region s + 2) → r % (region s + 2) ≤ region s → b < across s
    → line ≡ between (mapping_place h r * m.side) ((mapping_place h r + 1) * m.side) m.modules
    → b * h + h ≤ length line
inner_fits s m r b h line e whole same row_in low high b_in is =
    search (arith, parts_fit, fills_side, mapping_place_below, row_length)

-- the rows of a band of framed regions, and of the data regions in it
pub in_band : (s : Size) (b p : ℕ) → b < across s → p < region s + 2 → let r = b * (region s + 2) + p in (r < side s)
    × (r % (region s + 2) ≡ p) × (mapping_place (region s) r ≡ b * region s + p - 1)
in_band s b p b_in p_in = grind (arith, parts_fit, fills_side, div-mul-add, mod-mul-add)

-- a whole row of the grid more
row_more : (s : Size) (m : Square) (r : ℕ) (xs ys zs : List Bool)
    → xs ≡ first_modules (side s) (grid_module s m) (r * side s) → ys ≡ xs ++ zs → length zs ≡ side s
    → ((k : ℕ) → k < side s → get_or zs k false ≡ grid_module s m r (0 + k))
    → ys ≡ first_modules (side s) (grid_module s m) ((r + 1) * side s)
row_more s m r xs ys zs begun joined count each =
    let n = side s in
    let here : r * n ≡ r * n + 0 = omega arith in
    let next : r * n + (0 + n) ≡ (r + 1) * n = omega arith in
    piece_more n r 0 n (grid_module s m) xs ys zs (omega arith)
    (begun ∙ ap (first_modules n (grid_module s m)) here) joined count each
    ∙ ap (first_modules n (grid_module s m)) next

-- the top row of the regions
pub top_more : (s : Size) (m : Square) (r : ℕ) (xs ys : List Bool) → region s % 2 ≡ 0 → r % (region s + 2) ≡ 0
    → xs ≡ first_modules (side s) (grid_module s m) (r * side s) → ys ≡ xs ++ take (side s) TOP
    → ys ≡ first_modules (side s) (grid_module s m) ((r + 1) * side s)
top_more s m r xs ys even at begun joined = search (arith, most_side, row_more, length-take-le, top_piece)

-- their bottom row, and with it a band of regions
pub band_more : (s : Size) (m : Square) (b p : ℕ) (xs ys : List Bool) → p ≡ region s
    → xs ≡ first_modules (side s) (grid_module s m) ((b * (region s + 2) + p + 1) * side s) → ys ≡ xs ++ take (side s) BOTTOM
    → ys ≡ first_modules (side s) (grid_module s m) ((b + 1) * (region s + 2) * side s)
band_more s m b p xs ys is begun joined =
    let f = region s + 2 in
    let r = b * f + (region s + 1) in
    let here : b * f + p + 1 ≡ r = omega arith in
    let next : r + 1 ≡ (b + 1) * f = omega arith in
    row_more s m r xs ys (take (side s) BOTTOM) (begun ∙ ap (λ k. first_modules (side s) (grid_module s m) (k * side s)) here)
    joined (length-take-le (side s) BOTTOM (most_side s))
    (λ k l. bottom_piece s m r (side s) k (mod-mul-add b f (region s + 1) (omega arith)) (most_side s) l)
    ∙ ap (λ k. first_modules (side s) (grid_module s m) (k * side s)) next

-- one region's part of a row of the mapping matrix more
pub matrix_more : (g : GridView) (r b h : ℕ) (line xs ys : List Bool) → region g.size ≡ h → IsWholeGrid g
    → r < mapping g.size → b < across g.size
    → line ≡ between (grid_place h r * side g.size) ((grid_place h r + 1) * side g.size) g.modules
    → xs ≡ first_modules (mapping g.size) (matrix_module g) (r * mapping g.size + b * region g.size)
    → ys ≡ xs ++ between (b * (h + 2) + 1) (b * (h + 2) + 1 + h) line
    → ys ≡ first_modules (mapping g.size) (matrix_module g) (r * mapping g.size + (b + 1) * region g.size)
matrix_more g r b h line xs ys e whole row_in b_in is begun joined = subst P e made is joined
  where
    P : ℕ → Type 0
    P = λ h. line ≡ between (grid_place h r * side g.size) ((grid_place h r + 1) * side g.size) g.modules
        → ys ≡ xs ++ between (b * (h + 2) + 1) (b * (h + 2) + 1 + h) line
        → ys ≡ first_modules (mapping g.size) (matrix_module g) (r * mapping g.size + (b + 1) * region g.size)

    made : P (region g.size)
    made is joined =
        let h = region g.size in
        let n = mapping g.size in
        let start = b * (h + 2) + 1 in
        let piece = between start (start + h) line in
        let in_side = parts_fit b (across g.size) (h + 2) b_in in
        let in_matrix = parts_fit b (across g.size) h b_in in
        let at_in = place_within g.size r row_in in
        let wide : start + h ≤ side g.size = omega (arith, in_side, fills_side g.size) in
        let long = row_length (square_of g) (grid_place h r) line whole at_in is in
        let size : length piece ≡ h = length-between line start (start + h) (omega (arith, wide, long)) ∙ omega arith in
        let next : r * n + (b * h + h) ≡ r * n + (b + 1) * h = omega arith in
        piece_more n r (b * h) h (matrix_module g) xs ys piece in_matrix begun joined size
        (λ k l. in_row (square_of g) (grid_place h r) start h k line piece whole at_in wide l is refl
        ∙ matrix_piece g r b k l)
        ∙ ap (first_modules n (matrix_module g)) next

-- that part lies in its row of the grid
pub matrix_fits : (g : GridView) (r b h : ℕ) (line : List Bool) → region g.size ≡ h → IsWholeGrid g
    → r < mapping g.size → b < across g.size
    → line ≡ between (grid_place h r * side g.size) ((grid_place h r + 1) * side g.size) g.modules
    → b * (h + 2) + 1 + h ≤ length line
matrix_fits g r b h line e whole row_in b_in is = subst P e made is
  where
    P : ℕ → Type 0
    P = λ h. line ≡ between (grid_place h r * side g.size) ((grid_place h r + 1) * side g.size) g.modules
        → b * (h + 2) + 1 + h ≤ length line

    made : P (region g.size)
    made is =
        let h = region g.size in
        let in_side = parts_fit b (across g.size) (h + 2) b_in in
        let long = row_length (square_of g) (grid_place h r) line whole (place_within g.size r row_in) is in
        omega (arith, in_side, fills_side g.size, long)

-- what was added, if it was
pub if_added : {E : Type 0} (r : Result (Unit {0}) E) (P : Type 0) (new xs zs : List Bool)
    → new ≡ cond (is_ok r) (xs ++ zs) xs → (new ≡ xs ++ zs → P) → OnOk r P
if_added (Ok x) P new xs zs e f = f e
if_added (Err x) P new xs zs e f = tt

-- the mapping matrix has room for that part
pub matrix_room : (g : GridView) (r b : ℕ) (xs : List Bool) → r < mapping g.size → b < across g.size
    → xs ≡ first_modules (mapping g.size) (matrix_module g) (r * mapping g.size + b * region g.size)
    → length xs + region g.size ≤ mapping g.size * mapping g.size
matrix_room g r b xs row_in b_in begun =
    let n = mapping g.size in
    let rows : (r + 1) * n ≤ n * n = mul-le-mul_right n (let l : r + 1 ≤ n = omega arith in l) in
    omega (
      arith,
      parts_fit b (across g.size) (region g.size) b_in,
      rows,
      ap length begun ∙ length-map-range_with_len _ 0 (r * n + b * region g.size),
    )

-- all rows are made
pub all_rows : (s t : Size) (row end : ℕ) → s ≡ t → end ≡ mapping s → row ≡ end → row * mapping t ≡ mapping t * mapping t
all_rows s t row end e is last = ap (λ (x : ℕ). x * mapping t) (last ∙ is ∙ ap mapping e)

-- how many modules the finder patterns have
pub counted : (s t : Size) (q h : ℕ) → s ≡ t → q ≡ regions s → h ≡ region s → q * (4 * h + 4) ≡ frame_module_count t
counted s t q h e a b = search rules
