-- The grid of a mapping matrix: its modules, its matrix, and that none of its finder patterns' modules is wrong.
use Rattle.std.specs.{Prelude.◌/◌, Prelude.◌%◌, Prelude.not, Prelude.count_by, List.range_with_len}
use Rattle.std.proofs.Common.{◌≡◌, ℕ, zero, suc, ◌+◌, ◌*◌, ◌<◌, refl, List, [], ◌∷◌, get_or, map, Bool, true, false, cond, ◌&&◌, ap, sym, ◌∙◌, arith, zero-add}
use Rattle.std.proofs.lemmas.Nat.{mul-add-lt, div_below, mod_below, div-mul-add, mod-mul-add, div-add-mod'}
use Rattle.std.proofs.lemmas.List.FromFn.{fill_by_all, get_or-map-range_with_len, length-map-range_with_len}
use Rattle.dm_size.specs.{declared.size.Size.Size, Sizes.side, Sizes.region, Sizes.mapping}
use Rattle.dm_size.specs.Squares.{Square, IsWhole, module_at}
use Rattle.dm_finder_frame.specs.Frame.{is_on_frame, frame_value, mapping_place, grid_place, grid_module, grid_modules, grid_of_matrix, matrix_modules, matrix_of_grid, wrong_module, is_wrong, wrong_frame_modules, UnframeUndoesFrame, FrameHasNoWrongModule, GridView, IsWholeGrid, grid_module_at}
use Rattle.dm_finder_frame.proofs.GridPlaces.{some_region, grid_place_rest, mapping_of_grid_place, inside_no_frame}

pub positive : (n i : ℕ) → i < n * n → 0 < n
positive zero i h = absurd (omega arith)
positive (suc n) i h = omega arith

-- the row and the column of a place of a square
pub row_below : (n i : ℕ) → i < n * n → i / n < n
row_below n i h = div_below i n n (positive n i h) h

pub column_below : (n i : ℕ) → i < n * n → i % n < n
column_below n i h = mod_below i n (positive n i h)

-- the module of a grid made from a mapping matrix
pub grid_at : (s : Size) (m : Square) (r c : ℕ) → r < side s → c < side s →
    grid_module_at (grid_of_matrix s m) r c ≡ grid_module s m r c
unfolding grid_modules
grid_at s m r c hr hc =
    let n = side s in
    get_or-map-range_with_len (λ k. grid_module s m (k / n) (k % n)) 0 (n * n) (r * n + c) (r * n + c) false
    (mul-add-lt r n c n hr hc) (zero-add _)
    ∙ ap (λ x. grid_module s m x ((r * n + c) % n)) (div-mul-add r n c hc)
    ∙ ap (λ x. grid_module s m r x) (mod-mul-add r n c hc)

-- a grid made from a mapping matrix has all its modules
pub grid_is_whole : (s : Size) (m : Square) → IsWholeGrid (grid_of_matrix s m)
unfolding grid_modules
grid_is_whole s m = length-map-range_with_len _ 0 (side s * side s)

-- the mapping matrix of a grid has all its modules
pub matrix_is_whole : (g : GridView) → IsWhole (matrix_of_grid g)
unfolding matrix_modules
matrix_is_whole g = length-map-range_with_len _ 0 (mapping g.size * mapping g.size)

-- a place of the mapping matrix lies within the grid, on no frame
pub place_within : (s : Size) (r : ℕ) → r < mapping s → grid_place (region s) r < side s
place_within s r h = grind arith

pub place_inside : (s : Size) (r c : ℕ) →
    is_on_frame (region s) (grid_place (region s) r % (region s + 2)) (grid_place (region s) c % (region s + 2)) ≡ false
place_inside s r c = grind (arith, some_region, grid_place_rest, inside_no_frame, mod_below)

-- The mapping matrix of the grid of a mapping matrix is that matrix.
pub unframe_undoes_frame : (s : Size) → UnframeUndoesFrame s
unfolding matrix_modules
unframe_undoes_frame s m whole same =
    let n = mapping s in
    let h = region s in
    let some = some_region s in
    let z : 0 < h = omega arith in
    let f : ℕ → Bool = λ i. grid_module_at (grid_of_matrix s m) (grid_place h (i / n)) (grid_place h (i % n)) in
    sym (same_square m n (map f (range_with_len 0 (n * n))) same
    (fill_by_all f m.modules (n * n) false (whole ∙ ap (λ x. x * x) same)
    (λ i l.
    let at : i / n * m.side + i % n ≡ i = ap (λ x. i / n * x + i % n) same ∙ div-add-mod' i n in
    sym (grid_at s m (grid_place h (i / n)) (grid_place h (i % n)) (place_within s (i / n) (row_below n i l))
    (place_within s (i % n) (column_below n i l))
    ∙ ap (λ b. cond b (frame_value h (grid_place h (i / n) % (h + 2)) (grid_place h (i % n) % (h + 2)))
    (module_at m (mapping_place h (grid_place h (i / n))) (mapping_place h (grid_place h (i % n)))))
    (place_inside s (i / n) (i % n))
    ∙ ap (λ x. module_at m x (mapping_place h (grid_place h (i % n)))) (mapping_of_grid_place h (i / n) z)
    ∙ ap (λ x. module_at m (i / n) x) (mapping_of_grid_place h (i % n) z)
    ∙ ap (λ x. get_or m.modules x false) at))))
  where
    same_square : (m : Square) (n : ℕ) (xs : List Bool) → m.side ≡ n → m.modules ≡ xs →
        m ≡ record { side = n; modules = xs }
    same_square m n xs a b =
        let square : ℕ → List Bool → Square = λ n xs. record { side = n; modules = xs } in
        ap (λ v. square v m.modules) a ∙ ap (λ v. square n v) b

none_wrong : (frame value inner : Bool) → (frame && cond (cond frame value inner) (not value) value) ≡ false
none_wrong true true m = refl
none_wrong true false m = refl
none_wrong false v m = refl

none_counted : (xs : List ℕ) → count_by (λ (wrong : Bool). wrong) (map (λ (i : ℕ). false) xs) ≡ 0
none_counted [] = refl
none_counted (x ∷ xs) = none_counted xs

-- No module of a grid made from a mapping matrix is wrong.
pub frame_has_no_wrong_module : (s : Size) → FrameHasNoWrongModule s
unfolding wrong_frame_modules
frame_has_no_wrong_module s m =
    let n = side s in
    let h = region s in
    ap (count_by (λ (wrong : Bool). wrong))
    (fill_by_all (λ (i : ℕ). false) (map (is_wrong (grid_of_matrix s m)) (range_with_len 0 (n * n))) (n * n) false
    (length-map-range_with_len (is_wrong (grid_of_matrix s m)) 0 (n * n))
    (λ i l.
    get_or-map-range_with_len (is_wrong (grid_of_matrix s m)) 0 (n * n) i i false l (zero-add i)
    ∙ ap (λ d. wrong_module h d (i / n % (h + 2)) (i % n % (h + 2))) (grid_at s m (i / n) (i % n) (row_below n i l)
    (column_below n i l))
    ∙ none_wrong (is_on_frame h (i / n % (h + 2)) (i % n % (h + 2))) _ _))
    ∙ none_counted (range_with_len 0 (n * n))
