-- What flipping one module of a grid does to its mapping matrix.
use Rattle.std.specs.Prelude.{◌/◌, ◌%◌, not}
use Rattle.std.proofs.Common.{◌≡◌, ℕ, ◌+◌, ◌*◌, ◌<◌, get_or, set, Bool, true, false, inl, inr, ap, sym, ◌∙◌, arith, subst, zero-add, length-set, get_or-set_same, get_or-set_other}
use Rattle.std.proofs.lemmas.Nat.{mul-add-lt, mod_below, same_from_place, div-mul-add, mod-mul-add, div-add-mod'}
use Rattle.std.proofs.lemmas.{Bool.Decides.eqb_tells, List.ext_get_or, List.FromFn.get_or-map-range_with_len}
use Rattle.dm_size.specs.Sizes.{side, region, across, mapping}
use Rattle.dm_size.specs.Squares.{Square, IsWhole, module_at, with_flipped}
use Rattle.dm_finder_frame.specs.Frame.{is_on_frame, mapping_place, grid_place, matrix_module, matrix_modules, FlipsOneModule, GridView, IsWholeGrid, grid_module_at, square_of, grid_with_flipped}
use Rattle.dm_finder_frame.proofs.FramedGrids.{matrix_is_whole, column_below, place_within, place_inside}
use Rattle.dm_finder_frame.proofs.GridPlaces.{fills_side, some_region, mapping_of_grid_place, grid_of_mapping_place, mapping_place_below, no_frame_inside}

-- the flipped module, and every other one
flipped_same : (g : Square) (r c : ℕ) → IsWhole g → r < g.side → c < g.side →
    module_at (with_flipped g r c) r c ≡ not (module_at g r c)
flipped_same g r c whole hr hc = grind (arith, mul-add-lt, get_or-set_same)

flipped_other : (g : Square) (r c i j : ℕ) → c < g.side → j < g.side → (i ≡ r → j ≡ c → ⊥) →
    module_at (with_flipped g r c) i j ≡ module_at g i j
flipped_other g r c i j hc hj ne =
    get_or-set_other g.modules (r * g.side + c) (i * g.side + j) (not (module_at g r c)) false
    (λ e. let p = same_from_place i j r c g.side hj hc e in ne p.0 p.1)

-- a module of the mapping matrix of a grid
matrix_at : (g : GridView) (i : ℕ) → i < mapping g.size * mapping g.size
    → get_or (matrix_modules g) i false ≡ matrix_module g (i / mapping g.size) (i % mapping g.size)
unfolding matrix_modules
matrix_at g i l = grind (arith, get_or-map-range_with_len, zero-add)

-- A module of a finder pattern is flipped: the mapping matrix stays as it is.
frame_flipped : (g : GridView) (r c : ℕ) → c < side g.size
    → is_on_frame (region g.size) (r % (region g.size + 2)) (c % (region g.size + 2)) ≡ true
    → matrix_modules (grid_with_flipped g r c) ≡ matrix_modules g
frame_flipped g r c hc e =
    let s = g.size in
    let n = mapping s in
    let h = region s in
    let g' = grid_with_flipped g r c in
    ext_get_or false (matrix_modules g') (matrix_modules g) (matrix_is_whole g' ∙ sym (matrix_is_whole g))
    (λ i l.
    let li = subst (λ (x : ℕ). i < x) (matrix_is_whole g') l in
    matrix_at g' i li
    ∙ flipped_other (square_of g) r c (grid_place h (i / n)) (grid_place h (i % n)) hc
    (place_within s (i % n) (column_below n i li))
    (λ a b. true_false _ e (ap (λ x. is_on_frame h (x % (h + 2)) (c % (h + 2))) (sym a)
    ∙ ap (λ x. is_on_frame h (grid_place h (i / n) % (h + 2)) (x % (h + 2))) (sym b) ∙ place_inside s (i / n) (i % n)))
    ∙ sym (matrix_at g i li))
  where
    true_false : (b : Bool) → b ≡ true → b ≡ false → ⊥
    true_false b t f = cc

-- A module off the finder patterns is flipped: so is the module of the mapping matrix at its cell.
matrix_flipped : (g : GridView) (r c : ℕ) → IsWholeGrid g → r < side g.size → c < side g.size
    → is_on_frame (region g.size) (r % (region g.size + 2)) (c % (region g.size + 2)) ≡ false
    → matrix_modules (grid_with_flipped g r c)
    ≡ set (matrix_modules g) (mapping_place (region g.size) r * mapping g.size + mapping_place (region g.size) c)
    (not (get_or (matrix_modules g)
    (mapping_place (region g.size) r * mapping g.size + mapping_place (region g.size) c) false))
matrix_flipped g r c whole hr hc e =
    let s = g.size in
    let n = mapping s in
    let h = region s in
    let q = across s in
    let some = some_region s in
    let z : 0 < h = omega arith in
    let w : 0 < h + 2 = omega arith in
    let b = no_frame_inside h (r % (h + 2)) (c % (h + 2)) (mod_below r (h + 2) w) (mod_below c (h + 2) w) e in
    let hp = mapping_place_below h q r b.0 b.1 (subst (λ (x : ℕ). r < x) (sym (fills_side s)) hr) in
    let hq = mapping_place_below h q c b.2 b.3 (subst (λ (x : ℕ). c < x) (sym (fills_side s)) hc) in
    let gr = grid_of_mapping_place h r b.0 b.1 in
    let gc = grid_of_mapping_place h c b.2 b.3 in
    let k = mapping_place h r * n + mapping_place h c in
    let lk = mul-add-lt (mapping_place h r) n (mapping_place h c) n hp hq in
    let g' = grid_with_flipped g r c in
    let v = not (get_or (matrix_modules g) k false) in
    let kr : k / n ≡ mapping_place h r = div-mul-add (mapping_place h r) n (mapping_place h c) hq in
    let kc : k % n ≡ mapping_place h c = mod-mul-add (mapping_place h r) n (mapping_place h c) hq in
    let pr : grid_place h (k / n) ≡ r = ap (grid_place h) kr ∙ gr in
    let pc : grid_place h (k % n) ≡ c = ap (grid_place h) kc ∙ gc in
    let here : get_or (matrix_modules g) k false ≡ grid_module_at g r c =
    matrix_at g k lk ∙ ap (λ x. grid_module_at g x (grid_place h (k % n))) pr ∙ ap (λ x. grid_module_at g r x) pc in
    let there : get_or (matrix_modules g') k false ≡ grid_module_at g' r c =
    matrix_at g' k lk ∙ ap (λ x. grid_module_at g' x (grid_place h (k % n))) pr ∙ ap (λ x. grid_module_at g' r x) pc in
    ext_get_or false (matrix_modules g') (set (matrix_modules g) k v)
    (matrix_is_whole g' ∙ sym (matrix_is_whole g) ∙ sym (length-set (matrix_modules g) k v))
    (λ i l.
    let li = subst (λ (x : ℕ). i < x) (matrix_is_whole g') l in
    elim (eqb_tells i k) [
      | inl w ↦
          (ap (λ x. get_or (matrix_modules g') x false) w.1 ∙ there ∙ flipped_same (square_of g) r c whole hr hc ∙
          ap not (sym here)
          ∙ sym (get_or-set_same (matrix_modules g) k v false (subst (λ (x : ℕ). k < x) (sym (matrix_is_whole g)) lk))
          ∙ ap (λ x. get_or (set (matrix_modules g) k v) x false) (sym w.1))
      | inr w ↦
          (matrix_at g' i li
          ∙ flipped_other (square_of g) r c (grid_place h (i / n)) (grid_place h (i % n)) hc
          (place_within s (i % n) (column_below n i li))
          (λ a d. w.1 (sym (div-add-mod' i n)
          ∙ ap (λ x. x * n + i % n) (sym (mapping_of_grid_place h (i / n) z) ∙ ap (mapping_place h) a)
          ∙ ap (λ x. mapping_place h r * n + x) (sym (mapping_of_grid_place h (i % n) z) ∙ ap (mapping_place h) d)))
          ∙ sym (matrix_at g i li) ∙ sym (get_or-set_other (matrix_modules g) k i v false w.1))
    ])

-- To flip a module of a grid is to flip the module of its mapping matrix at that module's cell, if it has one.
pub flips_one_module : FlipsOneModule
flips_one_module g r c whole hr hc = grind (arith, frame_flipped, matrix_flipped)
