-- The image of a grid, drawn row by row into light pixels.
use Rattle.std.specs.{Prelude.nat_lt, Prelude.if◌then◌else◌, List.between}
use Rattle.std.proofs.Common.{◌≡◌, ℕ, ◌+◌, ◌-◌, ◌*◌, ◌/◌, ◌%◌, ◌<◌, ◌≤◌, Bool, false, List, ◌++◌, length, take, drop, get_or, ap, ◌∙◌, arith, ⊎_elim}
use Rattle.std.proofs.Math.Nat.{mul-le-mul_right, mod-lt, mod-add-div, div-lt_iff_lt-mul}
use Rattle.std.proofs.lemmas.{List.FromFn.fill_by_all, Bool.cases_lt, Bool.Decides.nat_tests}
use Rattle.std.proofs.lemmas.List.{length-append, length-drop, length-take-le, get_or_append_left, get_or-append_right, get_or-take, get_or-drop}
use Rattle.std.proofs.lemmas.List.Edits.{length-between, get_or-between}
use Rattle.dm_size.specs.Squares.{Square, IsWhole, module_at}
use Rattle.dm_pbm_io.specs.{inner.Streaming.IsDrawnTo, Image.pixel_with_quiet_zone, Image.pixels_with_quiet_zone}

-- a list of which a part is written over
abbrev over : ℕ → ℕ → List Bool → List Bool → List Bool
over a k xs ys = take a xs ++ (ys ++ drop k (drop a xs))

over_below : (a k : ℕ) (xs ys : List Bool) (i : ℕ) → a ≤ length xs → i < a →
    get_or (over a k xs ys) i false ≡ get_or xs i false
over_below a k xs ys i h l = grind (arith, length-take-le, get_or_append_left, get_or-take)

over_within : (a k : ℕ) (xs ys : List Bool) (c : ℕ) → a ≤ length xs → c < length ys
    → get_or (over a k xs ys) (a + c) false ≡ get_or ys c false
over_within a k xs ys c h l = grind (arith, get_or-append_right, length-take-le, get_or_append_left)

over_above : (a k : ℕ) (xs ys : List Bool) (i : ℕ) → a ≤ length xs → length ys ≡ k → a + k ≤ i
    → get_or (over a k xs ys) i false ≡ get_or xs i false
over_above a k xs ys i h e l = grind (arith, get_or-append_right, length-take-le, get_or-drop)

length-over : (a k : ℕ) (xs ys : List Bool) → a + k ≤ length xs → length ys ≡ k → length (over a k xs ys) ≡ length xs
length-over a k xs ys h e = grind (arith, length-take-le, length-append, length-drop)

-- the place of a row in the image, as the code writes it
pub same_place : (g : Square) (n row : ℕ) (xs ys : List Bool) → n ≡ g.side
    → over ((row + 1) * (n + 2) + 1) ((row + 1) * (n + 2) + 1 + n - ((row + 1) * (n + 2) + 1)) xs ys ≡ over ((row + 1) *
    (g.side + 2) + 1) g.side xs ys
same_place g n row xs ys e = grind arith

-- what is drawn, and what is still light
reached : (r n : ℕ) (b : Bool) → r < n → (if nat_lt r n then b else false) ≡ b
reached r n b h = grind (arith, nat_tests)

not_reached : (r n : ℕ) (b : Bool) → n ≤ r → (if nat_lt r n then b else false) ≡ false
not_reached r n b h = grind (arith, nat_tests)

-- the quiet zone left and right
left : (g : Square) (r c : ℕ) → c < 1 → pixel_with_quiet_zone g r c ≡ false
left g r c h = grind (arith, nat_tests)

right : (g : Square) (r c : ℕ) → g.side + 1 ≤ c → pixel_with_quiet_zone g r c ≡ false
right g r c h = grind (arith, nat_tests)

-- a module and its pixel
pub within : (g : Square) (r c : ℕ) → r < g.side → c < g.side →
    pixel_with_quiet_zone g (r + 1) (c + 1) ≡ module_at g r c
within g r c h k = grind arith

-- the modules of a row, of which the grid has them all
row_size : (g : Square) (row : ℕ) → IsWhole g → row < g.side →
    length (between (row * g.side) ((row + 1) * g.side) g.modules) ≡ g.side
row_size g row whole h = grind (arith, mul-le-mul_right, length-between)

-- a pixel of the row that is drawn
new_row : (g : Square) (w rows : ℕ) (pixels modules : List Bool) → IsWhole g → w ≡ g.side + 2 → rows < g.side
    → modules ≡ between (rows * g.side) ((rows + 1) * g.side) g.modules → (rows + 1) * w + w ≤ length pixels →
    IsDrawnTo g w rows pixels
    → (c : ℕ) → c < w
    → get_or (over ((rows + 1) * w + 1) g.side pixels modules) ((rows + 1) * w + c) false ≡ pixel_with_quiet_zone g
    (rows + 1) c
new_row g w rows pixels modules whole ew hrow em fits before c hc =
    let n = g.side in
    let r = rows + 1 in
    let start = r * w + 1 in
    let size : length modules ≡ n = ap length em ∙ row_size g rows whole hrow in
    let light : get_or pixels (r * w + c) false ≡ false = grind arith in
    ⊎_elim (λ (h : c < 1). grind (arith, over_below, left))
    (λ (h : 1 ≤ c).
    ⊎_elim (λ (l : c < n + 1).
    let k = c - 1 in
    let place : r * w + c ≡ start + k = omega arith in
    let column : k + 1 ≡ c = omega arith in
    let below : k < n = omega arith in
    let row : (rows + 1) * n ≡ rows * n + n = omega arith in grind (arith, over_within, get_or-between, within))
    (λ (l : n + 1 ≤ c). grind (arith, over_above, right))
    (cases_lt c (n + 1)))
    (cases_lt c 1)

-- one row more
pub row_drawn : (g : Square) (w rows : ℕ) (pixels new modules : List Bool) → IsWhole g → w ≡ g.side + 2 → rows < g.side
    → modules ≡ between (rows * g.side) ((rows + 1) * g.side) g.modules →
    new ≡ over ((rows + 1) * w + 1) g.side pixels modules
    → IsDrawnTo g w rows pixels → IsDrawnTo g w (rows + 1) new
row_drawn g w rows pixels new modules whole ew hrow em en before =
    let n = g.side in
    let start = (rows + 1) * w + 1 in
    let size : length modules ≡ n = ap length em ∙ row_size g rows whole hrow in
    let rows_fit : (rows + 2) * w ≤ w * w = mul-le-mul_right w (let h : rows + 2 ≤ w = omega arith in h) in
    let count = before.count in
    let fits : (rows + 1) * w + w ≤ length pixels = omega (arith, rows_fit, count) in
    let at : List Bool → ℕ → Bool = λ xs i. get_or xs i false in
    record {
      count = ap length en ∙ length-over start n pixels modules (omega arith) size ∙ count;
      drawn = λ r c hr hc.
          ap (λ (xs : List Bool). at xs (r * w + c)) en
          ∙ ⊎_elim (λ (h : r < rows + 1). grind (arith, mul-le-mul_right, over_below, reached))
          (λ (h : rows + 1 ≤ r).
          search (arith, ⊎_elim, new_row, reached, mul-le-mul_right, over_above, not_reached, cases_lt))
          (cases_lt r (rows + 1));
    }

-- all rows
pub all_drawn : (g : Square) (w rows : ℕ) (pixels : List Bool) → w ≡ g.side + 2 → rows ≡ g.side →
    IsDrawnTo g w rows pixels
    → (r c : ℕ) → r < w → c < w → get_or pixels (r * w + c) false ≡ pixel_with_quiet_zone g r c
all_drawn g w rows pixels ew er drawn r c hr hc = grind arith

-- so they are the pixels of the image
pub drawn_pixels : (g : Square) (w rows : ℕ) (pixels : List Bool) → w ≡ g.side + 2 → rows ≡ g.side →
    IsDrawnTo g w rows pixels
    → pixels ≡ pixels_with_quiet_zone g
drawn_pixels g w rows pixels ew er drawn =
    fill_by_all (λ i. pixel_with_quiet_zone g (i / (g.side + 2)) (i % (g.side + 2))) pixels
    ((g.side + 2) * (g.side + 2)) false
    (drawn.count ∙ ap (λ n. n * n) ew)
    (λ k h. grind (arith, mod-lt, div-lt_iff_lt-mul, mod-add-div, all_drawn))
