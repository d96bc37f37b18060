-- The grid inside the quiet zone of the image of a grid is that grid.
use Rattle.std.proofs.Common.{◌≡◌, ℕ, ◌+◌, ◌-◌, ◌*◌, ◌/◌, ◌%◌, ◌<◌, Bool, List, false, get_or, map, arith}
use Rattle.std.specs.List.{range_with_len}
use Rattle.std.proofs.lemmas.List.FromFn.{fill_by_all, get_or-map-range_with_len, length-map-range_with_len}
use Rattle.std.proofs.lemmas.Nat.{div-mul-add, mod-mul-add, mul-add-lt}
use Rattle.std.proofs.Math.Nat.{mod-lt, mod-add-div, div-lt_iff_lt-mul}
use Rattle.dm_size.specs.Sizes.{side}
use Rattle.dm_finder_frame.specs.Frame.{GridView, square_of, IsWholeGrid}
use Rattle.dm_pbm_io.specs.{Image.pixel_with_quiet_zone, Image.pixels_with_quiet_zone, Laws.IsTakenBack}
use Rattle.dm_size.proofs.Sound.{sound}
use Rattle.dm_pbm_io.proofs.QuietZone.{within}

-- the module with this index inside the quiet zone of pixels w wide
abbrev inner_module : List Bool → ℕ → ℕ → ℕ → Bool
inner_module pixels w s i = get_or pixels ((i / s + 1) * w + (i % s + 1)) false

-- the pixel of a module
module_again : (g : GridView) (k : ℕ) → k < side g.size * side g.size
    → get_or g.modules k false ≡ inner_module (pixels_with_quiet_zone (square_of g)) (side g.size + 2) (side g.size) k
module_again g k h =
    let n = side g.size in
    let small = (sound g.size).smallest_side in
    let row : k / n < n = (div-lt_iff_lt-mul {k = n} {x = k} {y = n} (omega (arith, small))).1 h in
    let column : k % n < n = mod-lt k (omega (arith, small)) in
    let is : k / n * n + k % n ≡ k = let e = mod-add-div k n in omega (arith, e) in
    let at = (k / n + 1) * (n + 2) + (k % n + 1) in
    let pixel : ℕ → Bool = λ i. pixel_with_quiet_zone (square_of g) (i / (n + 2)) (i % (n + 2)) in
    let inside = mul-add-lt (k / n + 1) (n + 2) (k % n + 1) (n + 2) (omega arith) (omega arith) in
    let above : at / (n + 2) ≡ k / n + 1 = div-mul-add (k / n + 1) (n + 2) (k % n + 1) (omega arith) in
    let beside : at % (n + 2) ≡ k % n + 1 = mod-mul-add (k / n + 1) (n + 2) (k % n + 1) (omega arith) in
    grind (arith, get_or-map-range_with_len, within)

pub taken_back : (g : GridView) (plain : Bool) → IsWholeGrid g → IsTakenBack g plain
taken_back g plain whole =
    let n = side g.size in
    let pixels = pixels_with_quiet_zone (square_of g) in
    let less : n + 2 - 2 ≡ n = omega arith in
    let modules : g.modules ≡ map (inner_module pixels (n + 2) n) (range_with_len 0 (n * n)) =
    fill_by_all (inner_module pixels (n + 2) n) g.modules (n * n) false whole (λ k h. module_again g k h) in
    grind (arith, length-map-range_with_len)
