-- Bits of bytes, rows of bytes, and rasters of rows.
use Rattle.std.proofs.Common.{◌≡◌, ℕ, ◌+◌, ◌-◌, ◌*◌, ◌<◌, min, Bool, true, false, ◌||◌, List, [], ◌∷◌, ◌++◌, length, take, refl, ap, ◌∙◌, arith, append-nil, length-append}
use Rattle.std.specs.List.{list_all, flat_map, concat, filter, AllByRecursion}
use Rattle.std.proofs.lemmas.{Grind.flat_map-append, List.take_all, List.take_min, List.map-append, List.length-take}
use Rattle.std.proofs.lemmas.List.{Folds.concat-append, Folds.list_all-append, Elements.filter-append}
use Rattle.std.proofs.{Math.Seq.take-append-add, lemmas.Bool.Decides.nat_tests}
use Rattle.dm_placement.specs.Placement.{byte_bits}
use Rattle.dm_pbm_io.specs.Header.{is_white, stride, pixels_of_row, IsPackedRaster, digit_of, is_pixel_digit, is_plain_sign, ShowsPixels}

length-bits : (row : List ℕ) → length (flat_map byte_bits row) ≡ 8 * length row
length-bits [] = refl
length-bits (b ∷ row) = let e = length-bits row in simp length-append (omega arith)

bits_single : (b : ℕ) → flat_map byte_bits (b ∷ []) ≡ byte_bits b
bits_single b = append-nil (byte_bits b)

-- one more byte of a row
pub row_more : (width at b : ℕ) (row : List ℕ) → length row ≡ at → 8 * at < width
    → pixels_of_row width (row ++ b ∷ []) ≡ pixels_of_row width row ++ take (min (width - 8 * at) 8) (byte_bits b)
row_more width at b row n room =
    let long : length (flat_map byte_bits row) ≡ 8 * at = length-bits row ∙ ap (λ k. 8 * k) n in
    let whole : pixels_of_row width row
    ≡ flat_map byte_bits row = take_all width (flat_map byte_bits row) (omega arith) in
    let parts : width ≡ length (flat_map byte_bits row) + (width - 8 * at) = omega arith in
    grind (arith, flat_map-append, bits_single, take-append-add, take_min)

pub length-row_of : (width : ℕ) (row : List ℕ) → length row ≡ stride width → length (pixels_of_row width row) ≡ width
length-row_of width row n = let e = length-bits row in simp length-take (omega arith)

pub packed_none : (width : ℕ) → IsPackedRaster [] width 0 []
packed_none width = record { rows = []; count = refl; each = tt; raster_is = refl; pixels_are = refl }

all-append : {X : Type 0} (P : X → Type 0) (xs : List X) (x : X) → AllByRecursion P xs → P x →
    AllByRecursion P (xs ++ x ∷ [])
all-append P [] x h p = (p, tt)
all-append P (y ∷ xs) x h p = (h.0, all-append P xs x h.1 p)

pub packed_more : (raster row : List ℕ) (width height : ℕ) (pixels : List Bool)
    → IsPackedRaster raster width height pixels → length row ≡ stride width
    → IsPackedRaster (raster ++ row) width (height + 1) (pixels ++ pixels_of_row width row)
packed_more raster row width height pixels p n = record {
  rows = p.rows ++ row ∷ [];
  count = let e = p.count in simp length-append (omega arith);
  each = all-append (λ r. length r ≡ stride width) p.rows row p.each n;
  raster_is = grind (arith, concat-append, append-nil);
  pixels_are = grind (arith, flat_map-append, append-nil);
}

length-concat : (n : ℕ) (rows : List (List ℕ)) → AllByRecursion (λ r. length r ≡ n) rows →
    length (concat rows) ≡ length rows * n
length-concat n [] h = omega arith
length-concat n (r ∷ rows) h = let e = length-concat n rows h.1 in let f = h.0 in simp length-append (grind arith)

pub length-packed : (raster : List ℕ) (width height : ℕ) (pixels : List Bool) →
    IsPackedRaster raster width height pixels
    → length raster ≡ height * stride width
length-packed raster width height pixels p = grind (arith, length-concat)

pub part_of : (row height n part : ℕ) → row < height → part < n → row * n + part < height * n
part_of row height n part h p = grind arith

-- one more sign of a plain raster
pub white_more : (text : List ℕ) (s : ℕ) (pixels : List Bool) → ShowsPixels text pixels → is_white s ≡ true
    → ShowsPixels (text ++ s ∷ []) pixels
white_more text s pixels p h = grind (arith, nat_tests, list_all-append, filter-append, append-nil)

digit_allowed : (pixel : Bool) → list_all is_plain_sign (digit_of pixel ∷ []) ≡ true
digit_allowed pixel = grind arith

pub digit_kept : (pixel : Bool) → filter is_pixel_digit (digit_of pixel ∷ []) ≡ digit_of pixel ∷ []
digit_kept pixel = grind arith

pub digit_more : (text : List ℕ) (pixel : Bool) (pixels : List Bool) → ShowsPixels text pixels
    → ShowsPixels (text ++ digit_of pixel ∷ []) (pixels ++ pixel ∷ [])
digit_more text pixel pixels p = grind (arith, list_all-append, digit_allowed, filter-append, digit_kept, map-append)

or_false : (a b : Bool) → a ≡ false → b ≡ false → (a || b) ≡ false
or_false a b p q = grind arith

pub other_sign : (s : ℕ) → is_white s ≡ false → is_pixel_digit s ≡ false → is_plain_sign s ≡ false
other_sign s w d = or_false (is_white s) (is_pixel_digit s) w d
