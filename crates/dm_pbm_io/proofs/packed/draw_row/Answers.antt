use Rattle.std.proofs.lemmas.{Grind.common_steps, List.take_more, List.length-take-le}
use Rattle.std.proofs.Common.{◌≡◌, ◌<◌, ℕ, ◌+◌, ◌-◌, ◌*◌, ◌++◌, ◌∷◌, [], List, Bool, min, length, take, drop, get_or, flat_map, ap, sym, ◌∙◌, append-nil, arith, take_all, length-drop, drop_of_length-le}
use borrow.Rule.Slice.PartMut.{put_mid, post_of}
use Rattle.dm_placement.specs.Placement.{byte_bits}
use Rattle.dm_pbm_io.specs.Header.{pixels_of_row}
use Rattle.dm_pbm_io.proofs.Rows.{row_more}
use Rattle.dm_pbm_io.proofs.packed.draw_row.Goals as goal

-- the last pixels of a row, of which the whole bytes are drawn
last_drawn : (whole rest width : ℕ) (row : List ℕ) (pixels last : List Bool) → length pixels ≡ width
    → 8 * whole + rest ≡ width → 0 < rest → rest < 8 → length row ≡ whole + 1
    → take (8 * whole) pixels ≡ flat_map byte_bits (take whole row) → last ≡ take rest (byte_bits (get_or row whole 0))
    → put_mid (8 * whole) (length pixels - 8 * whole) pixels last ≡ pixels_of_row width row
last_drawn whole rest width row pixels last wide parts some few rows done is =
    let b = get_or row whole 0 in
    let left = take whole row in
    let first = take (8 * whole) pixels in
    let none : post_of (8 * whole) (length pixels - 8 * whole) pixels ≡ [] =
    drop_of_length-le (drop (8 * whole) pixels) (omega (arith, length-drop (8 * whole) pixels)) in
    let short : length first ≡ 8 * whole = length-take-le (8 * whole) pixels (omega arith) in
    let front : pixels_of_row width left ≡ first = ap (take width) (sym done) ∙ take_all width first (omega arith) in
    let size : length left ≡ whole = length-take-le whole row (omega arith) in
    let room : min (width - 8 * whole) 8 ≡ rest = omega arith in
    let all : left ++ b ∷ [] ≡ row = cc (take_more row whole 0 (omega arith), take_all (whole + 1) row (omega arith)) in
    search (arith, append-nil, row_more)

pub returns-then-rest-ne0 : goal.returns-then-rest-ne0
returns-then-rest-ne0 c = grind (arith, common_steps, last_drawn)
