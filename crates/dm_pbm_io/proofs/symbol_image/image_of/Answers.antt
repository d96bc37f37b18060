use Rattle.std.proofs.Common.{◌≡◌, ◌+◌, ap, refl, ◌∙◌, arith}
use Rattle.dm_size.specs.Sizes.{side}
use Rattle.dm_finder_frame.specs.Frame.{square_of}
use Rattle.dm_pbm_io.proofs.{OneImage.same_picture, QuietZone.drawn_pixels}
use Rattle.dm_pbm_io.proofs.symbol_image.image_of.Goals as goal

pub returns-clause-image : goal.returns-clause-image
returns-clause-image g c =
    let grid = c.args.grid.now in
    let is : c.side-side.result ≡ side grid.size = c.side-side.ensures.value ∙ ap side c.size.ensures.same in
    let wide : c.side-side.result + 2 ≡ side grid.size + 2 = ap (λ n. n + 2) is in
    let end : c.loop-row.row ≡ c.side-side.result = omega arith in
    same_picture _ _ wide wide
    (drawn_pixels (square_of grid) (side grid.size + 2) c.loop-row.row c.loop-row.pixels.items refl
    (end ∙ is) c.loop-row.invariant) refl
