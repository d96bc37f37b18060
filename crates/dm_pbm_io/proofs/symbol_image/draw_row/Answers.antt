use Rattle.std.proofs.Common.{◌+◌, ◌∙◌, ap, refl}
use Rattle.dm_size.specs.Sizes.{side}
use Rattle.dm_finder_frame.specs.Frame.{square_of}
use Rattle.dm_pbm_io.proofs.QuietZone.{row_drawn, same_place}
use Rattle.dm_pbm_io.proofs.symbol_image.draw_row.Goals as goal

pub returns : goal.returns
returns g c =
    let grid = c.args.grid.now in
    row_drawn (square_of grid)
    (side grid.size + 2) c.args.row c.args.pixels.now _ c.copy_from_slice.new.self c.size.ensures.whole refl
    c.requires.row_in
    (c.copy_from_slice.ensures.after ∙ rw c.lend.ensures at c.row.ensures.modules)
    (same_place (square_of grid) c.side-side.result c.args.row c.args.pixels.now c.copy_from_slice.new.self
    (c.side-side.ensures.value ∙ ap side c.size.ensures.same))
    c.requires.above
