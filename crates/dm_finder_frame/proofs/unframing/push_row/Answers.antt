use Rattle.std.proofs.Common.{◌≡◌, arith, false, true}
use Rattle.std.proofs.lemmas.List.{length-take}
use Rattle.dm_finder_frame.proofs.RowSteps.{matrix_room}
use Rattle.dm_finder_frame.proofs.unframing.push_row.Goals as goal

pub unreachable-requires : goal.unreachable-requires
unreachable-requires g c =
    let room = matrix_room c.args.grid.now c.args.row c.loop-b.b c.loop-b.modules.items c.requires.row_in
    (grind arith) c.loop-b.invariant in
    let never : false ≡ true = c.in_default.ensures.variant.1 (grind (arith, length-take, room)) in cc
