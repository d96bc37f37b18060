use Rattle.std.proofs.Common.{sym}
use Rattle.dm_placement.proofs.Places.{places_inside}
use Rattle.dm_placement.proofs.shape.places_inside.Goals as goal

pub returns : goal.returns
returns c =
    rw c.place_at-at.ensures (sym (places_inside c.args.side c.args.anchor.row c.args.anchor.column c.requires.rows.0
    c.requires.rows.1 c.requires.columns.0 c.requires.columns.1))
