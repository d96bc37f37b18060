use Rattle.std.proofs.lemmas.List.FromFn.{length-map-range_with_len}
use Rattle.dm_size.specs.Sizes.{side}
use Rattle.dm_finder_frame.proofs.LentRows.{row_lent}
use Rattle.dm_finder_frame.proofs.grid.LentGrid.row.Goals as goal

pub returns-clause-modules : goal.returns-clause-modules
returns-clause-modules c =
    let inside = c.self.inside in
    rw (← c.self.view_is, c.side.ensures.value) (row_lent (side inside.size) inside.width c.args.row inside.modules.now
    c.self.invariant.0 c.self.invariant.1 (rw (← c.self.view_is) at c.requires))

pub returns-clause-whole : goal.returns-clause-whole
returns-clause-whole c = rw (← c.self.view_is) (length-map-range_with_len _ 0 _)
