use Rattle.std.proofs.Common.{Bool, List, ap}
use Rattle.dm_size.specs.Sizes.{side}
use Rattle.dm_finder_frame.specs.Frame.{GridView}
use Rattle.dm_finder_frame.proofs.LentRows.{all_lent}
use Rattle.dm_finder_frame.proofs.grid.Grid.lend.Goals as goal

pub returns : goal.returns
returns g c =
    let inside = c.self.inside in
    let with : List Bool → GridView = λ modules. record { size = inside.size; modules = modules } in
    rw (c.from_rows.ensures, ← c.self.view_is, c.deref.ensures.value, c.side.ensures.value)
    (ap with (all_lent (side inside.size) inside.modules.items c.self.invariant))
