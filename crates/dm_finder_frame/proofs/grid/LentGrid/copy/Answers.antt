use Rattle.std.proofs.Common.{◌≡◌, ap, refl, arith}
use Rattle.std.proofs.{Math.Seq.take-add, lemmas.List.take_all, lemmas.List.FromFn.length-map-range_with_len}
use Rattle.dm_finder_frame.specs.Frame.{GridView, IsWholeGrid}
use Rattle.dm_finder_frame.proofs.grid.LentGrid.copy.Goals as goal

pub loop-row-preserved : goal.loop-row-preserved
loop-row-preserved g c = grind (arith, take-add)

pub from_modules-requires : goal.from_modules-requires
from_modules-requires g c =
    let whole : IsWholeGrid c.args.self.now = rw (← c.self.view_is) (length-map-range_with_len _ 0 _) in
    let size = ap (λ (v : GridView). v.size) c.self.view_is in
    grind (arith, take_all, whole, size)

pub returns : goal.returns
returns g c =
    let whole : IsWholeGrid c.args.self.now = rw (← c.self.view_is) (length-map-range_with_len _ 0 _) in
    let size = ap (λ (v : GridView). v.size) c.self.view_is in
    let all : c.loop-row.modules.items ≡ c.args.self.now.modules = grind (arith, take_all, whole) in
    rw (c.from_modules.ensures, size, all) refl
