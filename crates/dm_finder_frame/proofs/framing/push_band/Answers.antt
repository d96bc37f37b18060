use Rattle.std.proofs.Common.{◌≡◌, ◌+◌, ◌*◌, ap, ◌∙◌, arith}
use Rattle.std.specs.Prelude.{◌%◌}
use Rattle.std.proofs.lemmas.Nat.{mod-mul-add}
use Rattle.dm_size.specs.Sizes.{region}
use Rattle.dm_finder_frame.proofs.framing.push_band.Goals as goal

pub push_inner_row-requires-clause-inside : goal.push_inner_row-requires-clause-inside
push_inner_row-requires-clause-inside g c =
    let f = region c.args.size + 2 in
    let row = c.args.band * (c.region-region.result + 2) + c.loop-place.place + 1 in
    let here : row ≡ c.args.band * f + (c.loop-place.place + 1) =
    ap (λ h. c.args.band * (h + 2) + c.loop-place.place + 1) c.region-region.ensures.value ∙ omega arith in
    let is = ap (λ r. r % f) here ∙ mod-mul-add c.args.band f (c.loop-place.place + 1) (omega arith) in
    (omega (arith, is), omega (arith, is))
