use Rattle.dm_placement.proofs.TakenPlaces.{kept_more}
use Rattle.dm_placement.proofs.layout.VecArrayUsize8Taker.take.Goals as goal

pub returns : goal.returns
returns g c = λ first s k has of.
    let push = c.push_reserved.ensures in (kept_more s k _ c.args.places _ has.0 of push.items, rw push.capacity has.1)
