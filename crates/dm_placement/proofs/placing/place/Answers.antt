use Rattle.std.proofs.Common.{refl}
use Rattle.dm_placement.proofs.TakenPlaces.{drawn_first}
use Rattle.dm_placement.proofs.placing.place.Goals as goal

pub walk-requires : goal.walk-requires
walk-requires g c =
    (drawn_first _ _ _ _ c.requires.count c.mapping.ensures.value c.in_ok-matrix.ensures, refl)
