use Rattle.std.proofs.Common.{ap, refl, ◌∙◌}
use Rattle.dm_size.specs.Sizes.{mapping}
use Rattle.dm_placement.proofs.TakenPlaces.{drawn_first}
use Rattle.dm_placement.proofs.placing.place_with.Goals as goal

pub hand_over-requires : goal.hand_over-requires
hand_over-requires g c =
    (drawn_first _ _ _ _ c.requires.count (c.mapping.ensures.value ∙ ap mapping c.size.ensures) c.in_ok-matrix.ensures, refl)
