use Rattle.std.proofs.Common.{◌≡◌, ◌+◌, List, [], ◌∷◌, ap, length, subst, sym}
use Rattle.std.specs.Option.{option_to_list}
use Rattle.dm_placement.specs.declared.shape.{Shape.Shape}
use Rattle.dm_placement.proofs.WalkedWords.{fits_here, places_here}
use Rattle.dm_placement.proofs.walk.take_shape.Goals as goal

pub places_of-requires-clause-fits : goal.places_of-requires-clause-fits
places_of-requires-clause-fits g c =
    let r = c.requires.comes in fits_here r.1 r.2 _ _ _ r.5 r.3 (ap option_to_list c.in-Some.is)

pub take-requires : goal.take-requires
take-requires g c =
    let r = c.requires.comes in
    (r.0, r.1, r.2, r.4, places_here r.1 r.2 _ _ _ _ r.5 r.3 (ap option_to_list c.in-Some.is) c.places_of.ensures)

pub returns-in-Some : goal.returns-in-Some
returns-in-Some g c = λ first s k side has comes.
    let new : option_to_list c.args.shape ≡ c.in-Some.shape ∷ [] = ap option_to_list c.in-Some.is in
    subst (λ (l : List Shape). g.T.Taker.has_taken first c.take.new.self s (k + length l)) (sym new)
    (c.take.ensures first s k has (places_here s k _ _ _ _ comes side new c.places_of.ensures))
