use Rattle.std.proofs.Common.{◌+◌, List, arith, length, subst, sym}
use Rattle.dm_placement.specs.declared.shape.{Shape.Shape}
use Rattle.dm_placement.proofs.WalkedWords.{places_here, word_inside}
use Rattle.dm_placement.proofs.walk.take_word.Goals as goal

pub take-requires : goal.take-requires
take-requires g c =
    let r = c.requires.comes in
    let new = word_inside c.args.side c.args.row c.args.column (omega arith) (omega arith) (omega arith) (omega arith) in
    (r.0, r.1, r.2, r.4, places_here r.1 r.2 _ _ _ _ r.5 r.3 new c.places_inside.ensures)

pub returns-then-column-side : goal.returns-then-column-side
returns-then-column-side g c = λ first s k side has comes.
    let new = word_inside c.args.side c.args.row c.args.column (omega arith) (omega arith) (omega arith) (omega arith) in
    subst (λ (l : List Shape). g.T.Taker.has_taken first c.take.new.self s (k + length l)) (sym new)
    (c.take.ensures first s k has (places_here s k _ _ _ _ comes side new c.places_inside.ensures))
