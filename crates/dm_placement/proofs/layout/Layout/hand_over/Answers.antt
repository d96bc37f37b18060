use Rattle.std.proofs.Common.{[], ap, arith, get_or, length}
use Rattle.dm_size.specs.Sizes.{all_words}
use Rattle.dm_placement.proofs.TakenPlaces.{kept_word}
use Rattle.dm_placement.proofs.layout.Layout.hand_over.Goals as goal

pub take-requires : goal.take-requires
take-requires g c =
    let i = c.loop-places.places-index in
    let all = c.deref-places-items.ensures.value in
    let kept = kept_word _ c.args.self.now _ i _ [] c.self.invariant c.self.view_is (omega (arith, ap length all, ap all_words c.self.view_is)) (ap (λ l. get_or l i []) all) in
    (c.args.taker.now, c.args.self.now, i, c.loop-places.invariant, kept)

pub loop-places-preserved : goal.loop-places-preserved
loop-places-preserved g c =
    let i = c.loop-places.places-index in
    let all = c.deref-places-items.ensures.value in
    let kept = kept_word _ c.args.self.now _ i _ [] c.self.invariant c.self.view_is (omega (arith, ap length all, ap all_words c.self.view_is)) (ap (λ l. get_or l i []) all) in
    c.take.ensures _ _ _ c.loop-places.invariant kept
