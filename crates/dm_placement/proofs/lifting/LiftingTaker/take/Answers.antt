use Rattle.std.proofs.Common.{◌≡◌, arith, ap, length, ◌∙◌, ◌++◌, ◌∷◌, [], rules}
use Rattle.dm_placement.proofs.{TakenPlaces.all_in, TakenPlaces.read_count, TakenPlaces.read_more}
use Rattle.dm_placement.proofs.lifting.LiftingTaker.take.Goals as goal

pub word_at-requires : goal.word_at-requires
word_at-requires g c =
    let r = c.requires in
    let eight : length c.args.places ≡ 8 = search rules in
    all_in r.1 r.2 _ _ r.4 eight r.3.0.whole

pub push-requires : goal.push-requires
push-requires g c =
    let r = c.requires in
    let next = r.4.is_word in
    (search rules, omega (arith, read_count r.1 _ r.2 _ r.3.0, r.3.2))

pub returns : goal.returns
returns g c = λ first s k has of.
    let words = c.args.self.now.words.items in
    (read_more s _ k words _ _ has.0 of (c.push.ensures.items ∙ ap (λ w. words ++ w ∷ []) c.word_at.ensures), has.1, has.2)
