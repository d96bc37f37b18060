use Rattle.std.proofs.Common.{◌≡◌, ◌+◌, ◌*◌, ℕ, false, add-zero, arith, ap, get_or, subst, ◌∙◌}
use Rattle.dm_size.specs.Sizes.{mapping}
use Rattle.dm_placement.specs.{Placement.byte_bits, inner.Places.HasBits}
use Rattle.dm_placement.proofs.{EachSize.few_words, TakenPlaces.drawn_more, TakenPlaces.word_in}
use Rattle.dm_placement.proofs.placing.PlacingTaker.take.Goals as goal

pub loop-b-init : goal.loop-b-init
loop-b-init g c = λ s k h a. rw add-zero h.bits

pub make-requires : goal.make-requires
make-requires g c =
    let r = c.requires in
    let p = c.loop-b.invariant r.1 r.2 r.3.0 r.4 in
    rw p.side (word_in r.1 r.2 _ c.loop-b.b r.4 c.loop-b-test.true)

pub loop-b-preserved : goal.loop-b-preserved
loop-b-preserved g c = λ s k h a.
    let words = c.args.self.now.words.now in
    drawn_more s c.args.places words c.loop-b.matrix c.make.new.self k c.loop-b.b _ a (c.loop-b.invariant s k h a)
    c.loop-b-test.true (ap (λ l. get_or l c.loop-b.b false)
    (c.bits_of-bits.ensures ∙ ap (λ j. byte_bits (get_or words j 0)) h.next)) c.make.ensures

pub overflow_add-self : goal.overflow_add-self
overflow_add-self g c = let r = c.requires in omega (arith, few_words r.1, r.4.is_word, r.3.0.next)

pub returns : goal.returns
returns g c = λ first s k has a.
    let h = has.0 in
    let all : 8 * k + c.loop-b.b ≡ 8 * (k + 1) = omega arith in
    let bits = subst (λ (j : ℕ). HasBits (mapping s) c.args.self.now.words.now c.loop-b.matrix j) all
    (c.loop-b.invariant s k h a) in
    (record { count = h.count; next = ap (λ j. j + 1) h.next; bits = bits }, has.1)
