use Rattle.std.proofs.Common.{arith, below_more, refl, sym, ◌∙◌}
use Rattle.std.proofs.lemmas.Bool.{false≢true}
use Rattle.dm_event_world.proofs.ApartRanges.{IsApartFromRest, apart_from_rest, apart_from_rests, rest_as_taken, taken_as_rest}
use Rattle.dm_event_world.proofs.printer_opening.are_disjoint.Goals as goal

pub loop-i-preserved : goal.loop-i-preserved
loop-i-preserved c = below_more (IsApartFromRest c.args.ranges.now) c.loop-i.i c.loop-i.invariant
    (rest_as_taken c.args.ranges.now c.loop-i.i (record { first = 0; last = 0 }) (omega arith)
    (c.is_apart_from_all.ensures.0 c.if-not-is_apart_from_all.false))

pub returns-then-not-is_apart_from_all : goal.returns-then-not-is_apart_from_all
returns-then-not-is_apart_from_all c = (
  (λ never. absurd (false≢true never)),
  (λ apart. sym c.if-not-is_apart_from_all.true ∙ c.is_apart_from_all.ensures.1
      (taken_as_rest c.args.ranges.now c.loop-i.i (record { first = 0; last = 0 })
      (apart_from_rest c.args.ranges.now c.loop-i.i apart))),
)

pub returns : goal.returns
returns c = (
  (λ _. apart_from_rests c.args.ranges.now (λ i there. c.loop-i.invariant i (omega arith))),
  (λ _. refl),
)
