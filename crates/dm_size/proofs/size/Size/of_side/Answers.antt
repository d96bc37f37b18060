use Rattle.std.proofs.Common.{ap, ◌∙◌, arith}
use Rattle.std.proofs.lemmas.List.{get_or_default}
use Rattle.dm_size.specs.Sizes.{side}
use Rattle.dm_size.proofs.size.Size.of_side.Goals as goal

pub loop-size-preserved : goal.loop-size-preserved
loop-size-preserved c = λ k d less is. let before = c.loop-size.invariant k d in grind (arith, get_or_default)

pub returns-clause-none : goal.returns-clause-none
returns-clause-none c = λ none size is.
    let there = c.all-size-items.ensures.each size in
    c.loop-size.invariant there.0 size (omega (arith, there.1)) (ap side there.2 ∙ is)
