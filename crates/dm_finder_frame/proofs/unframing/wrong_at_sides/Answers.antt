use Rattle.std.proofs.Common.{◌≡◌, ◌+◌, ◌*◌, ap, ◌∙◌, arith}
use Rattle.dm_size.specs.Sizes.{region, across, side}
use Rattle.dm_finder_frame.specs.inner.Filled.{wrong_among}
use Rattle.dm_finder_frame.proofs.GridPlaces.{even_columns, fills_side, most_across}
use Rattle.dm_finder_frame.proofs.RowSteps.{parts_fit}
use Rattle.dm_finder_frame.proofs.WrongCounts.{at_most_one, first_column, last_column, line_module, region_more, test_number}
use Rattle.dm_finder_frame.proofs.unframing.wrong_at_sides.Goals as goal

pub loop-b-preserved : goal.loop-b-preserved
loop-b-preserved c =
    grind (
      arith,
      at_most_one,
      even_columns,
      fills_side,
      first_column,
      last_column,
      line_module,
      parts_fit,
      region_more,
      test_number,
    )

pub overflow_add-wrong-in-loop-b : goal.overflow_add-wrong-in-loop-b
overflow_add-wrong-in-loop-b c = grind (arith, test_number, at_most_one, most_across)

pub returns-clause-count : goal.returns-clause-count
returns-clause-count c =
    let g = c.args.grid.now in
    let end : c.loop-b.b ≡ across g.size = omega (arith, c.requires.across) in
    c.loop-b.invariant.counted
    ∙ ap (wrong_among g (c.args.row * side g.size)) (ap (λ n. n * (region g.size + 2)) end ∙ fills_side g.size)
