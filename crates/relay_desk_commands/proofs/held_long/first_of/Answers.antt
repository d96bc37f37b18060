use Rattle.std.proofs.Common.{arith, sym}
use Rattle.std.proofs.lemmas.List.{length-take-le, take_all}
use Rattle.relay_desk_commands.proofs.held_long.first_of.Goals as goal

pub slice_bounds-result-end : goal.slice_bounds-result-end
slice_bounds-result-end c = sym (length-take-le 40 c.args.page.now (omega (arith, c.if-page-gt-MOST_SHOWN.true)))

pub returns-else-page-gt-MOST_SHOWN : goal.returns-else-page-gt-MOST_SHOWN
returns-else-page-gt-MOST_SHOWN c = sym (take_all 40 c.args.page.now (omega (arith, c.if-page-gt-MOST_SHOWN.false)))
