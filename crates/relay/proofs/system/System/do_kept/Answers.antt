use Rattle.std.proofs.Common.{sym}
use Rattle.relay.proofs.system.System.do_kept.Goals as goal

pub returns-clause-does : goal.returns-clause-does
returns-clause-does g c =
    let there = rw (sym c.standard-2.view_is) at c.do_here-ended.ensures.does in
    let here = rw c.new-output.ensures.items at there in rw (sym c.standard.view_is) here
