use Rattle.std.proofs.Common.{arith}
use Rattle.dm_event_world.proofs.Changing.{names_none, no_desk, read_by}
use Rattle.dm_event_world.proofs.EachEvent.{exported}
use Rattle.dm_event_world.proofs.world.World.export.Goals as goal

pub returns-in_default : goal.returns-in_default
returns-in_default g c =
    let past = rw c.deref.ensures.value at c.in_default.ensures.lookup.3 in names_none _ _ _ c.self.view_is
    (λ relay s named. no_desk _ relay c.args.desk (λ there. absurd (omega arith)) s named)

pub returns : goal.returns
returns g c = exported _ _ _ _ _ _ _ c.self.view_is
    (read_by _ _ _ _ c.deref.ensures.value c.in-Some.ensures.lookup.1 c.in-Some.ensures.lookup.3.0)
    c.export.ensures.ends
