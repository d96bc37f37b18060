use Rattle.std.proofs.Common.{arith}
use Rattle.dm_event_world.proofs.Changing.{names_none_still, no_printer, read_at}
use Rattle.dm_event_world.proofs.EachEvent.{printed}
use Rattle.dm_event_world.proofs.world.World.print.Goals as goal

pub returns : goal.returns
returns g c = printed _ _ _ _ _ _ _ _ _ _ _ c.self.view_is
    (read_at _ _ _ c.in-Some.ensures.item.3.0 c.in-Some.ensures.value) c.print.ensures.ends

pub returns-in_default : goal.returns-in_default
returns-in_default g c = names_none_still _ _ _ c.self.view_is (λ relay s named. no_printer _ relay c.args.printer
    (λ there. (let no = c.in_default.ensures.variant.1 (omega (arith, c.self.inside.printers.ok.0)) in cc)) s named)
