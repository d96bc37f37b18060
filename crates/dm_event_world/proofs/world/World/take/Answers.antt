use Rattle.std.proofs.Common.{arith}
use Rattle.dm_event_world.proofs.Changing.{names_none, names_none_still, no_printer, past_end, read_at, read_by}
use Rattle.dm_event_world.proofs.EachEvent.{took}
use Rattle.dm_event_world.proofs.world.World.take.Goals as goal

pub returns-in_default : goal.returns-in_default
returns-in_default g c =
    let past = rw c.deref.ensures.value at c.in_default.ensures.lookup.3 in
    names_none _ _ _ c.self.view_is (λ relay s named. past_end _ _ _ s.tickets past named.1)

pub returns-in_default-get_mut : goal.returns-in_default-get_mut
returns-in_default-get_mut g c = names_none_still _ _ _ c.self.view_is
    (λ relay s named. no_printer _ relay c.args.printer
    (λ there. (let no = c.in_default-get_mut.ensures.variant.1 (omega (arith, c.self.inside.printers.ok.0)) in cc)) s named.0)

pub returns : goal.returns
returns g c = took _ _ _ _ _ _ _ _ _ c.self.view_is
    (read_at _ _ _ c.in-Some-get_mut.ensures.item.3.0 c.in-Some-get_mut.ensures.value)
    (read_by _ _ _ _ c.deref.ensures.value c.in-Some.ensures.lookup.1 c.in-Some.ensures.lookup.3.0)
    (c.take.ensures.ends c.args.ticket)
