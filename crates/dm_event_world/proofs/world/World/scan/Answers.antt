use Rattle.std.proofs.Common.{arith}
use Rattle.dm_event_world.proofs.Changing.{names_none, names_none_still, no_desk, read_at, read_by}
use Rattle.dm_event_world.proofs.EachEvent.{scanned, flips_outside, label_past}
use Rattle.dm_event_world.proofs.world.World.scan.Goals as goal

pub scan-requires : goal.scan-requires
scan-requires g c = record { within = rw c.side.ensures.value at (c.are_within.ensures.0 c.if-not-are_within.false) }

pub returns-in_default : goal.returns-in_default
returns-in_default g c =
    let past = rw c.deref.ensures.value at c.in_default.ensures.lookup.3 in
    names_none _ _ _ c.self.view_is (λ relay s named. label_past _ relay c.args.label c.args.flips.now past s named.1)

pub returns-then-not-are_within : goal.returns-then-not-are_within
returns-then-not-are_within g c = names_none _ _ _ c.self.view_is
    (λ relay s named. flips_outside _ relay c.args.label c.args.flips.now c.in-Some.left.now
    (read_by _ _ _ _ c.deref.ensures.value c.in-Some.ensures.lookup.1 c.in-Some.ensures.lookup.3.0)
    (λ within. (let yes = c.are_within.ensures.1 (rw c.side.ensures.value within) in
    let no = c.if-not-are_within.true in cc)) s named.1)

pub returns-in_default-get_mut : goal.returns-in_default-get_mut
returns-in_default-get_mut g c = names_none_still _ _ _ c.self.view_is (λ relay s named. no_desk _ relay c.args.desk
    (λ there. (let no = c.in_default-get_mut.ensures.variant.1 (omega (arith, c.self.inside.desks.ok.0)) in cc)) s named.0)

pub returns : goal.returns
returns g c = scanned _ _ _ _ _ _ _ _ _ _ c.self.view_is
    (read_at _ _ _ c.in-Some-get_mut.ensures.item.3.0 c.in-Some-get_mut.ensures.value)
    (read_by _ _ _ _ c.deref.ensures.value c.in-Some.ensures.lookup.1 c.in-Some.ensures.lookup.3.0)
    (rw c.side.ensures.value at (c.are_within.ensures.0 c.if-not-are_within.false)) c.scan.ensures.ends
