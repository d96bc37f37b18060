use Rattle.dm_event_world.proofs.Beginning.{begins}
use Rattle.dm_event_world.proofs.world.World.new.Goals as goal

pub returns-clause-stands : goal.returns-clause-stands
returns-clause-stands g c =
    begins c.args.ranges.now c.args.capacities.now c.in-Ok.printers.items c.in-Ok-open_desks.desks.items
    c.new.result.items c.new-2.result.items c.new-3.result.items
    (c.are_ranges.ensures.0 c.if-not-are_ranges.false) (c.are_disjoint.ensures.0 c.if-not-are_disjoint.false)
    (c.are_capacities.ensures.0 c.if-not-are_capacities.false) c.in-Ok.ensures.fresh c.in-Ok-open_desks.ensures.empty
    c.new.ensures.items c.new-2.ensures.items c.new-3.ensures.items

pub returns-in_default-open_desks-clause-refused : goal.returns-in_default-open_desks-clause-refused
returns-in_default-open_desks-clause-refused g c = (
  c.are_ranges.ensures.0 c.if-not-are_ranges.false,
  c.are_disjoint.ensures.0 c.if-not-are_disjoint.false,
  c.are_capacities.ensures.0 c.if-not-are_capacities.false,
)
