use Rattle.dm_event_world.proofs.EmptyDesks.{AreOpened}
use Rattle.dm_event_world.proofs.desk_opening.open_desks.Given as goal

abbrev pub invariant-loop-capacity : goal.invariant-loop-capacity
invariant-loop-capacity g l = AreOpened l.capacities l.capacity-index l.desks.items
