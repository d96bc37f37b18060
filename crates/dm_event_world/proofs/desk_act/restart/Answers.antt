use Rattle.std.proofs.Common.{ap, ◌∙◌}
use Rattle.dm_event_world.specs.inner.Desks.{desk_saved}
use Rattle.dm_event_world.proofs.DeskLooks.{restart_refused, restarted}
use Rattle.dm_event_world.proofs.desk_act.restart.Goals as goal

pub returns-in-Ok : goal.returns-in-Ok
returns-in-Ok g c = record {
  ends = restarted c.args.capacity c.args.state.now c.set_of-set.result c.in-Ok.desk
      (c.set_of-set.ensures ∙ ap desk_saved c.replace.ensures.value) c.in-Ok.ensures.ok c.in-Ok.ensures.found;
}

pub returns-in-Err : goal.returns-in-Err
returns-in-Err g c = record {
  ends = restart_refused c.args.capacity c.args.state.now c.set_of-set.result c.in-Err.field-0.store
      c.in-Err.field-0.fault (c.set_of-set.ensures ∙ ap desk_saved c.replace.ensures.value) c.in-Err.ensures.fault
      c.in-Err.ensures.same;
}
