use Rattle.std.proofs.Common.{ap, ◌∙◌}
use Rattle.dm_event_world.specs.inner.Calls.{saved_of}
use Rattle.dm_event_world.proofs.PrinterEvents.{restart_refused, restarted}
use Rattle.dm_event_world.proofs.printer_act.restart.Goals as goal

pub returns-in-Ok : goal.returns-in-Ok
returns-in-Ok g c = record {
  ends = restarted c.args.number c.args.actor.now c.store_of-store.result c.in-Ok.printer
      (c.store_of-store.ensures ∙ ap saved_of c.replace.ensures.value) c.in-Ok.ensures.opens;
}

pub returns-in-Err : goal.returns-in-Err
returns-in-Err g c = record {
  ends = restart_refused c.args.number c.args.actor.now c.store_of-store.result c.in-Err.field-0.store
      c.in-Err.field-0.fault (c.store_of-store.ensures ∙ ap saved_of c.replace.ensures.value) c.in-Err.ensures.opens
      c.in-Err.ensures.back;
}
