use Rattle.std.proofs.Common.{take}
use Rattle.dm_event_world.proofs.Runs.{Told}
use Rattle.dm_event_world.proofs.running.answer_all.Given as goal

abbrev pub invariant-loop-event : goal.invariant-loop-event
invariant-loop-event g l = record {
  told : Told g.L.Listener.hears l.initial.world (take l.event-index l.events) l.world l.initial.listener l.listener;
}
