use Rattle.std.proofs.Common.{◌≡◌, ◌≤◌, length, take, vec_capacity}
use Rattle.dm_event_world.proofs.Runs.{Goes}
use Rattle.dm_event_world.proofs.running.run.Given as goal

abbrev pub invariant-loop-event : goal.invariant-loop-event
invariant-loop-event g l = record {
  count : length l.replies.items ≡ l.event-index;
  room : length l.events ≤ vec_capacity l.replies;
  runs : Goes l.fn.world (take l.event-index l.events) l.replies.items l.world;
}
