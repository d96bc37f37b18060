use Rattle.std.proofs.Common.{Err, ap, arith}
use Rattle.relay_world_command.specs.World.EndsWorld.{not_read, no_script, no_world, answered}
use Rattle.relay_world_command.proofs.Played.{tells}
use Rattle.relay_world_command.proofs.world.world_command.Goals as goal

pub returns-in-Err-clause-ends : goal.returns-in-Err-clause-ends
returns-in-Err-clause-ends g c =
    rw (← c.streams.view_is) (not_read c.in-Err.fault (record {
      read = λ e. c.in-Err.ensures.failed (ap Err e);
      memory = λ e. c.in-Err.ensures.unread (ap Err e);
    })
    (rw c.name.ensures at c.refuse.ensures))

pub returns-in-Err-read_script-clause-ends : goal.returns-in-Err-read_script-clause-ends
returns-in-Err-read_script-clause-ends g c =
    rw (← c.streams.view_is) (no_script c.in-Ok.bytes.items c.in-Err-read_script.fault
    c.in-Ok.ensures.read
    (rw c.deref.ensures.value at c.in-Err-read_script.ensures)
    (rw c.name-in-Err-read_script.ensures at c.refuse-in-Err-read_script.ensures))

pub returns-in-Ok-play-clause-ends : goal.returns-in-Ok-play-clause-ends
returns-in-Ok-play-clause-ends g c =
    let played = c.in-Ok-play.ensures.played in
    rw (← c.streams.view_is) (answered c.in-Ok.bytes.items c.in-Ok-read_script.script played.0
    c.in-Ok.ensures.read
    (rw c.deref.ensures.value at c.in-Ok-read_script.ensures) played.1
    (tells played.0 _ _ played.3 c.in-Ok-play.refused c.has_failed.result _ played.4 played.2 c.has_failed.ensures
    (grind (arith, c.from.ensures))))

pub returns-clause-ends : goal.returns-clause-ends
returns-clause-ends g c =
    rw (← c.streams.view_is) (no_world c.in-Ok.bytes.items c.in-Ok-read_script.script c.in-Err-play.fault
    c.in-Ok.ensures.read
    (rw c.deref.ensures.value at c.in-Ok-read_script.ensures) c.in-Err-play.ensures.refused
    (rw (c.name-in-Err-play.ensures, c.in-Err-play.ensures.silent) at c.refuse-in-Err-play.ensures))
