use Rattle.std.proofs.Common.{refl}
use Rattle.relay_desk_commands.specs.Desks.{EndsAtDesk.no_desk, EndsAtDesk.opened}
use Rattle.relay_desk_commands.proofs.all_documents.opening_command.Goals as goal

pub returns-in-Err : goal.returns-in-Err
returns-in-Err g c =
    let none = c.in-Err.ensures in
    rw (← c.streams.view_is) (no_desk none.0 none.1 (none.2, refl))

pub returns-in-Ok-close : goal.returns-in-Ok-close
returns-in-Ok-close g c =
    let opens = c.in-Ok.ensures in
    let closed = c.in-Ok-close.ensures in
    rw (c.end.ensures.status, c.end.ensures.store, c.end.ensures.set, closed.0, closed.1, opens.1, ← c.streams.view_is)
    (opened c.in-Ok.opened.desk opens.0 (refl, refl, refl))

pub returns-in-Err-close : goal.returns-in-Err-close
returns-in-Err-close g c =
    let opens = c.in-Ok.ensures in
    rw (c.refuse.ensures.store, c.refuse.ensures.set, ← c.streams.view_is)
    (no_desk _ (c.in-Err-close.ensures _ _ opens.0) (rw opens.1 at c.refuse.ensures.told, refl))
