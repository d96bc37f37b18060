use Rattle.std.proofs.Common.{refl}
use Rattle.relay_desk_commands.specs.Desks.EndsAtDesk.{no_desk, opened}
use Rattle.relay_desk_commands.proofs.scan.scan_command.Goals as goal

pub returns-in-Err : goal.returns-in-Err
returns-in-Err g c =
    rw (← c.streams.view_is) (no_desk c.in-Err.ensures.0 c.in-Err.ensures.1 (c.in-Err.ensures.2, refl))

pub returns : goal.returns
returns g c =
    let told = rw c.in-Ok.ensures.1 at c.each_input-status.ensures.told in
    let kept = c.each_input-status.ensures.kept in
    let desk = c.each_input-status.new.command.desk in
    rw (← c.streams.view_is) (opened c.in-Ok.opened.desk c.in-Ok.ensures.0
    (desk, told, kept.0, kept.1 c.in-Ok.ensures.2, c.close-set.ensures.state))
