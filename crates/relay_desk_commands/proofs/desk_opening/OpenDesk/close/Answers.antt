use Rattle.std.proofs.Common.{refl}
use Rattle.relay_desk_commands.specs.Desks.HasNoDesk.{not_opened}
use Rattle.relay_desk_commands.proofs.Unsettled.{desk_fault}
use Rattle.relay_desk_commands.proofs.desk_opening.OpenDesk.close.Goals as goal

pub returns : goal.returns
returns g c = (refl, rw c.close-set.ensures.state at c.in-Ok.ensures.settles.0, c.in-Ok.ensures.settled refl)

pub returns-in-Err : goal.returns-in-Err
returns-in-Err g c = λ before capacity opens.
    let may = rw c.close-set.ensures.state at c.in-Err.ensures.settles.1 in
    let found = desk_fault c.args.self.desk.saved capacity c.in-Err.fault opens.opens.is_capacity may in
    rw (c.in-Err.ensures.settles.0, c.close-set.ensures.state)
    (not_opened found.0 opens.moves found.1 (rw (c.name-name.ensures, c.from.ensures) found.2))
