use Rattle.relay_desk_commands.specs.Desks.HasNoDesk.{not_opened}
use Rattle.relay_desk_commands.proofs.Unsettled.{desk_fault}
use Rattle.relay_desk_commands.proofs.desk_opening.OpenDesk.settle.Goals as goal

pub returns-in-Err : goal.returns-in-Err
returns-in-Err g c = λ before capacity opens.
    let found = desk_fault c.args.self.desk.saved capacity c.in-Err.fault opens.opens.is_capacity
    c.in-Err.ensures.settles.1 in
    rw (c.close-set.ensures.state, c.settle.ensures.same)
    (not_opened found.0 opens.moves found.1 (rw (c.name-name.ensures, c.from.ensures) found.2))
