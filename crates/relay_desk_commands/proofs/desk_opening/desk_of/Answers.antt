use Rattle.std.proofs.Common.{sym}
use Rattle.relay_desk_commands.specs.Desks.HasNoDesk.{not_moved, not_opened}
use Rattle.relay_desk_commands.proofs.desk_opening.desk_of.Goals as goal

pub returns-in-Err : goal.returns-in-Err
returns-in-Err g c = not_moved c.in-Err.fault c.in-Err.ensures.moves c.name-name.ensures

pub returns-in-Ok-open : goal.returns-in-Ok-open
returns-in-Ok-open g c =
    let opens = c.in-Ok-open.ensures.ok in
    let moves = rw (sym opens.same) at c.in-Ok.ensures.moves in
    let is = rw (sym opens.same) at opens in
    (record { moves = (_, moves); opens = is }, c.in-Ok-open.ensures.order)

pub returns-in-Err-open : goal.returns-in-Err-open
returns-in-Err-open g c =
    let same = sym c.in-Err-open.ensures.same in
    let fault = rw same at c.in-Err-open.ensures.fault in
    let moves = rw same at c.in-Ok.ensures.moves in
    not_opened c.in-Err-open.refused.fault (c.in-Ok.field-0, moves) fault c.name-name-in-Err-open.ensures
