use Rattle.relay_desk_commands.proofs.desk_opening.open_desk.Goals as goal

pub returns-in-Err : goal.returns-in-Err
returns-in-Err g c = (_, rw (c.refuse.ensures.store, c.refuse.ensures.set) c.in-Err.ensures, c.refuse.ensures.told)
