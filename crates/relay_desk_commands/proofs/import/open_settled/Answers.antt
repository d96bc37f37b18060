use Rattle.relay_desk_commands.proofs.import.open_settled.Goals as goal

pub returns-in-Ok : goal.returns-in-Ok
returns-in-Ok g c =
    let opens = c.in_ok-open_desk.ensures in
    let same = c.in-Ok.ensures in
    rw (same.0, same.1) opens

pub returns-in-Err : goal.returns-in-Err
returns-in-Err g c =
    let opens = c.in_ok-open_desk.ensures in
    rw (c.refuse.ensures.store, c.refuse.ensures.set)
    (_, c.in-Err.ensures _ _ opens.0, rw opens.1 at c.refuse.ensures.told)
