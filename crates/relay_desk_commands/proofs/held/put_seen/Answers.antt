use Rattle.relay_shared.proofs.Writing.{puts_both}
use Rattle.relay_desk_commands.proofs.held.put_seen.Goals as goal

pub returns-in-Ok-Some : goal.returns-in-Ok-Some
returns-in-Ok-Some g c = λ text old before. rw (c.in-Ok-Some.is, c.in-Ok-Some.field-0-is)
    (puts_both c.put_held.result (rw c.in_ok-before.was at before) c.put_held.ensures)

pub returns-in-Err : goal.returns-in-Err
returns-in-Err g c = λ text old before. rw (c.in-Err.is, ← c.name.ensures)
    (puts_both c.put_unsound.result (rw c.in_ok-before.was at before) c.put_unsound.ensures)
