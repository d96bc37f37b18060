use Rattle.std.proofs.Common.{sym}
use Rattle.relay_shared.proofs.{Telling.told, Writing.puts}
use Rattle.relay_desk_commands.specs.Desks.TellsLong.{lacks_memory, tells, tells_none}
use Rattle.relay_desk_commands.proofs.held_long.tell_long.Goals as goal

pub returns-in-Ok-Some : goal.returns-in-Ok-Some
returns-in-Ok-Some g c = λ id held is.
    let put = puts c.as_bytes.result.now c.args.output.now c.put.new.self c.put.result c.put.ensures.written c.put.ensures.part
    c.put.ensures.failed in
    tells c.as_bytes.result.now (rw c.as_bytes.ensures.value (rw c.in-Ok-Some.field-0-is at (sym (rw c.in-Ok-Some.is at is))))
    (told c.put.result put c.status_after.ensures)

pub returns-in-Ok-None : goal.returns-in-Ok-None
returns-in-Ok-None g c = λ id held is.
    tells_none (rw c.in-Ok-None.field-0-is at (sym (rw c.in-Ok-None.is at is))) (rw c.name.ensures at c.refuse.ensures)

pub returns-in-Err : goal.returns-in-Err
returns-in-Err g c = λ id held is. lacks_memory (rw c.name-in-Err.ensures at c.refuse-in-Err.ensures)
