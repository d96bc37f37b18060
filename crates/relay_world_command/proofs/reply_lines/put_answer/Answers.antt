use Rattle.relay_streams.proofs.Parts.{part_more}
use Rattle.relay_shared.proofs.Writing.{puts, puts_next, puts_part}
use Rattle.relay_world_command.proofs.reply_lines.put_answer.Goals as goal

pub returns-in_err-put : goal.returns-in_err-put
returns-in_err-put g c =
    rw (c.in-Given.is, ← c.mark_of.ensures) (puts_part _ _ c.from_residual.ensures.1
    (part_more _ _ _ _ c.put.ensures.part) c.in_err-put.ensures.failed)

pub returns-in-Some : goal.returns-in-Some
returns-in-Some g c =
    rw (c.in-Given.is, ← c.mark_of.ensures, ← c.in-Some.ensures) (puts_next _ _ c.in_ok-put.ensures.written
    (puts _ c.put.new.self _ c.put_refusal-in-Some.result c.put_refusal-in-Some.ensures.written
    c.put_refusal-in-Some.ensures.part c.put_refusal-in-Some.ensures.failed))

pub returns-in-None : goal.returns-in-None
returns-in-None g c =
    rw (c.in-Given.is, ← c.mark_of.ensures, ← c.in-None.ensures)
    (puts_next _ _ c.in_ok-put.ensures.written c.put_reply.ensures)
