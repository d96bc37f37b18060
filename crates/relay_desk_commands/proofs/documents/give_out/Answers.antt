use Rattle.std.proofs.Common.{Ok, Err, inl, inr, refl}
use Rattle.relay_shared.proofs.{Writing.puts, Telling.told_bytes}
use Rattle.relay_desk_commands.specs.Desks.{EndsAtDesk.no_desk, EndsAtDesk.opened, EndsOnId.no_id, EndsOnId.of_id}
use Rattle.relay_desk_commands.proofs.documents.give_out.Goals.{in-Ok-answer, in-Err-answer}
use Rattle.relay_desk_commands.proofs.documents.give_out.Goals as goal

pub returns-in_default-clause-ends : goal.returns-in_default-clause-ends
returns-in_default-clause-ends g c =
    rw (← c.streams.view_is) (no_id c.in_default.ensures refl (rw c.name.ensures at c.refuse-status.ensures, refl))

pub returns-in_default-clause-settled : goal.returns-in_default-clause-settled
returns-in_default-clause-settled g c = inr (rw (← c.streams.view_is)
    (no_id c.in_default.ensures refl (rw c.name.ensures at c.refuse-status.ensures, refl)))

pub returns-in-Err-clause-ends : goal.returns-in-Err-clause-ends
returns-in-Err-clause-ends g c = rw (← c.streams.view_is) (of_id c.in-Some.id c.in-Some.ensures
    (no_desk c.in-Err.ensures.0 c.in-Err.ensures.1 (c.in-Err.ensures.2, refl)))

pub returns-in-Err-clause-settled : goal.returns-in-Err-clause-settled
returns-in-Err-clause-settled g c = inr (rw (← c.streams.view_is) (of_id c.in-Some.id c.in-Some.ensures
    (no_desk c.in-Err.ensures.0 c.in-Err.ensures.1 (c.in-Err.ensures.2, refl))))

pub returns-in-Err-close-clause-ends : goal.returns-in-Err-close-clause-ends
returns-in-Err-close-clause-ends g c =
    let opens = c.in-Ok.ensures in
    rw (c.refuse.ensures.store, c.refuse.ensures.set, ← c.streams.view_is)
    (of_id c.in-Some.id c.in-Some.ensures (no_desk _ (c.in-Err-close.ensures _ _ opens.0)
    (rw opens.1 at c.refuse.ensures.told, refl)))

pub returns-in-Err-close-clause-settled : goal.returns-in-Err-close-clause-settled
returns-in-Err-close-clause-settled g c =
    let opens = c.in-Ok.ensures in
    inr (rw (c.refuse.ensures.store, c.refuse.ensures.set, ← c.streams.view_is)
    (of_id c.in-Some.id c.in-Some.ensures (no_desk _ (c.in-Err-close.ensures _ _ opens.0)
    (rw opens.1 at c.refuse.ensures.told, refl))))

pub returns-clause-settled : goal.returns-clause-settled
returns-clause-settled g c = inl (rw c.end.ensures.set c.in-Ok-close.ensures.2)

pub returns-clause-ends : goal.returns-clause-ends
returns-clause-ends g c =
    let opens = c.in-Ok.ensures in
    let closed = c.in-Ok-close.ensures in
    rw (c.end.ensures.status, c.end.ensures.store, c.end.ensures.set, closed.0, closed.1, ← c.streams.view_is)
    (of_id c.in-Some.id c.in-Some.ensures (opened c.in-Ok.opened.desk opens.0 (elim c.match-answer-2.branch [
      | in-Ok-answer w ↦
          let put = w.put-put in
          let bytes = puts w.deref.result.now c.streams.inside.output put.new.self put.result put.ensures.written
          put.ensures.part put.ensures.failed in
          let told = told_bytes {input = c.streams.inside.input} put.result bytes w.status_after_bytes-status.ensures in
          let says = rw (opens.1, w.deref.ensures.value) at told in
          rw (w.streams-is, w.status-is) (Ok w.in-Ok-answer.bytes.items, w.in-Ok-answer.ensures, says, refl)
      | in-Err-answer w ↦
          let says = rw opens.1 at w.refuse-status-in-Err-answer.ensures in
          rw (w.streams-is, w.status-is) (Err _, w.in-Err-answer.ensures, (says, refl), refl)
    ])))
