use Rattle.std.proofs.Common.{Ok, Err, inl, inr, refl}
use Rattle.dm_pbm_io.specs.Image.{picture, written}
use Rattle.relay_shared.proofs.{Writing.puts, Telling.told_bytes}
use Rattle.relay_desk_commands.specs.Desks.{EndsCopyOf.no_side, EndsCopyOf.of_side, EndsOnId.no_id, EndsOnId.of_id, EndsAtDesk.no_desk, EndsAtDesk.opened}
use Rattle.relay_desk_commands.proofs.copy.copy_command.Goals.{in-Ok-copy, in-Err-copy}
use Rattle.relay_desk_commands.proofs.copy.copy_command.Goals as goal

pub returns-in_default-clause-ends : goal.returns-in_default-clause-ends
returns-in_default-clause-ends g c =
    rw (← c.streams.view_is) (no_id c.in_default.ensures refl (rw c.name.ensures at c.refuse-status.ensures, refl))

pub returns-in_default-clause-settled : goal.returns-in_default-clause-settled
returns-in_default-clause-settled g c = inr (inr (rw (← c.streams.view_is)
    (no_id c.in_default.ensures refl (rw c.name.ensures at c.refuse-status.ensures, refl))))

pub returns-in_default-of_side-clause-ends : goal.returns-in_default-of_side-clause-ends
returns-in_default-of_side-clause-ends g c =
    rw (← c.streams.view_is) (of_id c.in-Some.id c.in-Some.ensures
    (no_side (λ s. c.in_default-of_side.ensures.none refl s.0 s.1) refl
    (rw c.name-in_default-of_side.ensures at c.refuse-status-in_default-of_side.ensures, refl)))

pub returns-in_default-of_side-clause-settled : goal.returns-in_default-of_side-clause-settled
returns-in_default-of_side-clause-settled g c = inr (inl (λ s. c.in_default-of_side.ensures.none refl s.0 s.1))

pub returns-in-Err-clause-ends : goal.returns-in-Err-clause-ends
returns-in-Err-clause-ends g c =
    let none = c.in-Err.ensures in
    rw (← c.streams.view_is) (of_id c.in-Some.id c.in-Some.ensures
    (of_side c.in-Some-of_side.size c.in-Some-of_side.ensures.found (no_desk none.0 none.1 (none.2, refl))))

pub returns-in-Err-clause-settled : goal.returns-in-Err-clause-settled
returns-in-Err-clause-settled g c =
    let none = c.in-Err.ensures in
    inr (inr (rw (← c.streams.view_is) (of_id c.in-Some.id c.in-Some.ensures (no_desk none.0 none.1 (none.2, refl)))))

pub returns-in-Err-close-clause-ends : goal.returns-in-Err-close-clause-ends
returns-in-Err-close-clause-ends g c =
    let opens = c.in-Ok.ensures in
    rw (c.refuse.ensures.store, c.refuse.ensures.set, ← c.streams.view_is)
    (of_id c.in-Some.id c.in-Some.ensures (of_side c.in-Some-of_side.size c.in-Some-of_side.ensures.found
    (no_desk _ (c.in-Err-close.ensures _ _ opens.0) (rw opens.1 at c.refuse.ensures.told, refl))))

pub returns-in-Err-close-clause-settled : goal.returns-in-Err-close-clause-settled
returns-in-Err-close-clause-settled g c =
    let opens = c.in-Ok.ensures in
    inr (inr (rw (c.refuse.ensures.store, c.refuse.ensures.set, ← c.streams.view_is)
    (of_id c.in-Some.id c.in-Some.ensures
    (no_desk _ (c.in-Err-close.ensures _ _ opens.0) (rw opens.1 at c.refuse.ensures.told, refl)))))

pub returns-clause-settled : goal.returns-clause-settled
returns-clause-settled g c = inl (rw c.end.ensures.set c.in-Ok-close.ensures.2)

pub returns-clause-ends : goal.returns-clause-ends
returns-clause-ends g c =
    let opens = c.in-Ok.ensures in
    let closed = c.in-Ok-close.ensures in
    rw (c.end.ensures.status, c.end.ensures.store, c.end.ensures.set, closed.0, closed.1, ← c.streams.view_is)
    (of_id c.in-Some.id c.in-Some.ensures (of_side c.in-Some-of_side.size c.in-Some-of_side.ensures.found
    (opened c.in-Ok.opened.desk opens.0 (elim c.match-copy-2.branch [
      | in-Ok-copy w ↦
          let put = w.write-put in
          let image = puts (written (picture w.in-Ok-copy.image)) c.streams.inside.output put.new.output put.result
          put.ensures.written put.ensures.part put.ensures.failed in
          let told = told_bytes {input = c.streams.inside.input} put.result image w.status_after_bytes-status.ensures in
          let says = rw opens.1 at told in
          rw (w.streams-is, w.status-is) (Ok _, w.in-Ok-copy.ensures.given, says, refl)
      | in-Err-copy w ↦
          let says = rw opens.1 at w.refuse-status-in-Err-copy.ensures in
          rw (w.streams-is, w.status-is) (Err _, w.in-Err-copy.ensures.given, (says, refl), refl)
    ]))))
