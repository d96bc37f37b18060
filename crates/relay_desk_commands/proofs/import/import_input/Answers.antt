use Rattle.std.proofs.Common.{Err, ap, refl}
use Rattle.relay_desk_commands.specs.Desks.{EndsAtDesk.no_desk, EndsAtDesk.opened, EndsImport.not_read, EndsImport.read}
use Rattle.relay_desk_commands.proofs.import.import_input.Goals as goal

pub returns-in-Err-clause-ends : goal.returns-in-Err-clause-ends
returns-in-Err-clause-ends g c =
    rw (← c.streams.view_is) (not_read c.in-Err.fault (record {
      read = λ e. c.in-Err.ensures.failed (ap Err e);
      memory = λ e. c.in-Err.ensures.unread (ap Err e);
    }) refl (rw c.name.ensures at c.refuse.ensures) refl)

pub returns-in-Err-open_settled-clause-ends : goal.returns-in-Err-open_settled-clause-ends
returns-in-Err-open_settled-clause-ends g c =
    let none = c.in-Err-open_settled.ensures in
    rw (← c.streams.view_is) (read c.in-Ok.bytes.items c.in-Ok.ensures.read (no_desk none.0 none.1 none.2) refl)

pub returns-clause-ends : goal.returns-clause-ends
returns-clause-ends g c =
    let opens = c.in-Ok-open_settled.ensures in
    let did = rw c.deref.ensures.value at (c.import.ensures.imported opens.0.opens.running) in
    let told = rw opens.1 at c.tell.ensures in
    rw (← c.streams.view_is) (read c.in-Ok.bytes.items c.in-Ok.ensures.read
    (opened c.in-Ok-open_settled.opened.0.desk opens.0 (_, c.import.result, did, c.close.ensures.state, told)) refl)
