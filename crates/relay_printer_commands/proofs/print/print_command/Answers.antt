use Rattle.std.proofs.Common.{◌∙◌, Err, ap, refl, sym}
use Rattle.std.proofs.lemmas.Bool.{false≢true}
use Rattle.relay_printer_commands.specs.Printers.{EndsPrint.no_side, EndsPrint.not_read, EndsPrint.too_long, EndsPrint.read, PrintsDocument.not_opened, PrintsDocument.opened}
use Rattle.relay_printer_commands.proofs.print.print_command.Goals as goal

pub returns-then-not-has_side-clause-ends : goal.returns-then-not-has_side-clause-ends
returns-then-not-has_side-clause-ends g c =
    rw (← c.streams.view_is) (no_side (λ has. false≢true (sym c.if-not-has_side.true ∙ c.has_side.ensures.1 has)) refl
    (rw c.name.ensures at c.refuse-status.ensures, refl))

pub returns-in-Err-clause-ends : goal.returns-in-Err-clause-ends
returns-in-Err-clause-ends g c =
    rw (← c.streams.view_is) (not_read c.in-Err.fault c.read_document.new.input
    (c.has_side.ensures.0 c.if-not-has_side.false) (record {
      read = λ e. c.in-Err.ensures.failed (ap Err e);
      memory = λ e. c.in-Err.ensures.unread (ap Err e);
    }) refl (rw c.name-in-Err.ensures at c.refuse-status-in-Err.ensures, refl))

pub returns-in_default-clause-ends : goal.returns-in_default-clause-ends
returns-in_default-clause-ends g c =
    rw (← c.streams.view_is) (too_long c.in-Ok.document.items c.read_document.new.input
    (c.has_side.ensures.0 c.if-not-has_side.false) c.in-Ok.ensures.taken
    (rw c.deref.ensures.value at c.in_default.ensures) refl
    (rw c.name-in_default.ensures at c.refuse-status-in_default.ensures, refl))

pub returns-in-Err-open_printer-clause-ends : goal.returns-in-Err-open_printer-clause-ends
returns-in-Err-open_printer-clause-ends g c =
    let is = c.in-Err-open_printer.ensures.opens in
    rw (← c.streams.view_is) (read c.in-Some.size c.in-Ok.document.items c.read_document.new.input
    c.in-Ok.ensures.taken (rw c.deref.ensures.value at c.in-Some.ensures)
    (not_opened is.0 is.1 c.in-Err-open_printer.ensures.same (is.2, refl)))

pub returns-clause-ends : goal.returns-clause-ends
returns-clause-ends g c =
    let is = c.in-Ok-open_printer.ensures.opens in
    rw (← c.streams.view_is) (read c.in-Some.size c.in-Ok.document.items c.read_document.new.input
    c.in-Ok.ensures.taken (rw c.deref.ensures.value at c.in-Some.ensures)
    (opened c.in-Ok-open_printer.printer c.print-answer.new.self c.print-answer.result is.0
    (rw c.deref-2.ensures.value at c.print-answer.ensures) c.close-store.ensures
    (rw (is.1, c.left.ensures.value) at c.tell_print-status.ensures.told)))
