use mir.Val.{bool_byte}
use Rattle.std.specs.Prelude.{if◌then◌else◌}
use Rattle.std.proofs.Common.{◌≡◌, ◌<◌, ◌∙◌, Bool, true, false, Err, ap, length, refl, arith}
use Rattle.relay_printer_commands.specs.Printers.EndsAudit.{audited, not_read, too_many}
use Rattle.relay_printer_commands.proofs.audit.audit_command.Goals as goal

pub returns-in-Err-clause-ends : goal.returns-in-Err-clause-ends
returns-in-Err-clause-ends g c =
    rw (← c.streams.view_is) (not_read c.in-Err.fault c.read_up_to.new.self
    (record {
      read = λ e. c.in-Err.ensures.failed (ap Err e);
      memory = λ e. c.in-Err.ensures.unread (ap Err e);
    }) (rw c.name.ensures at c.refuse.ensures, refl))

pub returns-then-len-eq-TICKETS_BYTES-clause-ends : goal.returns-then-len-eq-TICKETS_BYTES-clause-ends
returns-then-len-eq-TICKETS_BYTES-clause-ends g c =
    rw (← c.streams.view_is) (too_many c.in-Ok.bytes.items c.read_up_to.new.self c.in-Ok.ensures.read
    (let all : length c.in-Ok.bytes.items ≡ 1048577 = omega arith in all)
    (rw c.name-then-len-eq-TICKETS_BYTES.ensures at c.refuse-then-len-eq-TICKETS_BYTES.ensures, refl))

byte_of : (some : Bool) → bool_byte some ≡ (if some then 1 else 0)
byte_of true = refl
byte_of false = refl

pub returns-clause-ends : goal.returns-clause-ends
returns-clause-ends g c =
    rw (← c.streams.view_is) (audited c.in-Ok.bytes.items c.read_up_to.new.self c.audit.result c.in-Ok.ensures.read
    (let few : length c.in-Ok.bytes.items < 1048577 = omega (arith, c.in-Ok.ensures.read.taken.bound) in few)
    (rw c.deref.ensures.value at c.audit.ensures) (c.from.ensures ∙ byte_of c.audit.result) refl)
