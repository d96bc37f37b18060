use Rattle.std.proofs.Common.{refl}
use Rattle.std.proofs.lemmas.Bool.{or_right}
use Rattle.relay_shared.proofs.Writing.{puts}
use Rattle.relay_printer_commands.proofs.AuditSteps.{both, put_once}
use Rattle.relay_printer_commands.proofs.audit.tell_breach.Goals as goal

pub returns-then-is : goal.returns-then-is
returns-then-is g c =
    let kind = rw c.as_bytes.ensures.value at c.put.ensures in
    let end = c.put-then-is.ensures in
    let line = both _ _ _ (put_once c.args.kind.now _ _ c.put.result (puts _ _ _ c.put.result kind.written kind.part kind.failed)
    kind.stuck) (both _ _ _ c.tell.ensures (both _ _ _ c.tell-then-is.ensures
    (put_once _ _ _ c.put-then-is.result (puts _ _ _ c.put-then-is.result end.written end.part end.failed) end.stuck))) in
    rw (c.if-is.true) (rw (or_right _ _ refl) at line)
