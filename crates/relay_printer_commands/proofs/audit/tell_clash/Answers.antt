use Rattle.std.proofs.Common.{sym, ◌∙◌}
use Rattle.std.proofs.lemmas.Bool.{cond-true}
use Rattle.relay_printer_commands.proofs.AuditSteps.{nothing_of}
use Rattle.relay_printer_commands.proofs.audit.tell_clash.Goals as goal

pub returns-then-not-is_same : goal.returns-then-not-is_same
returns-then-not-is_same g c = rw (c.evidence.ensures, c.evidence-then-not-is_same.ensures) at c.tell_breaches.ensures

pub returns-else-not-is_same : goal.returns-else-not-is_same
returns-else-not-is_same g c =
    rw c.if-not-is_same.false (nothing_of _ (cond-true _ _ _ (sym c.is_same.ensures ∙ c.if-not-is_same.false)))
