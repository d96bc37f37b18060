use Rattle.std.proofs.Common.{ap, sym, ◌∙◌}
use Rattle.std.proofs.lemmas.Bool.{cond-false}
use Rattle.relay_printer_commands.specs.Printers.{EvidenceView, are_same}
use Rattle.relay_printer_commands.proofs.AuditSteps.{both}
use Rattle.relay_printer_commands.proofs.audit.tell_breaches.Goals as goal

pub returns : goal.returns
returns g c =
    let one = ap (λ (e : EvidenceView). e.shown) c.one.view_is in
    let other = ap (λ (e : EvidenceView). e.shown) c.other.view_is in
    rw (cond-false (are_same c.args.one.now c.args.other.now) _ _ (sym c.is_same.ensures ∙ c.if-is_same.false))
    (both _ _ _ (both _ _ _ (both _ _ _ (both _ _ _ (rw (c.is_of_one_with.ensures, one, other) at c.tell_breach.ensures)
    (rw (c.shares_numbers.ensures, one, other) at c.tell_breach-2.ensures))
    (rw c.is_again.ensures at c.tell_breach-3.ensures))
    (rw (c.is_behind.ensures, one, other) at c.tell_breach-4.ensures))
    (rw (c.is_behind-2.ensures, one, other) at c.tell_breach-5.ensures))
