use Rattle.relay_printer_commands.proofs.AuditSteps.{exactly}
use Rattle.relay_printer_commands.proofs.laws.audit_is_exact.Goals as goal

pub returns : goal.returns
returns c = exactly c.numbers_and_givers.ensures.silence
