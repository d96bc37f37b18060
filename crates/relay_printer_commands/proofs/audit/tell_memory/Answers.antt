use Rattle.relay_shared.proofs.Writing.{puts}
use Rattle.relay_shared.specs.Command.{refusal_name}
use Rattle.relay_shared.specs.declared.command.Refusal.TheVariants.{Memory}
use Rattle.relay_streams.specs.Streams.{refused_line}
use Rattle.relay_printer_commands.proofs.AuditSteps.{put_once}
use Rattle.relay_printer_commands.proofs.audit.tell_memory.Goals as goal

pub returns : goal.returns
returns g c =
    let put = rw c.name.ensures at c.put_refusal.ensures in
    put_once (refused_line (refusal_name Memory)) _ _ c.put_refusal.result (puts _ _ _ c.put_refusal.result put.written put.part put.failed) put.stuck
