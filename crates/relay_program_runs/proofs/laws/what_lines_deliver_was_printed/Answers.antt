use Rattle.relay_program_runs.proofs.LinePaths.{what_lines_deliver_was_printed}
use Rattle.relay_program_runs.proofs.laws.what_lines_deliver_was_printed.Goals as goal

pub returns : goal.returns
returns g c = what_lines_deliver_was_printed _
