use Rattle.relay_program_runs.proofs.Walk.{what_is_delivered_was_printed}
use Rattle.relay_program_runs.proofs.laws.what_is_delivered_was_printed.Goals as goal

pub returns : goal.returns
returns g c = what_is_delivered_was_printed _
