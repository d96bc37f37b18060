use Rattle.relay_program_runs.proofs.Walk.{no_id_is_printed_twice}
use Rattle.relay_program_runs.proofs.laws.no_id_is_printed_twice.Goals as goal

pub returns : goal.returns
returns g c = no_id_is_printed_twice _
