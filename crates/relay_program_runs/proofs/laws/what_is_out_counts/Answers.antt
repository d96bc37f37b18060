use Rattle.relay_program_runs.proofs.GotOut.{what_is_out_counts}
use Rattle.relay_program_runs.proofs.laws.what_is_out_counts.Goals as goal

pub returns : goal.returns
returns g c = what_is_out_counts _
