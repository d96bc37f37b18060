use Rattle.relay_program_runs.proofs.LinePaths.{no_line_prints_an_id_again}
use Rattle.relay_program_runs.proofs.laws.no_line_prints_an_id_again.Goals as goal

pub returns : goal.returns
returns g c = no_line_prints_an_id_again _
