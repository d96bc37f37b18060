use Rattle.relay_program_runs.proofs.LinePaths.{no_id_of_lines_is_in_two_places}
use Rattle.relay_program_runs.proofs.laws.no_id_of_lines_is_in_two_places.Goals as goal

pub returns : goal.returns
returns g c = no_id_of_lines_is_in_two_places _
