use Rattle.relay_program_runs.proofs.LinePaths.{what_lines_run_in_turn_find_what_was_left}
use Rattle.relay_program_runs.proofs.laws.what_lines_run_in_turn_find_what_was_left.Goals as goal

pub returns : goal.returns
returns g c = what_lines_run_in_turn_find_what_was_left _
