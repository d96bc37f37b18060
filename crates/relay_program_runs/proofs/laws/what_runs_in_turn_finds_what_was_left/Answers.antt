use Rattle.relay_program_runs.proofs.Walk.{what_runs_in_turn_finds_what_was_left}
use Rattle.relay_program_runs.proofs.laws.what_runs_in_turn_finds_what_was_left.Goals as goal

pub returns : goal.returns
returns g c = what_runs_in_turn_finds_what_was_left _
