use Rattle.relay_program_runs.proofs.Where.{no_id_is_in_two_places}
use Rattle.relay_program_runs.proofs.laws.no_id_is_in_two_places.Goals as goal

pub returns : goal.returns
returns g c = no_id_is_in_two_places _
