use Rattle.relay_runs.proofs.EachGive.{give_follows}
use Rattle.relay_runs.proofs.laws.gives.Goals as goal

pub returns : goal.returns
returns g c = give_follows _
