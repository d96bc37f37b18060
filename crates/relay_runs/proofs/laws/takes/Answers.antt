use Rattle.relay_runs.proofs.EachTake.{take_follows}
use Rattle.relay_runs.proofs.laws.takes.Goals as goal

pub returns : goal.returns
returns g c = take_follows _
