use Rattle.relay_runs.proofs.EachPrint.{print_follows}
use Rattle.relay_runs.proofs.laws.prints.Goals as goal

pub returns : goal.returns
returns g c = print_follows _
