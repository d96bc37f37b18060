use Rattle.relay_desk_runs.proofs.Giving.{each_deliver_is_printed}
use Rattle.relay_desk_runs.proofs.laws.delivers.Goals as goal

pub returns : goal.returns
returns c = each_deliver_is_printed
