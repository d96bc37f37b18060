use Rattle.relay_desk_runs.proofs.Giving.{each_copy_is_printed}
use Rattle.relay_desk_runs.proofs.laws.copies.Goals as goal

pub returns : goal.returns
returns c = each_copy_is_printed
