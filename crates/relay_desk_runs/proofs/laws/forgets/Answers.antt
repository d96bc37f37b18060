use Rattle.relay_desk_runs.proofs.Importing.{each_forget_keeps}
use Rattle.relay_desk_runs.proofs.laws.forgets.Goals as goal

pub returns : goal.returns
returns c = each_forget_keeps
