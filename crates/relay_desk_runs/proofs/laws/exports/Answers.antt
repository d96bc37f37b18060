use Rattle.relay_desk_runs.proofs.Giving.{each_export_is_printed}
use Rattle.relay_desk_runs.proofs.laws.exports.Goals as goal

pub returns : goal.returns
returns c = each_export_is_printed
