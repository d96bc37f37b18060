use Rattle.relay_desk_runs.proofs.Importing.{each_import_keeps}
use Rattle.relay_desk_runs.proofs.laws.imports.Goals as goal

pub returns : goal.returns
returns c = each_import_keeps
