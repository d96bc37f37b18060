use Rattle.relay_desk_runs.proofs.Scanning.{each_scan_keeps}
use Rattle.relay_desk_runs.proofs.laws.scans.Goals as goal

pub returns : goal.returns
returns c = each_scan_keeps
