use Rattle.std.proofs.Common.{refl}
use Rattle.relay.specs.Program.{does, shows}
use Rattle.relay.proofs.system.System.run_line.Goals as goal

pub returns-in-Ok : goal.returns-in-Ok
returns-in-Ok g c = does c.in-Ok.line c.in-Ok.ensures.right c.in-Ok.ensures.line c.do_line.ensures

pub returns-in-Err : goal.returns-in-Err
returns-in-Err g c = shows c.in-Err.fault c.in-Err.ensures.wrong c.show_fault-status.ensures refl
