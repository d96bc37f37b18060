use Rattle.dm_event_history.proofs.OneStep.{only_memory}
use Rattle.dm_event_history.proofs.laws.only_memory.Goals as goal

pub returns : goal.returns
returns g c = only_memory _
