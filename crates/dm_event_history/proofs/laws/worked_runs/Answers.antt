use Rattle.dm_event_history.proofs.{WorkedRuns.are_runs, NoRuns.are_none}
use Rattle.dm_event_history.proofs.laws.worked_runs.Goals as goal

pub returns-clause-runs : goal.returns-clause-runs
returns-clause-runs g c = are_runs _ c.grid_carries_its_words.ensures

pub returns-clause-none : goal.returns-clause-none
returns-clause-none g c = are_none _
