use Rattle.dm_event_history.proofs.{AsTold.each_run_is_as_told, FailedBefore.each_failed_failed}
use Rattle.dm_event_history.proofs.Legal.{each_step_is_legal}
use Rattle.dm_event_history.proofs.laws.as_told.Goals as goal

pub returns-clause-told : goal.returns-clause-told
returns-clause-told g c = each_run_is_as_told _

pub returns-clause-failed : goal.returns-clause-failed
returns-clause-failed g c = each_failed_failed _

pub returns-clause-legal : goal.returns-clause-legal
returns-clause-legal g c = each_step_is_legal _
