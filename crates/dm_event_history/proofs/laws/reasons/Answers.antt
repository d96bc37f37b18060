use Rattle.dm_event_history.proofs.{Counting.each_exhausted_is_so, Reasons.each_step_is_refused_so}
use Rattle.dm_event_history.proofs.laws.reasons.Goals as goal

pub returns-clause-refused : goal.returns-clause-refused
returns-clause-refused g c = each_step_is_refused_so _

pub returns-clause-exhausted : goal.returns-clause-exhausted
returns-clause-exhausted g c = each_exhausted_is_so _
