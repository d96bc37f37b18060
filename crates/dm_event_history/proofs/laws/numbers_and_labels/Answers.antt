use Rattle.dm_event_history.proofs.{KeepsNumbers.each_step_keeps_numbers, Once.each_step_is_sound}
use Rattle.dm_event_history.proofs.Headline.{each_run_keeps_numbers}
use Rattle.dm_event_history.proofs.laws.numbers_and_labels.Goals as goal

pub returns-clause-placed : goal.returns-clause-placed
returns-clause-placed g c = each_step_keeps_numbers _

pub returns-clause-sound : goal.returns-clause-sound
returns-clause-sound g c = each_step_is_sound _

pub returns-clause-places : goal.returns-clause-places
returns-clause-places g c = each_run_keeps_numbers _
