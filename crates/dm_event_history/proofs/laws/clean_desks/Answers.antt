use Rattle.dm_event_history.proofs.{Printed.each_step_prints, Stays.each_step_keeps_clean, Gives.each_clean_desk_gives}
use Rattle.dm_event_history.proofs.laws.clean_desks.Goals as goal

pub returns-clause-printed : goal.returns-clause-printed
returns-clause-printed g c = each_step_prints _

pub returns-clause-stays : goal.returns-clause-stays
returns-clause-stays g c = each_step_keeps_clean _

pub returns-clause-gives : goal.returns-clause-gives
returns-clause-gives g c = each_clean_desk_gives _
