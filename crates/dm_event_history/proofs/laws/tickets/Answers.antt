use Rattle.dm_event_history.proofs.Counting.{each_run_counts_tickets, each_take_is_later}
use Rattle.dm_event_history.proofs.TakesOnce.{each_run_takes_once}
use Rattle.dm_event_history.proofs.laws.tickets.Goals as goal

pub returns-clause-once : goal.returns-clause-once
returns-clause-once g c = each_run_takes_once _

pub returns-clause-counted : goal.returns-clause-counted
returns-clause-counted g c = each_run_counts_tickets _

pub returns-clause-later : goal.returns-clause-later
returns-clause-later g c = each_take_is_later _
