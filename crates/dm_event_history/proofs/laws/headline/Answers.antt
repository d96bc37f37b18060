use Rattle.dm_event_history.proofs.Headline.{each_run_is_sound, each_run_is_true}
use Rattle.dm_event_history.proofs.laws.headline.Goals as goal

pub returns-clause-sound : goal.returns-clause-sound
returns-clause-sound g c = each_run_is_sound _

pub returns-clause-moments : goal.returns-clause-moments
returns-clause-moments g c = each_run_is_true _
