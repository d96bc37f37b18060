use Rattle.dm_event_history.proofs.{Between.run_between, SafeReplies.each_fair_reply_is_safe}
use Rattle.dm_event_history.proofs.laws.safe_replies.Goals as goal

pub returns-clause-held : goal.returns-clause-held
returns-clause-held g c = run_between _

pub returns-clause-replies : goal.returns-clause-replies
returns-clause-replies g c = each_fair_reply_is_safe _
