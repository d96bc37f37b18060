use Rattle.std.proofs.Common.{rules}
use Rattle.dm_event_world.proofs.DeskCalls.{made_under}
use Rattle.dm_event_world.proofs.desk_act.import_under.Goals as goal

pub returns : goal.returns
returns g c =
    made_under _ _ c.args.stop c.next_save.result c.args.desk.now c.set_next.new.self c.import-answer.new.self _
    c.import-answer.result c.next_save.ensures c.set_next.ensures (search rules) c.set_next-2.ensures
