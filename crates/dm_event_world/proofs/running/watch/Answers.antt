use Rattle.dm_event_world.proofs.Runs.{is_watched}
use Rattle.dm_event_world.proofs.running.watch.Goals as goal

pub returns-clause-headline : goal.returns-clause-headline
returns-clause-headline g c =
    let all = c.answer_all.ensures in (
      all.0,
      is_watched c.args.ranges.now c.args.capacities.now c.in-Ok.world c.answer_all.new.world c.args.events.now all.0
          c.in-Ok.ensures.stands all.1,
      all.2,
    )
