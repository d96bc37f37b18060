use Rattle.std.proofs.Common.{rules, arith, ◌≡◌, ◌+◌, ◌<◌, ◌++◌, ◌∷◌, [], length, take, ap, sym, ◌∙◌}
use Rattle.std.proofs.lemmas.List.{take_more}
use Rattle.dm_event_world.proofs.Runs.{all_go, runs_all, runs_more}
use Rattle.dm_event_world.proofs.running.run.Goals as goal

pub loop-event-preserved : goal.loop-event-preserved
loop-event-preserved g c =
    let i = c.loop-event.event-index in
    let there : i < length c.args.events.now = omega arith in
    let more : take (i + 1) c.args.events.now ≡ take i c.args.events.now ++ c.event-item.result ∷ [] =
    take_more c.args.events.now i c.event-item.result there ∙
    ap (λ x. take i c.args.events.now ++ x ∷ []) (sym c.event-item.is) in
    record {
      count = search rules;
      room = search rules;
      runs = rw (more, c.push_reserved.ensures.items) (runs_more c.args.world.now c.loop-event.world c.step.new.self
          (take i c.args.events.now)
          c.loop-event.replies.items c.event-item.result c.step.result c.loop-event.invariant.runs
          c.step.ensures.stands);
    }

pub returns-clause-stands : goal.returns-clause-stands
returns-clause-stands g c =
    all_go c.args.world.now c.loop-event.world c.args.events.now c.loop-event.replies.items
    (runs_all c.args.world.now c.loop-event.world c.loop-event.event-index c.args.events.now c.loop-event.replies.items
    (omega (arith, c.loop-event-test.false)) c.loop-event.invariant.runs)
