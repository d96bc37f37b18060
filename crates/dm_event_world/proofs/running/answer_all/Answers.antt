use Rattle.std.proofs.Common.{arith, ◌≡◌, ◌+◌, ◌<◌, ◌≤◌, ◌++◌, ◌∷◌, [], length, take, ap, refl, sym, ◌∙◌}
use Rattle.std.proofs.lemmas.List.{take_all, take_more}
use Rattle.dm_event_world.proofs.Runs.{answers_more, hears_more}
use Rattle.dm_event_world.proofs.running.answer_all.Goals as goal

pub loop-event-init : goal.loop-event-init
loop-event-init g c = record { told = ([], refl, refl) }

pub loop-event-preserved : goal.loop-event-preserved
loop-event-preserved g c =
    let i = c.loop-event.event-index in
    let told = c.loop-event.invariant.told in
    let there : i < length c.args.events.now = omega arith in
    let more : take (i + 1) c.args.events.now ≡ take i c.args.events.now ++ c.event-item.result ∷ [] =
    take_more c.args.events.now i c.event-item.result there ∙
    ap (λ x. take i c.args.events.now ++ x ∷ []) (sym c.event-item.is) in
    record {
      told = (
        told.0 ++ c.answer_one.result ∷ [],
        rw more (answers_more _ _ _ (take i c.args.events.now) told.0 c.event-item.result c.answer_one.result told.1
            c.answer_one.ensures),
        hears_more _ _ _ _ told.0 c.answer_one.result told.2 c.hear.ensures,
      );
    }

pub returns : goal.returns
returns g c =
    let past : length c.args.events.now ≤ c.loop-event.event-index = omega arith in
    rw (take_all c.loop-event.event-index c.args.events.now past) at c.loop-event.invariant.told
