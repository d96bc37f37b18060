use Rattle.std.proofs.Common.{[], length, refl, sym, ◌∙◌}
use Rattle.dm_event_history.specs.Steps.{Calls, GiveComes, give_faults}
use Rattle.dm_event_world.proofs.Endings.{not_first}
use Rattle.dm_event_world.proofs.PrinterEvents.{down_answers, give_ends, lacks_its, stopped_first}
use Rattle.dm_event_world.proofs.printer_act.give.Goals as goal

pub returns-in_default : goal.returns-in_default
returns-in_default g c = record {
  ends = down_answers _ (λ stored. refl) [] _ [] c.args.actor.now c.in_default.field-0 c.in_default.is;
}

pub returns-in_default-reserve : goal.returns-in_default-reserve
returns-in_default-reserve g c = record {
  ends = rw c.reserve.ensures.items (lacks_its (Calls give_faults c.args.stop
      (GiveComes (length c.args.tickets.now.items) c.args.receiver c.args.range)) [] _ [] _ _ c.in-Running.is);
}

pub returns-then-is_stopped_before : goal.returns-then-is_stopped_before
returns-then-is_stopped_before g c = record {
  ends = rw c.reserve.ensures.items (stopped_first _ _ _ _ (not_first _) [] _ [] _ _ _ c.in-Running.is
      (sym c.is_stopped_before.ensures ∙ c.if-is_stopped_before.true) c.take_down.ensures);
}

pub returns : goal.returns
returns g c = record {
  ends = give_ends _ _ _ _ _ _ _ _ _ _ _ _ c.in-Running.is
      (sym c.is_stopped_before.ensures ∙ c.if-is_stopped_before.false) c.give_under-outcome.ensures
      (rw c.reserve.ensures.items at c.tell_give-reply.ensures.told)
      (rw c.reserve.ensures.items at c.tell_give-reply.ensures.left) c.end.ensures.told c.end.ensures.ended;
}
