use Rattle.std.proofs.Common.{[], refl, sym, ◌∙◌}
use Rattle.dm_event_history.specs.Steps.{TakeComes, take_faults}
use Rattle.dm_event_world.proofs.PrinterEvents.{down_answers, stopped_first, take_ends}
use Rattle.dm_event_world.proofs.printer_act.take.Goals as goal

pub returns-in_default : goal.returns-in_default
returns-in_default g c = record {
  ends = λ number. down_answers _ (λ stored. refl) [] [] [] c.args.actor.now c.in_default.field-0 c.in_default.is;
}

pub returns-then-is_stopped_before : goal.returns-then-is_stopped_before
returns-then-is_stopped_before g c = record {
  ends = λ number. stopped_first take_faults c.args.stop (TakeComes number c.args.ticket.now) _ (λ shown end calls. calls)
      [] [] [] _ _ _ c.in-Running.is (sym c.is_stopped_before.ensures ∙ c.if-is_stopped_before.true)
      c.take_down.ensures;
}

pub returns : goal.returns
returns g c = record {
  ends = λ number. take_ends number _ _ _ _ _ _ _ _ _ c.in-Running.is
      (sym c.is_stopped_before.ensures ∙ c.if-is_stopped_before.false) c.take_under-outcome.ensures.takes
      c.take_under-outcome.ensures.range c.tell_take-reply.ensures c.end.ensures.told c.end.ensures.ended;
}
