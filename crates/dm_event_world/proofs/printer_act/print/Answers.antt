use Rattle.std.proofs.Common.{[], length, refl, sym, ◌∙◌}
use Rattle.dm_event_history.specs.Steps.{Calls, PrintComes, print_faults}
use Rattle.dm_event_world.proofs.Endings.{not_first}
use Rattle.dm_event_world.proofs.PrinterEvents.{down_answers, lacks_its, most_sixteen, print_ends, stopped_first}
use Rattle.dm_event_world.proofs.printer_act.print.Goals as goal

pub returns-in_default : goal.returns-in_default
returns-in_default g c = record {
  ends = down_answers _ (λ stored. refl) _ [] [] c.args.actor.now c.in_default.field-0 c.in_default.is;
}

pub returns-in_default-reserve : goal.returns-in_default-reserve
returns-in_default-reserve g c = record {
  ends = rw c.reserve.ensures.items (lacks_its (Calls print_faults c.args.stop (PrintComes
      (length c.args.labels.now.items) c.args.document.now c.args.size c.args.scheme)) _ [] [] _ _ c.in-Running.is);
}

pub returns-then-is_stopped_before : goal.returns-then-is_stopped_before
returns-then-is_stopped_before g c = record {
  ends = rw c.reserve.ensures.items (stopped_first _ _ _ _ (not_first _) _ [] [] _ _ _ c.in-Running.is
      (sym c.is_stopped_before.ensures ∙ c.if-is_stopped_before.true) c.take_down.ensures);
}

pub tell_print-reply-requires-clause-few : goal.tell_print-reply-requires-clause-few
tell_print-reply-requires-clause-few g c = most_sixteen _ _ _ _ c.print_under-outcome.ensures

pub returns : goal.returns
returns g c = record {
  ends = print_ends _ _ _ _ _ _ _ _ _ _ _ _ _ c.in-Running.is
      (sym c.is_stopped_before.ensures ∙ c.if-is_stopped_before.false) c.print_under-outcome.ensures
      (rw c.reserve.ensures.items at c.tell_print-reply.ensures.told)
      (rw c.reserve.ensures.items at c.tell_print-reply.ensures.left) c.end.ensures.told c.end.ensures.ended;
}
