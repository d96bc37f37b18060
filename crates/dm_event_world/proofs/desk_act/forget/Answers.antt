use Rattle.std.proofs.Common.{refl, sym, ◌∙◌}
use Rattle.dm_event_history.specs.Steps.{forget_reply}
use Rattle.dm_event_world.proofs.DeskCalls.{down_ends, forget_carried, made_ends, stopped_ends}
use Rattle.dm_event_world.proofs.desk_act.forget.Goals as goal

pub returns-in_default : goal.returns-in_default
returns-in_default g c = record {
  ends = λ capacity. down_ends capacity _ _ (λ stored. refl) c.args.state.now c.in_default.field-0 c.in_default.is;
}

pub returns-then-is_stopped_before : goal.returns-then-is_stopped_before
returns-then-is_stopped_before g c = record {
  ends = λ capacity. stopped_ends _ _ capacity _ _ _ _ c.in-Running.is c.take_down.ensures
      (sym c.is_stopped_before.ensures ∙ c.if-is_stopped_before.true);
}

pub returns : goal.returns
returns g c = record {
  ends = λ capacity. made_ends _ forget_reply _ _ _ capacity _ refl refl
      (sym c.is_stopped_before.ensures ∙ c.if-is_stopped_before.false) _ _ _ _ _ _ _ c.in-Running.is
      c.forget_under-answer.ensures c.tell_forget.ensures c.end.ensures.told c.end.ensures.ended
      (forget_carried c.args.id capacity _ _ _);
}
