use Rattle.std.proofs.Common.{refl, sym, ◌∙◌}
use Rattle.dm_event_history.specs.Steps.{import_reply}
use Rattle.dm_event_world.proofs.DeskCalls.{down_ends, import_carried, made_ends, stopped_ends}
use Rattle.dm_event_world.proofs.desk_act.import.Goals as goal

pub returns-in_default : goal.returns-in_default
returns-in_default g c = record {
  ends = λ export entry bytes_are capacity. down_ends capacity _ _ (λ stored. refl) _ _ c.in_default.is;
}

pub returns-then-is_stopped_before : goal.returns-then-is_stopped_before
returns-then-is_stopped_before g c = record {
  ends = λ export entry bytes_are capacity. stopped_ends _ _ capacity _ _ _ _ c.in-Running.is c.take_down.ensures
      (sym c.is_stopped_before.ensures ∙ c.if-is_stopped_before.true);
}

pub returns : goal.returns
returns g c = record {
  ends = λ export entry bytes_are capacity. made_ends _ import_reply _ _ _ capacity _ refl refl
      (sym c.is_stopped_before.ensures ∙ c.if-is_stopped_before.false) _ _ _ _ _ _ _ c.in-Running.is
      c.import_under-answer.ensures c.tell_import.ensures c.end.ensures.told c.end.ensures.ended
      (import_carried export entry _ bytes_are capacity _ _ _);
}
