use Rattle.std.proofs.Common.{refl, sym, ◌∙◌, []}
use Rattle.dm_finder_frame.specs.Frame.{flipped}
use Rattle.dm_event_history.specs.Steps.{Calls, ScanComes, scan_faults, scan_reply}
use Rattle.dm_event_world.proofs.DeskCalls.{down_ends, lacking, made_ends, not_lacking, scan_of_flipped, stopped_ends}
use Rattle.dm_event_world.proofs.desk_act.scan.Goals as goal

pub returns-in_default : goal.returns-in_default
returns-in_default g c = record {
  ends = λ capacity. down_ends capacity [] _ (λ stored. refl) c.args.state.now c.in_default.field-0 c.in_default.is;
}

pub returns-in_default-with_flips : goal.returns-in_default-with_flips
returns-in_default-with_flips g c = record {
  ends = λ capacity. lacking capacity [] (Calls scan_faults _ (ScanComes capacity (flipped c.args.grid.now c.args.flips.now))) _ _ _
      c.in-Running.is c.in-Running.is;
}

pub returns-then-is_stopped_before : goal.returns-then-is_stopped_before
returns-then-is_stopped_before g c = record {
  ends = λ capacity. not_lacking capacity _ _ _ _ _ (stopped_ends _ _ capacity _ _ _ _ c.in-Running.is c.take_down.ensures
      (sym c.is_stopped_before.ensures ∙ c.if-is_stopped_before.true));
}

pub returns : goal.returns
returns g c = record {
  ends = λ capacity. not_lacking capacity _ _ _ _ _ (made_ends _ scan_reply _ _ _ capacity _ refl refl
      (sym c.is_stopped_before.ensures ∙ c.if-is_stopped_before.false) _ _ _ _ _ _ _ c.in-Running.is
      c.accept_under-answer.ensures c.tell_scan.ensures c.end.ensures.told c.end.ensures.ended
      (λ mid s does. scan_of_flipped _ _ capacity _ _ _ mid c.in-Ok.ensures s does));
}
