use Rattle.std.proofs.Common.{Ok, Err, Vec, ℕ, refl}
use Rattle.dm_event_world.proofs.{DeskCalls.down_ends, DeskLooks.asked, DeskLooks.given_so, DeskLooks.refused_so}
use Rattle.dm_event_world.proofs.desk_act.ask.Goals as goal

pub returns-in_default : goal.returns-in_default
returns-in_default g c = record {
  ends = λ capacity. down_ends capacity _ _ (λ stored. refl) c.args.state.now c.in_default.field-0 c.in_default.is;
}

pub returns-in-Ok : goal.returns-in-Ok
returns-in-Ok g c = record {
  ends = λ capacity. asked capacity c.args.id c.args.state.now c.in-Running.desk (Ok c.in-Ok.bytes.items) c.in-Running.is
      (given_so (λ v. v.items) _ c.in-Ok.bytes c.in-Ok.ensures.asks);
}

pub returns-in-Err : goal.returns-in-Err
returns-in-Err g c = record {
  ends = λ capacity. asked capacity c.args.id c.args.state.now c.in-Running.desk (Err c.in-Err.fault) c.in-Running.is
      (refused_so (Vec ℕ g.row.A.Denot) (λ v. v.items) _ c.in-Err.fault c.in-Err.ensures.asks);
}
