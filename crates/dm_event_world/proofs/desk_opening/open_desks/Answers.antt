use Rattle.std.proofs.Common.{◌≡◌, ◌<◌, length, arith, slice_index_or, refl}
use Rattle.dm_event_world.specs.declared.actor.DeskState.TheVariants.{Running}
use Rattle.dm_event_world.proofs.EmptyDesks.{all_opened, one_more_opened, opened_empty}
use Rattle.dm_event_world.proofs.desk_opening.open_desks.Goals as goal

pub loop-capacity-preserved : goal.loop-capacity-preserved
loop-capacity-preserved g c =
    let i = c.loop-capacity.capacity-index in
    let capacity = slice_index_or c.args.capacities.now i 0 in
    let there : i < length c.args.capacities.now = omega arith in
    one_more_opened c.args.capacities.now i capacity c.loop-capacity.desks.items c.push.new.self.items
    (record { capacity = capacity; state = Running c.in-Ok.desk }) there refl refl
    (opened_empty g.row.A.Denot c.new.result capacity c.in-Ok.desk c.new.ensures c.in-Ok.ensures.ok c.in-Ok.ensures.found)
    c.in_ok-push.ensures.items c.loop-capacity.invariant

pub returns : goal.returns
returns g c =
    let whole : c.loop-capacity.capacity-index ≡ length c.args.capacities.now = omega arith in
    record {
      empty = all_opened c.args.capacities.now c.loop-capacity.capacity-index c.loop-capacity.desks.items whole
          c.loop-capacity.invariant;
    }
