use Rattle.std.proofs.Common.{◌≡◌, ◌≤◌, length, arith, rules}
use Rattle.std.proofs.lemmas.Option.{slice_get-get_or}
use Rattle.dm_event_world.proofs.{FewRanges.few_ranges, FreshPrinters.one_more, FreshPrinters.created_fresh}
use Rattle.dm_event_world.proofs.printer_opening.create_printers.Goals as goal

pub overflow_cast-number : goal.overflow_cast-number
overflow_cast-number g c =
    let few : length c.args.ranges.now ≤ 64516 = few_ranges c.args.ranges.now c.requires.ranges c.requires.disjoint in
    omega arith

pub loop-number-preserved : goal.loop-number-preserved
loop-number-preserved g c =
    let number = c.loop-number.number in
    let last : number ≡ length c.loop-number.printers.items = omega (arith, c.loop-number.printers.ok.0) in
    let here = slice_get-get_or c.args.ranges.now number (record { first = 0; last = 0 }) c.loop-number-test.true in
    record {
      count = search rules;
      room = search rules;
      fresh = one_more c.args.ranges.now c.loop-number.printers.items c.push_reserved.new.self.items _ _ number last
          c.push_reserved.ensures.items here
          (created_fresh g.row.A.Denot c.new.result number _ c.in-Ok.printer c.new.ensures
          (c.requires.ranges number (record { first = 0; last = 0 }) c.loop-number-test.true) c.in-Ok.ensures)
          c.loop-number.invariant.fresh;
    }

pub returns-clause-few : goal.returns-clause-few
returns-clause-few g c =
    let count : length c.loop-number.printers.items ≡ length c.args.ranges.now =
    omega (arith, c.loop-number.printers.ok.0) in
    let few : length c.args.ranges.now ≤ 64516 = few_ranges c.args.ranges.now c.requires.ranges c.requires.disjoint in
    omega arith
