use Rattle.std.proofs.Common.{◌≡◌, ◌≤◌, length, vec_len, vec_capacity}
use Rattle.dm_event_world.proofs.FreshPrinters.{AreFreshSoFar}
use Rattle.dm_event_world.proofs.printer_opening.create_printers.Given as goal

abbrev pub invariant-loop-number : goal.invariant-loop-number
invariant-loop-number g l = record {
  count : vec_len l.printers ≡ l.number;
  room : length l.ranges ≤ vec_capacity l.printers;
  fresh : AreFreshSoFar l.ranges l.printers.items;
}
