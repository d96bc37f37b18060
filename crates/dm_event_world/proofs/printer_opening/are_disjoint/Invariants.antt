use Rattle.std.proofs.Common.{ℕ, ◌<◌}
use Rattle.dm_event_world.proofs.ApartRanges.{IsApartFromRest}
use Rattle.dm_event_world.proofs.printer_opening.are_disjoint.Given as goal

abbrev pub invariant-loop-i : goal.invariant-loop-i
invariant-loop-i l = (p : ℕ) → p < l.i → IsApartFromRest l.ranges p
