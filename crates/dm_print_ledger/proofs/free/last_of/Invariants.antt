use Rattle.std.proofs.Common.{◌≡◌, drop}
use Rattle.std.specs.Option.{option_or}
use Rattle.dm_print_ledger.specs.Verdicts.{last_of}
use Rattle.dm_print_ledger.proofs.free.last_of.Given as goal

abbrev pub invariant-loop-one : goal.invariant-loop-one
invariant-loop-one l = option_or (last_of (drop l.one-index l.ranges) l.count) l.found ≡ last_of l.ranges l.count
