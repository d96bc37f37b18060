use Rattle.std.proofs.Common.{◌≡◌, drop}
use Rattle.std.specs.Prelude.{max}
use Rattle.dm_print_ledger.specs.Verdicts.{longest}
use Rattle.dm_print_ledger.proofs.free.longest.Given as goal

abbrev pub invariant-loop-one : goal.invariant-loop-one
invariant-loop-one l = max l.most (longest (drop l.one-index l.ranges)) ≡ longest l.ranges
