use Rattle.std.proofs.Common.{take}
use Rattle.dm_encodation.specs.inner.Counting.{Counts}
use Rattle.dm_encodation.proofs.Prefixes.{FitsSoFar}
use Rattle.dm_encodation.proofs.counting.greatest_prefix.Given as goal

abbrev pub invariant-loop-index : goal.invariant-loop-index
invariant-loop-index l = record {
  counts : Counts l.fn.scheme (take l.index l.bytes) l.counter;
  so_far : FitsSoFar l.fn.scheme l.room l.bytes l.index l.greatest;
}
