use Rattle.std.proofs.Common.{take}
use Rattle.dm_encodation.specs.inner.Counting.{Counts}
use Rattle.dm_encodation.proofs.counting.word_count.Given as goal

abbrev pub invariant-loop-byte : goal.invariant-loop-byte
invariant-loop-byte l = Counts l.fn.scheme (take l.byte-index l.bytes) l.counter
