use Rattle.std.proofs.Common.{◌≡◌, ◌++◌, length}
use Rattle.dm_encodation.specs.Written.{ascii}
use Rattle.dm_encodation.proofs.ascii.push_ascii.Given as goal

abbrev pub invariant-loop-piece : goal.invariant-loop-piece
invariant-loop-piece g l = l.out.items ++ ascii l.rest ≡ l.fn.out.items ++ ascii l.fn.bytes

abbrev pub decreases-loop-piece : goal.decreases-loop-piece
decreases-loop-piece g l = length l.rest
