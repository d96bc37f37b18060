use Rattle.std.proofs.Common.{length}
use Rattle.test_helpers.proofs.mem_folder.+bound_of.Given as goal

abbrev pub decreases-bound_of : goal.decreases-bound_of
decreases-bound_of g l = length l.calls.now
