use Rattle.std.proofs.Common.{length}
use Rattle.test_helpers.proofs.mem_disk.+may_leave_in.Given as goal

abbrev pub decreases-may_leave_in : goal.decreases-may_leave_in
decreases-may_leave_in g l = length l.calls.now
