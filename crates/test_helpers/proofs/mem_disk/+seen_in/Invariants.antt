use Rattle.std.proofs.Common.{length}
use Rattle.test_helpers.proofs.mem_disk.+seen_in.Given as goal

abbrev pub decreases-seen_in : goal.decreases-seen_in
decreases-seen_in g l = length l.calls.now
