use Rattle.std.proofs.Common.{length}
use Rattle.test_helpers.proofs.mem_disk.+is_synced_in.Given as goal

abbrev pub decreases-is_synced_in : goal.decreases-is_synced_in
decreases-is_synced_in g l = length l.calls.now
