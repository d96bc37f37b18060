use Rattle.std.proofs.Common.{length}
use Rattle.relay_places.proofs.mem_places.+content.Given as goal

abbrev pub decreases-content : goal.decreases-content
decreases-content l = length l.kept.now
