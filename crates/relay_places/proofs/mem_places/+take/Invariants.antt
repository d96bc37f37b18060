use Rattle.std.proofs.Common.{length}
use Rattle.relay_places.proofs.mem_places.+take.Given as goal

abbrev pub decreases-take : goal.decreases-take
decreases-take l = length l.kept.now
