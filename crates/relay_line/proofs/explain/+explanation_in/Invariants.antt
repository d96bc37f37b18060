use Rattle.std.proofs.Common.{length}
use Rattle.relay_line.proofs.explain.+explanation_in.Given as goal

-- proposed from what the function passes where it calls itself
abbrev pub decreases-explanation_in : goal.decreases-explanation_in
decreases-explanation_in l = length l.table.now
