use Rattle.std.proofs.Common.{length}
use Rattle.relay_line.proofs.options.+rows_in.Given as goal

-- proposed from what the function passes where it calls itself
abbrev pub decreases-rows_in : goal.decreases-rows_in
decreases-rows_in l = length l.commands.now
