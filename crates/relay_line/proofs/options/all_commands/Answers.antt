use Rattle.std.proofs.Common.{refl}
use Rattle.relay_line.specs.Listed.{the_commands}
use Rattle.relay_line.proofs.options.all_commands.Goals as goal

pub returns : goal.returns
unfolding the_commands
returns c = refl
