use Rattle.std.proofs.Common.{arith}
use Rattle.std.proofs.lemmas.List.{get_or-take, get_or-drop}
use Rattle.dm_check_blocks.proofs.Interleaving.{position-mod}
use Rattle.dm_check_blocks.proofs.symbol.write_blocks.Goals as goal

pub loop-block-preserved : goal.loop-block-preserved
loop-block-preserved c = grind (arith, get_or-drop, get_or-take, position-mod)
