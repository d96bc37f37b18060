use Rattle.std.proofs.Common.{arith, refl}
use Rattle.dm_check_blocks.proofs.{DivisionSteps.zeros_at}
use Rattle.dm_check_blocks.proofs.symbol.data_of_block.Goals as goal

pub loop-i-init : goal.loop-i-init
loop-i-init c = record { size = refl; read = λ j q. absurd (omega arith); zeros = λ j h. zeros_at 336 j }
