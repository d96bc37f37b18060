use Rattle.std.proofs.Common.{arith}
use Rattle.dm_gf256.proofs.Ring.{power_byte}
use Rattle.dm_check_blocks.proofs.Remainders.{whole}
use Rattle.dm_check_blocks.proofs.checks.fill_word_by_word.Goals as goal

pub returns : goal.returns
returns c = grind (arith, power_byte, whole)
