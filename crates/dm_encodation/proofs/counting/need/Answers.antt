use Rattle.std.proofs.Common.{arith}
use Rattle.dm_encodation.proofs.Counters.{need_near}
use Rattle.dm_encodation.proofs.counting.need.Goals as goal

pub overflow_cast-result : goal.overflow_cast-result
overflow_cast-result c = let below = need_near c.args.scheme c.args.bytes.now in omega (arith, c.word_count.ensures)
