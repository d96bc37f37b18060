use Rattle.std.proofs.{lemmas.Grind.common_steps, Common.arith}
use Rattle.dm_finder_frame.specs.Frame.{wrong_frame_modules}
use Rattle.dm_finder_frame.proofs.WrongCounts.{joined, turned, passed}
use Rattle.dm_finder_frame.proofs.unframing.wrong_count.Goals.{then-place-framed, else-place-framed}
use Rattle.dm_finder_frame.proofs.unframing.wrong_count.Goals as goal

pub loop-row-preserved : goal.loop-row-preserved
loop-row-preserved c = grind (arith, joined, then-place-framed, turned, else-place-framed, passed)

pub returns : goal.returns
unfolding wrong_frame_modules
returns c = grind (arith, common_steps)
