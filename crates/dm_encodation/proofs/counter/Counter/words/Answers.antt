use Rattle.std.proofs.Common.{arith, ◌∙◌}
use Rattle.dm_encodation.proofs.Counters.{words-ascii, words-run, words-base_256}
use Rattle.dm_encodation.proofs.counter.Counter.words.Goals as goal

pub returns-in-Ascii : goal.returns-in-Ascii
returns-in-Ascii c = rw c.in-Ascii.is (words-ascii c.in-Ascii.counter)

pub returns-in-Base256 : goal.returns-in-Base256
returns-in-Base256 c = grind (arith, words-base_256)

pub returns-in-Run : goal.returns-in-Run
returns-in-Run c = rw c.in-Run.is (λ scheme bytes counts. c.words.ensures ∙ words-run _ _ scheme bytes counts)
