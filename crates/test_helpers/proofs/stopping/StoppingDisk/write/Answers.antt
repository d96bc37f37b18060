use Rattle.test_helpers.proofs.Stopped.{writes_told}
use Rattle.test_helpers.proofs.stopping.StoppingDisk.write.Goals as goal

pub returns-clause-writes : goal.returns-clause-writes
returns-clause-writes g c = λ honest.
    writes_told _ _ _ c.write.result c.answer.result c.answer.ensures.ok _ (c.write.ensures.writes honest)

pub returns-clause-refused : goal.returns-clause-refused
returns-clause-refused g c = λ is. c.write.ensures.refused (c.answer.ensures.memory is)
