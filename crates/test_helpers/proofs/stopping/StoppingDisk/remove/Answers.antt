use Rattle.dm_disk.proofs.Saving.{puts_told}
use Rattle.test_helpers.proofs.stopping.StoppingDisk.remove.Goals as goal

pub returns-clause-removes : goal.returns-clause-removes
returns-clause-removes g c = λ honest.
    puts_told _ _ _ _ _ c.remove.result c.answer.result c.answer.ensures.ok (c.remove.ensures.removes honest)
