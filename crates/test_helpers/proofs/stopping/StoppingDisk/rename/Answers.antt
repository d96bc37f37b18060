use Rattle.test_helpers.proofs.Stopped.{renames_told}
use Rattle.test_helpers.proofs.stopping.StoppingDisk.rename.Goals as goal

pub returns-clause-renames : goal.returns-clause-renames
returns-clause-renames g c = λ honest.
    renames_told _ _ _ c.rename.result c.answer.result c.answer.ensures.ok _ (c.rename.ensures.renames honest)
