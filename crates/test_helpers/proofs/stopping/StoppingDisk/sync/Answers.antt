use Rattle.test_helpers.proofs.Stopped.{syncs_told}
use Rattle.test_helpers.proofs.stopping.StoppingDisk.sync.Goals as goal

pub returns-clause-syncs : goal.returns-clause-syncs
returns-clause-syncs g c = λ honest.
    syncs_told _ _ _ c.sync.result c.answer.result c.answer.ensures.ok (c.sync.ensures.syncs honest)
