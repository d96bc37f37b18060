use Rattle.test_helpers.proofs.NamesKept.{synced}
use Rattle.test_helpers.proofs.keeping.KeepingNamesDisk.sync.Goals as goal

pub returns-clause-syncs : goal.returns-clause-syncs
returns-clause-syncs g c = λ honest. synced _ _ _ _ (c.sync.ensures.syncs honest)
