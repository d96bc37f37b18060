use Rattle.test_helpers.proofs.NamesKept.{removed}
use Rattle.test_helpers.proofs.keeping.KeepingNamesDisk.remove.Goals as goal

pub returns-clause-removes : goal.returns-clause-removes
returns-clause-removes g c = λ honest. removed _ _ _ _ (c.remove.ensures.removes honest)
