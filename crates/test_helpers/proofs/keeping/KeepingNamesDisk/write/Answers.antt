use Rattle.test_helpers.proofs.NamesKept.{all_kept, written}
use Rattle.test_helpers.proofs.keeping.KeepingNamesDisk.write.Goals as goal

pub returns-clause-writes : goal.returns-clause-writes
returns-clause-writes g c = λ honest. written _ _ _ _ _ (c.write.ensures.writes honest)

pub returns-clause-refused : goal.returns-clause-refused
returns-clause-refused g c = λ refused. all_kept (c.write.ensures.refused refused)
