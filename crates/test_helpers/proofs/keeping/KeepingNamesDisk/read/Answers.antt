use Rattle.test_helpers.proofs.NamesKept.{all_kept}
use Rattle.test_helpers.proofs.keeping.KeepingNamesDisk.read.Goals as goal

pub returns-clause-kept : goal.returns-clause-kept
returns-clause-kept g c = all_kept c.read.ensures.kept
