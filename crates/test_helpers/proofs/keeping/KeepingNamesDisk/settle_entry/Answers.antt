use Rattle.test_helpers.proofs.NamesKept.{all_kept}
use Rattle.test_helpers.proofs.keeping.KeepingNamesDisk.settle_entry.Goals as goal

pub returns-clause-kept : goal.returns-clause-kept
returns-clause-kept g c = all_kept c.settle_entry.ensures.kept
