use Rattle.test_helpers.proofs.NamesKept.{all_kept}
use Rattle.test_helpers.proofs.keeping.KeepingNamesDisk.sync_entry.Goals as goal

pub returns-clause-kept : goal.returns-clause-kept
returns-clause-kept g c = all_kept c.sync_entry.ensures.kept
