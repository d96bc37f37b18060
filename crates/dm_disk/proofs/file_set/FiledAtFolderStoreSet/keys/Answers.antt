use Rattle.dm_disk.proofs.InFolder.{set_lists}
use Rattle.dm_disk.proofs.file_set.FiledAtFolderStoreSet.keys.Goals as goal

pub returns-clause-lists : goal.returns-clause-lists
returns-clause-lists g c = rw (← c.self.view_is) (rw c.as_str.ensures.value at
    (set_lists _ _ _ c.keys-keys.ensures.honesty _ _ _ c.keys-keys.ensures.kept c.keys-keys.ensures.lists))

pub returns-clause-kept : goal.returns-clause-kept
returns-clause-kept g c = rw (← c.self.view_is) c.keys-keys.ensures.kept
