use Rattle.dm_disk.proofs.InFolder.{set_settles}
use Rattle.dm_disk.proofs.file_set.FiledAtFolderStoreSet.settle.Goals as goal

pub returns-clause-settles : goal.returns-clause-settles
returns-clause-settles g c = rw (← c.self.view_is)
    (set_settles _ _ _ c.settle_folder.ensures.honesty _ c.settle_folder.ensures.kept)

pub returns-clause-kept : goal.returns-clause-kept
returns-clause-kept g c = rw (← c.self.view_is) c.settle_folder.ensures.kept
