use Rattle.dm_disk.proofs.InFolder.{saves_keep, set_removes}
use Rattle.dm_disk.proofs.file_set.FiledAtFolderStoreSet.remove.Goals as goal

pub returns-clause-removes : goal.returns-clause-removes
returns-clause-removes g c = rw (← c.self.view_is) (rw c.as_str.ensures.value at
    (set_removes _ _ _ c.remove_key.ensures.honesty _ c.ranges.key.fits _
    c.remove_key.ensures.device c.remove_key.ensures.removes))

pub returns-clause-others : goal.returns-clause-others
returns-clause-others g c = rw (← c.self.view_is) (rw c.as_str.ensures.value at
    (saves_keep _ _ _ c.remove_key.ensures.honesty _ _ c.ranges.key.fits c.remove_key.result
    c.remove_key.ensures.removes))
