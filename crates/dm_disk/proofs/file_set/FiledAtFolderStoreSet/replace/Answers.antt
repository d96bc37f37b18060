use Rattle.std.proofs.Common.{Some}
use Rattle.dm_disk.proofs.InFolder.{saves_keep, set_saves}
use Rattle.dm_disk.proofs.file_set.FiledAtFolderStoreSet.replace.Goals as goal

pub returns-clause-replaces : goal.returns-clause-replaces
returns-clause-replaces g c = rw (← c.self.view_is) (rw c.as_str.ensures.value at
    (set_saves _ _ _ c.replace_key.ensures.honesty _ (Some c.args.bytes.now) c.ranges.key.fits _
    c.replace_key.ensures.refused c.replace_key.ensures.saves))

pub returns-clause-refused : goal.returns-clause-refused
returns-clause-refused g c = rw (← c.self.view_is) c.replace_key.ensures.refused

pub returns-clause-others : goal.returns-clause-others
returns-clause-others g c = rw (← c.self.view_is) (rw c.as_str.ensures.value at
    (saves_keep _ _ _ c.replace_key.ensures.honesty _ _ c.ranges.key.fits c.replace_key.result
    c.replace_key.ensures.saves))
