use Rattle.dm_disk.proofs.file_store.FiledAtFileStore.settle.Goals as goal

pub returns-clause-kept : goal.returns-clause-kept
returns-clause-kept g c = rw (← c.self.view_is) c.settle_entry.ensures.kept
