use Rattle.dm_disk.proofs.file_store.FiledAtFileStore.replace.Goals as goal

pub returns-clause-refused : goal.returns-clause-refused
returns-clause-refused g c = rw (← c.self.view_is) c.replace_file.ensures.refused
