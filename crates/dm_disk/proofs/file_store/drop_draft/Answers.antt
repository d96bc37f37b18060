use Rattle.dm_disk.proofs.file_store.drop_draft.Goals as goal

pub returns-clause-others : goal.returns-clause-others
returns-clause-others g c = λ honest other apart. (c.remove.ensures.removes honest).others other apart apart
