use Rattle.relay_places.proofs.locked.LockedAnyDisk.write.Goals as goal

pub returns-clause-refused : goal.returns-clause-refused
returns-clause-refused g c = λ refused. c.write-written.ensures.refused (rw c.told.ensures at refused)
