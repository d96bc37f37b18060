use Rattle.dm_store.proofs.SortedMaps.{entries_are}
use Rattle.dm_store.proofs.key_map.KeyMap.iter.Goals as goal

pub returns : goal.returns
returns g c = rw (← c.self.view_is)
    (rw (entries_are c.self.inside.tree.entries c.iter.ensures.ordered) c.iter.ensures.rest)
