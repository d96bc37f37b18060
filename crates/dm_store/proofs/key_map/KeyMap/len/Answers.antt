use Rattle.dm_store.proofs.SortedMaps.{len_is}
use Rattle.dm_store.proofs.key_map.KeyMap.len.Goals as goal

pub returns : goal.returns
returns g c = rw (← c.self.view_is) (rw (len_is c.self.inside.tree.entries c.len.ensures.ordered) c.len.ensures.len)
