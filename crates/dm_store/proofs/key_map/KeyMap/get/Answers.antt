use Rattle.dm_store.proofs.SortedMaps.{get_is}
use Rattle.dm_store.proofs.key_map.KeyMap.get.Goals as goal

pub returns : goal.returns
returns g c = rw (← c.self.view_is) (rw (get_is c.self.inside.tree.entries c.args.key) c.get.ensures.value)
