use Rattle.dm_store.proofs.SortedMaps.{get_is, one_removed}
use Rattle.dm_store.proofs.key_map.KeyMap.remove.Goals as goal

pub returns-clause-after : goal.returns-clause-after
returns-clause-after g c =
    rw (← c.self.view_is) (one_removed c.self.inside.tree.entries _ c.args.key c.remove.ensures.updates.0)

pub returns-clause-before : goal.returns-clause-before
returns-clause-before g c =
    rw (← c.self.view_is) (rw (get_is c.self.inside.tree.entries c.args.key) c.remove.ensures.value)
