use Rattle.std.proofs.lemmas.Result.{err_from_is_err_and}
use Rattle.dm_store.proofs.SortedMaps.{get_is, one_given}
use Rattle.dm_store.proofs.key_map.KeyMap.insert.Goals as goal

pub returns-clause-ok : goal.returns-clause-ok
returns-clause-ok g c =
    rw (← c.self.view_is) (one_given c.self.inside.tree.entries _ c.args.key c.args.value
    c.in_ok-insert.ensures.updates.0)

pub returns-clause-before : goal.returns-clause-before
returns-clause-before g c =
    rw (← c.self.view_is) (rw (get_is c.self.inside.tree.entries c.args.key) c.in_ok-insert.ensures.old)

pub returns-in_err-insert-clause-absent : goal.returns-in_err-insert-clause-absent
returns-in_err-insert-clause-absent g c =
    let p = err_from_is_err_and c.from_residual.result c.from_residual.ensures.1 in
    rw p.1 (rw (← c.self.view_is) (rw (get_is c.self.inside.tree.entries c.args.key) c.in_err-insert.ensures.absent))
