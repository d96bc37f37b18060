use Rattle.std.proofs.Common.{Result, Err, ap, refl, subst, sym}
use Rattle.std.specs.Prelude.{IsTrue, is_err}
use Rattle.dm_disk.proofs.Saving.{ends_early, keeps_name_on, keeps_name_then, keeps_on, saves_on, saves_then}
use Rattle.dm_store.specs.declared.store.StoreFault.{StoreFault}
use Rattle.dm_disk.proofs.file_store.replace_file.Goals as goal

pub returns-in-Err-Device-clause-saves : goal.returns-in-Err-Device-clause-saves
returns-in-Err-Device-clause-saves g c = λ honest.
    let writes = c.write.ensures.writes honest in
    let drops = c.drop_draft.ensures.others (subst IsTrue (sym c.write.ensures.honesty) honest) in
    ends_early _ _ _ _ _ _ (ap is_err c.drop_draft.ensures.fault) c.requires
    (λ other apart. keeps_on (writes.others other apart) (drops other apart))

pub returns-in-Err-Memory-clause-refused : goal.returns-in-Err-Memory-clause-refused
returns-in-Err-Memory-clause-refused g c = λ is.
    let failed : StoreFault → Result (Unit {0}) StoreFault = λ fault. Err fault in
    c.in-Err-Memory.ensures.refused (ap failed c.in-Err-Memory.field-0-is)

pub returns-in-Err-Memory-clause-saves : goal.returns-in-Err-Memory-clause-saves
returns-in-Err-Memory-clause-saves g c = λ honest.
    ends_early _ _ _ _ _ _ refl c.requires (c.write.ensures.writes honest).others

pub returns-in-Ok-put_in_place-clause-saves : goal.returns-in-Ok-put_in_place-clause-saves
returns-in-Ok-put_in_place-clause-saves g c = λ honest.
    let writes = c.in-Ok.ensures.writes honest in
    saves_on _ _ _ _ _ _ _ c.requires writes.others
    (c.in-Ok-put_in_place.ensures.saves (subst IsTrue (sym c.write.ensures.honesty) honest) _ (writes.done refl))

pub returns-in-Err-clause-saves : goal.returns-in-Err-clause-saves
returns-in-Err-clause-saves g c = λ honest.
    let writes = c.in-Ok.ensures.writes honest in
    let honest_written = subst IsTrue (sym c.write.ensures.honesty) honest in
    let drops = c.drop_draft-in-Err.ensures.others (subst IsTrue (sym c.put_in_place.ensures.honesty) honest_written) in
    saves_on _ _ _ _ _ _ _ c.requires writes.others
    (saves_then _ _ _ _ _ _ _ _ (ap is_err c.drop_draft-in-Err.ensures.fault) c.requires
    (c.in-Err.ensures.saves honest_written _ (writes.done refl)) drops)

pub returns-in-Err-Device-clause-keeps : goal.returns-in-Err-Device-clause-keeps
returns-in-Err-Device-clause-keeps g c = λ honest named has.
    let drops = c.drop_draft.ensures.others (subst IsTrue (sym c.write.ensures.honesty) honest) in
    (ap is_err c.drop_draft.ensures.fault, keeps_on ((c.write.ensures.writes honest).others _ c.requires) (drops _ c.requires))

pub returns-in-Err-Memory-clause-keeps : goal.returns-in-Err-Memory-clause-keeps
returns-in-Err-Memory-clause-keeps g c = λ honest named has. (refl, (c.write.ensures.writes honest).others _ c.requires)

pub returns-in-Ok-put_in_place-clause-keeps : goal.returns-in-Ok-put_in_place-clause-keeps
returns-in-Ok-put_in_place-clause-keeps g c = λ honest.
    keeps_name_on ((c.in-Ok.ensures.writes honest).others _ c.requires)
    (c.in-Ok-put_in_place.ensures.keeps (subst IsTrue (sym c.write.ensures.honesty) honest))

pub returns-in-Err-clause-keeps : goal.returns-in-Err-clause-keeps
returns-in-Err-clause-keeps g c = λ honest.
    let honest_written = subst IsTrue (sym c.write.ensures.honesty) honest in
    let drops = c.drop_draft-in-Err.ensures.others (subst IsTrue (sym c.put_in_place.ensures.honesty) honest_written) in
    keeps_name_on ((c.in-Ok.ensures.writes honest).others _ c.requires)
    (keeps_name_then (ap is_err c.drop_draft-in-Err.ensures.fault) (c.in-Err.ensures.keeps honest_written)
    (drops _ c.requires))
