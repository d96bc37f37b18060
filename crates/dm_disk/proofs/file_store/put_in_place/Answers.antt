use Rattle.std.proofs.Common.{ap, subst, sym, ◌∙◌, inl}
use Rattle.std.specs.Prelude.{IsTrue, is_ok}
use Rattle.dm_disk.proofs.Saving.{ends_at, ends_early, ends_late, keeps_name_on, keeps_name_then, keeps_same, not_both, renamed, saves_on}
use Rattle.dm_disk.proofs.file_store.put_in_place.Goals as goal

pub returns-in_err-sync-clause-saves : goal.returns-in_err-sync-clause-saves
returns-in_err-sync-clause-saves g c = λ honest bytes shows.
    ends_early _ _ _ _ _ _ c.from_residual.ensures.0 c.requires (c.sync.ensures.syncs honest).others

pub returns-in_err-rename-clause-saves : goal.returns-in_err-rename-clause-saves
returns-in_err-rename-clause-saves g c = λ honest bytes shows.
    let syncs = c.sync.ensures.syncs honest in
    let synced = ap is_ok c.in_ok-sync.was in
    let renames = c.rename.ensures.renames (subst IsTrue (sym c.sync.ensures.honesty) honest) in
    saves_on _ _ _ _ _ _ _ c.requires syncs.others (ends_at _ _ _ _ _ _ _ c.from_residual-in_err-rename.ensures.0
    (renamed _ _ _ _ _ _ (syncs.done synced) ((syncs.kept (inl synced)).seen ∙ shows) renames))

pub returns-in_err-sync-clause-keeps : goal.returns-in_err-sync-clause-keeps
returns-in_err-sync-clause-keeps g c = λ honest named has.
    (c.from_residual.ensures.0, (c.sync.ensures.syncs honest).others _ c.requires)

pub returns-in_err-rename-clause-keeps : goal.returns-in_err-rename-clause-keeps
returns-in_err-rename-clause-keeps g c = λ honest.
    let renames = c.rename.ensures.renames (subst IsTrue (sym c.sync.ensures.honesty) honest) in
    keeps_name_on ((c.sync.ensures.syncs honest).others _ c.requires)
    (keeps_name_then c.from_residual-in_err-rename.ensures.0 renames.keeps keeps_same)

pub returns-clause-keeps : goal.returns-clause-keeps
returns-clause-keeps g c = λ honest.
    let renames = c.rename.ensures.renames (subst IsTrue (sym c.sync.ensures.honesty) honest) in
    keeps_name_on ((c.sync.ensures.syncs honest).others _ c.requires)
    (λ named has. absurd (not_both _ (renames.keeps named has).0 (ap is_ok c.in_ok-rename.was)))

pub returns-clause-saves : goal.returns-clause-saves
returns-clause-saves g c = λ honest bytes shows.
    let syncs = c.sync.ensures.syncs honest in
    let synced = ap is_ok c.in_ok-sync.was in
    let honest_synced = subst IsTrue (sym c.sync.ensures.honesty) honest in
    let puts = renamed _ _ _ _ _ _ (syncs.done synced) ((syncs.kept (inl synced)).seen ∙ shows)
    (c.rename.ensures.renames honest_synced) in
    let entry = c.sync_entry.ensures.syncs (subst IsTrue (sym c.rename.ensures.honesty) honest_synced) in
    saves_on _ _ _ _ _ _ _ c.requires syncs.others
    (ends_late _ _ _ _ _ _ _ _ (ap is_ok c.in_ok-rename.was) puts c.sync_entry.ensures.kept entry)
