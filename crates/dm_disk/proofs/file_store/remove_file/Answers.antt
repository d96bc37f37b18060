use Rattle.std.proofs.Common.{◌∙◌, ◌≢◌, ap, subst, sym}
use Rattle.std.specs.Prelude.{IsTrue, is_ok}
use Rattle.dm_disk.proofs.Saving.{ends_at, ends_early, ends_late, removed, saves_on}
use Rattle.dm_disk.proofs.file_store.remove_file.Goals as goal

pub returns-in_err-remove-clause-removes : goal.returns-in_err-remove-clause-removes
returns-in_err-remove-clause-removes g c = λ honest.
    let drafts = c.remove.ensures.removes honest in
    ends_early _ _ _ _ _ _ c.from_residual.ensures.0 c.requires (λ other apart. drafts.others other apart apart)

pub returns-in_err-remove-2-clause-removes : goal.returns-in_err-remove-2-clause-removes
returns-in_err-remove-2-clause-removes g c = λ honest.
    let drafts = c.remove.ensures.removes honest in
    let removes = c.remove-2.ensures.removes (subst IsTrue (sym c.remove.ensures.honesty) honest) in
    saves_on _ _ _ _ _ _ _ c.requires (λ other apart. drafts.others other apart apart)
    (ends_at _ _ _ _ _ _ _ c.from_residual-in_err-remove-2.ensures.0 (removed _ _ _ _ _ removes))

pub returns-clause-removes : goal.returns-clause-removes
returns-clause-removes g c = λ honest.
    let drafts = c.remove.ensures.removes honest in
    let honest_removed = subst IsTrue (sym c.remove.ensures.honesty) honest in
    let entry = c.sync_entry.ensures.syncs (subst IsTrue (sym c.remove-2.ensures.honesty) honest_removed) in
    saves_on _ _ _ _ _ _ _ c.requires (λ other apart. drafts.others other apart apart)
    (ends_late _ _ _ _ _ _ _ _ (ap is_ok c.in_ok-remove-2.was)
    (removed _ _ _ _ _ (c.remove-2.ensures.removes honest_removed)) c.sync_entry.ensures.kept entry)

pub returns-clause-no_draft : goal.returns-clause-no_draft
returns-clause-no_draft g c = λ honest _.
    let other : c.args.draft.now ≢ c.args.path.now = λ is. c.requires (sym is) in
    let removes = c.remove-2.ensures.removes (subst IsTrue (sym c.remove.ensures.honesty) honest) in
    (c.sync_entry.ensures.kept c.args.draft.now).seen ∙ (removes.others c.args.draft.now other other).seen
    ∙ (c.remove.ensures.removes honest).done (ap is_ok c.in_ok-remove.was)
