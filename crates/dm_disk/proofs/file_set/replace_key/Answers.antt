use Rattle.std.proofs.Common.{◌∙◌, ap, subst, sym}
use Rattle.std.specs.Prelude.{IsTrue}
use Rattle.dm_disk.specs.Disk.{draft_of}
use Rattle.dm_disk.proofs.{Names.draft_apart, Saving.ends_early, Saving.keeps_on, Saving.saves_on}
use Rattle.dm_disk.proofs.file_set.replace_key.Goals as goal

pub returns-in_err-make_once-clause-saves : goal.returns-in_err-make_once-clause-saves
returns-in_err-make_once-clause-saves g c = λ honest.
    ends_early _ _ _ _ _ _ c.from_residual-in_err-make_once.ensures.0
    (draft_apart c.args.folder.now c.args.key c.args.key) (λ other _. c.make_once.ensures.kept other)

pub returns-clause-refused : goal.returns-clause-refused
returns-clause-refused g c = λ is each.
    keeps_on (c.make_once.ensures.kept each) (c.replace_file.ensures.refused is each)

pub returns-clause-saves : goal.returns-clause-saves
returns-clause-saves g c = λ honest.
    let path = c.as_str-2.ensures.value ∙ c.in_ok-path.ensures.path in
    let draft = c.as_str-3.ensures.value ∙ c.in_ok-draft.ensures.whole
    ∙ ap draft_of (c.as_str.ensures.value ∙ c.in_ok-path.ensures.path) in
    saves_on _ _ _ _ _ _ _ (draft_apart c.args.folder.now c.args.key c.args.key)
    (λ other _. c.make_once.ensures.kept other)
    (rw (path, draft) at (c.replace_file.ensures.saves (subst IsTrue (sym c.make_once.ensures.honesty) honest)))
