use Rattle.std.proofs.Common.{Result, Err, ap, refl, ◌∙◌}
use Rattle.dm_disk.proofs.Saving.{not_both, saves_told}
use Rattle.dm_disk.specs.Disk.{draft_of}
use Rattle.dm_store.specs.declared.store.StoreFault.{StoreFault}
use Rattle.dm_store.specs.declared.store.StoreFault.TheVariants.{Device}
use Rattle.dm_disk.proofs.file_set.remove_key.Goals as goal

pub returns-in-Ok-clause-removes : goal.returns-in-Ok-clause-removes
returns-in-Ok-clause-removes g c = λ honest.
    let path = c.as_str-2.ensures.value ∙ c.in_ok-path.ensures.path in
    let draft = c.as_str-3.ensures.value ∙ c.in_ok-draft.ensures.whole
    ∙ ap draft_of (c.as_str.ensures.value ∙ c.in_ok-path.ensures.path) in
    rw (path, draft) at (c.in-Ok.ensures.removes honest)

pub returns-in-Err-clause-removes : goal.returns-in-Err-clause-removes
returns-in-Err-clause-removes g c = λ honest.
    let answer : Result (Unit {0}) StoreFault = Err Device in
    let path = c.as_str-2.ensures.value ∙ c.in_ok-path.ensures.path in
    let draft = c.as_str-3.ensures.value ∙ c.in_ok-draft.ensures.whole
    ∙ ap draft_of (c.as_str.ensures.value ∙ c.in_ok-path.ensures.path) in
    saves_told _ _ _ _ _ _ answer (λ ok. absurd (not_both answer refl ok))
    (rw (path, draft) at (c.in-Err.ensures.removes honest))

pub returns-in-Ok-clause-no_draft : goal.returns-in-Ok-clause-no_draft
returns-in-Ok-clause-no_draft g c = λ honest _.
    let draft = c.as_str-3.ensures.value ∙ c.in_ok-draft.ensures.whole
    ∙ ap draft_of (c.as_str.ensures.value ∙ c.in_ok-path.ensures.path) in
    rw draft at (c.in-Ok.ensures.no_draft honest refl)
