use Rattle.std.proofs.Common.{refl, subst, sym}
use Rattle.std.specs.Prelude.{IsTrue}
use Rattle.test_helpers.proofs.NamesKept.{none_read, not_renamed, renamed}
use Rattle.test_helpers.proofs.keeping.KeepingNamesDisk.rename.Goals as goal

pub returns-in_err-read-clause-renames : goal.returns-in_err-read-clause-renames
returns-in_err-read-clause-renames g c = λ honest.
    not_renamed _ _ _ _ _ c.from_residual.ensures.0 c.read.ensures.kept

pub returns-then-is_some-clause-renames : goal.returns-then-is_some-clause-renames
returns-then-is_some-clause-renames g c = λ honest. not_renamed _ _ _ _ _ refl c.read.ensures.kept

pub returns-clause-renames : goal.returns-clause-renames
returns-clause-renames g c = λ honest.
    let none = none_read _ 0 c.in_ok-read.field-0 _ (sym c.if-is_some.ensures) (c.in_ok-read.ensures.reads honest) in
    renamed _ _ _ _ _ _ c.read.ensures.kept none
    (c.rename.ensures.renames (subst IsTrue (sym c.read.ensures.honesty) honest))
