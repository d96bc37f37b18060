use Rattle.std.proofs.{Common.◌++◌, Common.ap, Common.sym, Common.refl, lemmas.Result.err_from_is_err_and}
use Rattle.dm_pbm_io.proofs.Streaming.{takes-trans, until-trans}
use Rattle.dm_pbm_io.specs.{Header.magic, Image.Refuses.after_magic}
use Rattle.dm_pbm_io.proofs.image.read_from.Goals as goal

pub returns-in_err-image : goal.returns-in_err-image
returns-in_err-image g c =
    let p = err_from_is_err_and c.from_residual-in_err-image.result c.from_residual-in_err-image.ensures.1 in
    let start = rw c.in-Some.is at c.in_ok-plain.ensures in
    let stops = c.in_err-image.ensures in
    rw (p.1, p.2) (
      magic c.in-Some.plain ++ stops.0,
      until-trans _ _ _ _ _ _ start stops.1,
      after_magic c.in-Some.plain stops.0 refl stops.2,
    )

pub returns : goal.returns
returns g c =
    let start = rw c.in-Some.is at c.in_ok-plain.ensures in
    let read = c.in_ok-image.ensures in (
      magic c.in-Some.plain ++ read.0,
      takes-trans _ _ _ _ _ start read.1,
      record { rest = read.0; bytes_are = ap (λ p. magic p ++ read.0) (sym read.3); spells = read.2 },
    )
