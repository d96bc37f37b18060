use Rattle.std.proofs.lemmas.Result.{err_from_is_err_and}
use Rattle.dm_pbm_io.specs.Header.HasNoByte.{ended, failed}
use Rattle.dm_pbm_io.proofs.Streaming.{takes-nil, until-end}
use Rattle.dm_pbm_io.proofs.source.next_byte.Goals as goal

pub returns-in_err-byte : goal.returns-in_err-byte
returns-in_err-byte g c =
    let p = err_from_is_err_and c.from_residual.result c.from_residual.ensures.1 in
    let e = c.in_err-byte.ensures in
    rw (p.1, p.2, e.0) (rw e.0 at e.1, failed)

pub returns-in-None : goal.returns-in-None
returns-in-None g c =
    let end = rw c.in-None.is at c.in_ok-byte.ensures in
    (until-end _ _ _ _ _ (takes-nil _) end (λ e. cc), ended end.end)
