use Rattle.std.proofs.Common.{Result, Ok, Err, OnErr}
use Rattle.dm_corrector.proofs.symbol.correct_block.Goals as goal

on_any_err : {T E P : Type 0} (r : Result T E) → P → OnErr r P
on_any_err (Ok v) p = tt
on_any_err (Err e) p = p

pub returns-in_err-correct_completed-clause-none : goal.returns-in_err-correct_completed-clause-none
returns-in_err-correct_completed-clause-none c = on_any_err c.from_residual.result (λ w r.
    c.in_err-correct_completed.ensures.none w (rw (c.block_checks.ensures.value, c.gather.ensures) r))

pub returns-clause-near : goal.returns-clause-near
returns-clause-near c =
    rw (c.block_checks.ensures.value, c.gather.ensures, c.scatter.ensures.own) at c.in_ok-correct_completed.ensures.near
