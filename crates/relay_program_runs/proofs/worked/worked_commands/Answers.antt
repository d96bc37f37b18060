use Rattle.std.proofs.Common.{◌≤◌, ◌<◌, refl, sym, subst, ◌∙◌, ℕ, List, length, arith}
use Rattle.relay_program_runs.specs.Worked.{EndWell}
use Rattle.relay_runs.proofs.TicketTexts.{ten_text}
use Rattle.relay_program_runs.proofs.{Steps.done_so, Steps.store_so, WorkedCommands.worked}
use Rattle.relay_program_runs.proofs.worked.worked_commands.Goals as goal

pub returns-then-end_well : goal.returns-then-end_well
returns-then-end_well g c =
    let well : EndWell _ _ _ _ _ _ = c.end_well.ensures c.if-end_well.true in
    let st = well.statuses_are in
    worked
    (done_so c.nothing.ensures refl (st 0 0 (omega arith)) c.done-one.ensures)
    (done_so c.nothing-2.ensures refl (st 1 0 (omega arith)) c.done-two.ensures)
    (done_so refl refl (st 2 0 (omega arith)) c.done-three.ensures)
    (done_so refl refl (st 3 0 (omega arith)) c.done-four.ensures)
    (done_so refl refl (st 4 0 (omega arith)) c.done-five.ensures)
    (done_so (store_so (c.stopping-stopped.ensures ∙ c.into_inner.ensures))
    refl refl c.done-six.ensures)
    (done_so (store_so (c.stopping-again.ensures ∙ c.into_inner-2.ensures))
    refl well.lost.0 c.done_within-seven.ensures)
    (done_so c.nothing-3.ensures c.deref.ensures.value (st 5 0 (omega arith)) c.done-eight.ensures)
    (done_so refl refl (st 6 0 (omega arith)) c.done-nine.ensures)
    (done_so refl refl (st 7 0 (omega arith)) c.done-ten.ensures)
    (done_so refl refl (st 8 0 (omega arith)) c.done-eleven.ensures)
    (done_so c.nothing-4.ensures c.deref-2.ensures.value (st 9 0 (omega arith)) c.done-twelve.ensures)
    (done_so refl c.deref-3.ensures.value (st 10 0 (omega arith)) c.done-thirteen.ensures)
    (done_so refl refl (st 11 0 (omega arith)) c.done-fourteen.ensures)
    refl refl refl refl refl refl refl refl refl refl refl refl refl refl ten_text
    (subst (λ (xs : List ℕ). 0 < length xs) c.as_slice.ensures.value well.lost.1)
    (subst (λ (xs : List ℕ). length xs ≤ 1000) c.deref-4.ensures.value well.short)
    (sym c.deref-5.ensures.value ∙ well.documents.0)
    (sym c.deref-6.ensures.value ∙ well.documents.1)
