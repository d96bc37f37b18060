use Rattle.std.proofs.Common.{inl, inr, refl}
use Rattle.relay_desk_commands.specs.Desks.{EndsAtDesk.no_desk, EndsAtDesk.opened}
use Rattle.relay_desk_commands.proofs.held_long.held_long_of.Goals as goal

pub returns-in-Err-clause-ends : goal.returns-in-Err-clause-ends
returns-in-Err-clause-ends g c = rw (← c.streams.view_is) (no_desk c.in-Err.ensures.0 c.in-Err.ensures.1 (c.in-Err.ensures.2, refl))

pub returns-in-Err-clause-settled : goal.returns-in-Err-clause-settled
returns-in-Err-clause-settled g c =
    inr (rw (← c.streams.view_is) (no_desk c.in-Err.ensures.0 c.in-Err.ensures.1 (c.in-Err.ensures.2, refl)))

pub returns-clause-ends : goal.returns-clause-ends
returns-clause-ends g c =
    let opens = c.in-Ok.ensures in
    let closed = c.in-Ok-close.ensures in
    let told = rw opens.1 at (c.tell_long-status.ensures _ _ c.long_text-text.ensures) in
    rw (c.end.ensures.status, c.end.ensures.store, c.end.ensures.set, closed.0, closed.1, ← c.streams.view_is)
    (opened c.in-Ok.opened.desk opens.0 (told, refl, refl))

pub returns-clause-settled : goal.returns-clause-settled
returns-clause-settled g c = inl (rw c.end.ensures.set c.in-Ok-close.ensures.2)

pub returns-in-Err-close-clause-ends : goal.returns-in-Err-close-clause-ends
returns-in-Err-close-clause-ends g c =
    let opens = c.in-Ok.ensures in
    rw (c.refuse.ensures.store, c.refuse.ensures.set, ← c.streams.view_is)
    (no_desk _ (c.in-Err-close.ensures _ _ opens.0) (rw opens.1 at c.refuse.ensures.told, refl))

pub returns-in-Err-close-clause-settled : goal.returns-in-Err-close-clause-settled
returns-in-Err-close-clause-settled g c =
    let opens = c.in-Ok.ensures in
    inr (rw (c.refuse.ensures.store, c.refuse.ensures.set, ← c.streams.view_is)
    (no_desk _ (c.in-Err-close.ensures _ _ opens.0) (rw opens.1 at c.refuse.ensures.told, refl)))
