use Rattle.std.proofs.Common.{inl, inr, refl}
use Rattle.relay_desk_commands.proofs.documents.refuse_not_held.Goals as goal

pub returns-in-Ok : goal.returns-in-Ok
returns-in-Ok g c =
    rw (c.end.ensures.status, c.end.ensures.store, c.end.ensures.set, c.in-Ok.ensures.0, c.in-Ok.ensures.1)
    (inl (refl, refl, rw c.name.ensures at c.refuse.ensures, c.in-Ok.ensures.2))

pub returns-in-Err : goal.returns-in-Err
returns-in-Err g c =
    inr (
      c.in-Err.unopened.name.now,
      c.refuse-in-Err.ensures.told,
      λ before capacity opens.
          rw (c.refuse-in-Err.ensures.store, c.refuse-in-Err.ensures.set) (c.in-Err.ensures before capacity opens),
    )
