use Rattle.std.proofs.Common.{inl, inr, ⊎_elim, refl}
use Rattle.relay_desk_commands.specs.Desks.EndsOnId.{no_id, of_id}
use Rattle.relay_desk_commands.proofs.held_long.held_long_command.Goals as goal

pub returns-in_default-clause-ends : goal.returns-in_default-clause-ends
returns-in_default-clause-ends g c = rw c.in_default.is c.held_long_of.ensures.ends

pub returns-in_default-clause-settled : goal.returns-in_default-clause-settled
returns-in_default-clause-settled g c = rw c.in_default.is c.held_long_of.ensures.settled

pub returns-in-Some-id_of-clause-ends : goal.returns-in-Some-id_of-clause-ends
returns-in-Some-id_of-clause-ends g c =
    rw c.in-Some.is (of_id c.in-Some-id_of.id c.in-Some-id_of.ensures c.held_long_of-in-Some-id_of.ensures.ends)

pub returns-in-Some-id_of-clause-settled : goal.returns-in-Some-id_of-clause-settled
returns-in-Some-id_of-clause-settled g c = ⊎_elim (λ settled. inl settled)
    (λ none. inr (rw c.in-Some.is (of_id c.in-Some-id_of.id c.in-Some-id_of.ensures none)))
    c.held_long_of-in-Some-id_of.ensures.settled

pub returns-in-None-clause-ends : goal.returns-in-None-clause-ends
returns-in-None-clause-ends g c = rw (c.in-Some.is, ← c.streams.view_is)
    (no_id c.in-None.ensures refl (rw c.name.ensures at c.refuse-status.ensures, refl))

pub returns-in-None-clause-settled : goal.returns-in-None-clause-settled
returns-in-None-clause-settled g c = inr (rw (c.in-Some.is, ← c.streams.view_is)
    (no_id c.in-None.ensures refl (rw c.name.ensures at c.refuse-status.ensures, refl)))
