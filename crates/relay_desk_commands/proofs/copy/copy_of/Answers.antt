use Rattle.std.proofs.Common.{refl, sym}
use Rattle.relay_desk_commands.specs.Desks.HasNoCopy.{not_held, incomplete, too_long, no_memory}
use Rattle.relay_desk_commands.proofs.CopiedPages.{lent_page}
use Rattle.relay_desk_commands.proofs.copy.copy_of.Goals as goal

pub returns-in_default-clause-given : goal.returns-in_default-clause-given
returns-in_default-clause-given g c = not_held (sym c.in_default.ensures.held)

pub returns-in_default-held_page-clause-given : goal.returns-in_default-held_page-clause-given
returns-in_default-held_page-clause-given g c =
    incomplete (rw (← c.in-Some.ensures.held) refl)
    (lent_page _ _ _ c.in-Some.ensures.held c.in_default-held_page.ensures)

pub returns-then-not-has_room-clause-given : goal.returns-then-not-has_room-clause-given
returns-then-not-has_room-clause-given g c =
    too_long (rw (lent_page _ _ c.args.m c.in-Some.ensures.held c.in-Some-held_page.ensures)
    (c.has_room.ensures.none c.if-not-has_room.true))

pub returns-in-Err-clause-given : goal.returns-in-Err-clause-given
returns-in-Err-clause-given g c =
    no_memory (rw (lent_page _ _ c.args.m c.in-Some.ensures.held c.in-Some-held_page.ensures)
    (c.has_room.ensures.room c.if-not-has_room.false))
