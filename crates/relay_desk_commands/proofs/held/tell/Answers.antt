use Rattle.std.proofs.Common.{refl}
use Rattle.relay_shared.proofs.Telling.{told, told_else}
use Rattle.relay_desk_commands.specs.inner.Gathered.GathersHeld.{whole}
use Rattle.relay_desk_commands.specs.Desks.{Says.is_held, Says.joint_unsound, Says.not_held, Says.unsound}
use Rattle.relay_desk_commands.proofs.held.tell.Goals as goal

pub returns-in-Ok-Some-clause-tells : goal.returns-in-Ok-Some-clause-tells
returns-in-Ok-Some-clause-tells g c =
    let sees = c.in-Ok-Some.ensures.sees c.args.joint.now c.first_from-first.ensures.first in
    let says = is_held c.in-Ok-Some.held (rw c.in-Ok-Some.field-0-is at sees) in
    rw (c.in-Some.is, ← c.number-number.ensures.same) (whole _ _ says (told _ c.put_held.ensures c.status_after.ensures))

pub returns-in-Ok-clause-tells : goal.returns-in-Ok-clause-tells
returns-in-Ok-clause-tells g c =
    let sees = c.in-Ok-None.ensures.sees c.args.joint.now c.first_from-first.ensures.first in
    let none = rw c.in-Ok-None.field-0-is at sees in
    rw (c.in-Some.is, ← c.number-number.ensures.same)
    (whole _ _ (not_held (rw c.in-Ok.is refl) none) (rw c.name.ensures at c.refuse.ensures))

pub returns-in-Err-joint-clause-tells : goal.returns-in-Err-joint-clause-tells
returns-in-Err-joint-clause-tells g c =
    let sees = c.in-Ok-None.ensures.sees c.args.joint.now c.first_from-first.ensures.first in
    let says = joint_unsound c.in-Err-joint.fault c.in-Err-joint.is (rw c.in-Ok-None.field-0-is at sees) in
    let put = rw c.name-in-Err-joint.ensures at c.put_unsound_joint.ensures in
    rw (c.in-Some.is, ← c.number-number.ensures.same) (whole _ _ says (told_else _ put))

pub returns-in-Err-clause-tells : goal.returns-in-Err-clause-tells
returns-in-Err-clause-tells g c =
    let says = unsound c.in-Err.fault (c.in-Err.ensures.sees c.args.joint.now c.first_from-first.ensures.first) in
    let put = rw c.name-in-Err.ensures at c.put_unsound.ensures in
    rw (c.in-Some.is, ← c.number-number.ensures.same) (whole _ _ says (told_else _ put))
