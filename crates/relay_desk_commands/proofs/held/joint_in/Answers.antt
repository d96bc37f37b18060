use Rattle.std.proofs.Common.{Some, ap, ◌∙◌}
use Rattle.std.proofs.lemmas.Result.{err_from_is_err_and}
use Rattle.relay_desk_commands.proofs.LoadedJoint.{none_there, unsound_there, whole_of}
use Rattle.relay_desk_commands.proofs.held.joint_in.Goals as goal

pub returns-in_ok-read-in-Some : goal.returns-in_ok-read-in-Some
returns-in_ok-read-in-Some g c = λ saved after loads honest.
    let there = whole_of saved.content (ap (λ bytes. Some bytes) c.deref.ensures.value
    ∙ (rw (c.in-Ok.is, c.in-Some.is) at (loads.saved honest))) in
    rw there.1 (c.in_ok-read-in-Some.ensures.found_whole there.0 there.2)

pub returns-in_err-read-in-Some : goal.returns-in_err-read-in-Some
returns-in_err-read-in-Some g c = λ saved after loads.
    let last = err_from_is_err_and c.from_residual.result c.from_residual.ensures.1 in
    let found = c.in_err-read-in-Some.ensures in
    rw (last.1, last.2) (unsound_there _ found.fault found.fault_whole saved
    (λ honest. ap (λ bytes. Some bytes) c.deref.ensures.value
    ∙ (rw (c.in-Ok.is, c.in-Some.is) at (loads.saved honest))))

pub returns-in-None : goal.returns-in-None
returns-in-None g c = λ saved after loads honest.
    none_there saved.content (rw (c.in-Ok.is, c.in-None.is) at (loads.saved honest))
