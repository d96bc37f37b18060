use Rattle.std.proofs.Common.{ℕ, List, Result, Ok, Err}
use Rattle.relay_command.specs.declared.command.Command.{Command}
use Rattle.relay_shared.specs.Command.{FileView}
use Rattle.relay.specs.Program.{DoesAt, DoesOrFindsNothing, OrNothing, SystemView, finds, finds_nothing}
use Rattle.relay.proofs.system.System.do_found.Goals as goal

-- what was done was found
found_so : {E : Type 0} (A : Type 0) (command : Command) (inputs : List FileView) (May : Type 0) (old new : SystemView)
    (ended : Result ℕ E) → OrNothing (DoesAt A command inputs) May old ended new →
    OrNothing (DoesOrFindsNothing A command inputs) May old ended new
found_so A command inputs May old new (Ok status) does = finds does
found_so A command inputs May old new (Err fault) none = none

pub returns-then-not-finds_nothing : goal.returns-then-not-finds_nothing
returns-then-not-finds_nothing g c = found_so _ _ _ _ _ _ c.do_here-ended.result.0 c.do_here-ended.ensures.does

pub returns-then-not-is_held : goal.returns-then-not-is_held
returns-then-not-is_held g c = found_so _ _ _ _ _ _ c.do_here-ended.result.0 c.do_here-ended.ensures.does

pub returns-in_default : goal.returns-in_default
returns-in_default g c = rw c.in_default.is at c.do_here-ended.ensures.does

pub returns-then-status-ne0 : goal.returns-then-status-ne0
returns-then-status-ne0 g c = finds (rw c.in-Ok.is at c.do_here-ended.ensures.does)

pub returns : goal.returns
returns g c =
    let does = rw (c.in-Ok.is, c.if-status-ne0.false) at c.do_here-ended.ensures.does in
    finds_nothing _ (rw c.is_held.ensures at c.if-not-is_held.false) does (c.do_here-ended.ensures.absent c.if-not-finds_nothing.false) c.refuse-status.ensures.places
    (rw c.refuses_on_errors.ensures at c.refuse-status.ensures.told)
