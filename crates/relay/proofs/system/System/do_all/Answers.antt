use Rattle.std.proofs.Common.{refl}
use Rattle.relay.specs.Program.{forgets_each, forgets_none}
use Rattle.relay.proofs.system.System.do_all.Goals as goal

pub returns-in_default : goal.returns-in_default
returns-in_default g c = (tt, rw c.in_default.is at c.give_all_of-ended.ensures)

pub returns-then-not-all : goal.returns-then-not-all
returns-then-not-all g c = rw c.if-not-all.true (rw c.in-Ok.is at c.give_all_of-ended.ensures).0

pub returns-then-status-ne0 : goal.returns-then-status-ne0
returns-then-status-ne0 g c =
    rw c.if-not-all.false (forgets_none c.if-status-ne0.true (rw c.in-Ok.is at c.give_all_of-ended.ensures).0)

pub returns : goal.returns
returns g c =
    let gives = rw (c.in-Ok.is, c.if-status-ne0.false) at c.give_all_of-ended.ensures in
    rw c.if-not-all.false
    (forgets_each _ gives.0 (rw (c.as_slice.ensures.value, gives.1 refl) at c.forget_each-status.ensures))
