use Rattle.std.proofs.{lemmas.List.drop_all, Math.Nat.max-zero, Math.Nat.zero-max}
use Rattle.relay.specs.Program.{forgets_next, none_left, system_at}
use Rattle.relay.proofs.AllDocuments.{max_again, texts_from-next}
use Rattle.relay.proofs.system.System.forget_each.Goals as goal

pub loop-given-init : goal.loop-given-init
loop-given-init g c = λ others new each. rw (zero-max others) each

pub loop-given-preserved : goal.loop-given-preserved
loop-given-preserved g c = λ others new later.
    rw (c.greater.ensures, max_again) (c.loop-given.invariant _ new
    (rw (texts_from-next c.args.documents.now c.loop-given.given-index c.given-item.result
    c.loop-given-test.true c.given-item.is) (forgets_next c.forget_one-one.ensures later)))

pub returns : goal.returns
returns g c = rw (max-zero c.loop-given.status) at (c.loop-given.invariant 0
    (system_at c.loop-given.system.standard (g.P.Places.state c.loop-given.system.places))
    (rw (drop_all c.loop-given.given-index c.args.documents.now c.loop-given-test.false) none_left))
