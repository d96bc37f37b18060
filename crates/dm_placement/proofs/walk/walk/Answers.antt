use Rattle.std.proofs.Common.{add-zero, arith, refl, subst, ℕ}
use Rattle.dm_placement.proofs.WalkedWords.{begun, fallen, returned, risen, stands_first, stands_last, turned}
use Rattle.dm_placement.proofs.walk.walk.Goals as goal

pub sweeps-init : goal.sweeps-init
sweeps-init g c = (0, stands_first c.args.size _ c.mapping-side.ensures.value, c.requires)

pub take_shape-requires-clause-comes : goal.take_shape-requires-clause-comes
take_shape-requires-clause-comes g c =
    let i = c.sweeps.invariant in
    let b = begun _ _ _ _ _ i.1 (grind arith) c.corner_at.ensures in
    (c.args.taker.now, c.args.size, i.0, c.mapping-side.ensures.value, i.2, b.0)

pub up-init : goal.up-init
up-init g c =
    let i = c.sweeps.invariant in
    let b = begun _ _ _ _ _ i.1 (grind arith) c.corner_at.ensures in
    (_, b.1, c.take_shape.ensures _ c.args.size i.0 c.mapping-side.ensures.value i.2 b.0, refl)

pub take_word-requires-clause-comes : goal.take_word-requires-clause-comes
take_word-requires-clause-comes g c =
    let i = c.up.invariant in
    let b = risen _ _ _ _ i.1 c.up-test.true c.if-column-side-2.true in
    (c.args.taker.now, c.args.size, i.0, c.mapping-side.ensures.value, i.2, b.0)

pub up-preserved : goal.up-preserved
up-preserved g c =
    let i = c.up.invariant in
    let b = risen _ _ _ _ i.1 c.up-test.true c.if-column-side-2.true in
    (_, b.1, c.take_word.ensures _ c.args.size i.0 c.mapping-side.ensures.value i.2 b.0, omega arith)

pub down-init : goal.down-init
down-init g c =
    let i = c.up.invariant in
    (_, turned _ _ _ _ i.1 (grind arith), rw add-zero i.2, refl)

pub take_word-requires-in-down-clause-comes : goal.take_word-requires-in-down-clause-comes
take_word-requires-in-down-clause-comes g c =
    let i = c.down.invariant in
    let b = fallen _ _ _ _ i.1 c.down-test.true c.if-column-ge-MARGIN.true in
    (c.args.taker.now, c.args.size, i.0, c.mapping-side.ensures.value, i.2, b.0)

pub down-preserved : goal.down-preserved
down-preserved g c =
    let i = c.down.invariant in
    let b = fallen _ _ _ _ i.1 c.down-test.true c.if-column-ge-MARGIN.true in
    (_, b.1, c.take_word-in-down.ensures _ c.args.size i.0 c.mapping-side.ensures.value i.2 b.0, omega arith)

pub sweeps-preserved : goal.sweeps-preserved
sweeps-preserved g c =
    let i = c.down.invariant in
    (_, returned _ _ _ _ i.1 (grind arith), rw add-zero i.2)

pub returns : goal.returns
returns g c =
    let i = c.sweeps.invariant in
    let all = stands_last c.args.size _ _ _ _ c.mapping-side.ensures.value i.1 c.if-row-side.false c.if-column-side.false in
    subst (λ (k : ℕ). g.T.Taker.has_taken c.args.taker.now c.sweeps.taker c.args.size k) all i.2
