use Rattle.dm_placement.proofs.layout.Layout.hand_over.Given as goal

abbrev pub invariant-loop-places : goal.invariant-loop-places
invariant-loop-places g l = g.T.Taker.has_taken l.fn.taker l.taker l.fn.self l.places-index
