use Rattle.std.proofs.Common.{ℕ, ◌≡◌, ◌+◌, ◌-◌}
use Rattle.dm_placement.proofs.WalkedWords.{Stands, Start, Up, Down}
use Rattle.dm_placement.proofs.walk.walk.Given as goal

-- the taker has taken the codewords that the walk has come to
abbrev pub invariant-sweeps : goal.invariant-sweeps
invariant-sweeps g l = (k : ℕ) × Stands l.side (Start l.row l.column) k × g.T.Taker.has_taken l.fn.taker l.taker l.fn.size k

abbrev pub decreases-sweeps : goal.decreases-sweeps
decreases-sweeps g l = 300 - (l.row + l.column)

abbrev pub invariant-up : goal.invariant-up
invariant-up g l = (k : ℕ) × Stands l.side (Up l.row l.column) k × g.T.Taker.has_taken l.fn.taker l.taker l.fn.size k
    × (l.row + l.column ≡ l.initial.row + l.initial.column)

abbrev pub decreases-up : goal.decreases-up
decreases-up g l = l.row

abbrev pub invariant-down : goal.invariant-down
invariant-down g l = (k : ℕ) × Stands l.side (Down l.row l.column) k × g.T.Taker.has_taken l.fn.taker l.taker l.fn.size k
    × (l.row + l.column ≡ l.initial.row + l.initial.column)

abbrev pub decreases-down : goal.decreases-down
decreases-down g l = l.column
