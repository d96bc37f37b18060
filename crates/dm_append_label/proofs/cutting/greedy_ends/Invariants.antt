use Rattle.std.specs.Prelude.{◌-◌, ◌≤◌, length}
use Rattle.dm_append_label.proofs.CutsSoFar.{CutSoFar}
use Rattle.dm_append_label.proofs.cutting.greedy_ends.Given as goal

abbrev pub invariant-loop-from : goal.invariant-loop-from
invariant-loop-from l = CutSoFar l.scheme (l.words - 4) l.document l.from l.ends.items × (l.from ≤ length l.document) ×
    (length l.ends.items ≤ 16)

abbrev pub decreases-loop-from : goal.decreases-loop-from
decreases-loop-from l = length l.document - l.from
