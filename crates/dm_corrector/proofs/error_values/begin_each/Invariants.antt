use Rattle.std.proofs.Common.{◌≡◌, ◌<◌, ◌+◌, ℕ, List, get_or, length}
use Rattle.dm_corrector.specs.{declared.error_values.Division.Division, inner.Polynomials.HasDivided}
use Rattle.dm_corrector.proofs.error_values.begin_each.Given as goal

abbrev pub invariant-loop-k : goal.invariant-loop-k
invariant-loop-k l = (p s : List ℕ) (j : ℕ) → j + 1 ≡ length p → (k : ℕ) → k < l.k → (d : Division)
    → HasDivided p s j (get_or l.roots k 0) (get_or l.divisions k d)
