use Rattle.std.proofs.Common.{◌≡◌, ◌<◌, ◌≤◌, ℕ, get_or}
use Rattle.dm_corrector.specs.{declared.error_values.Division.Division, inner.Polynomials.Takes}
use Rattle.dm_corrector.proofs.error_values.take_in_each.Given as goal

abbrev pub invariant-loop-division : goal.invariant-loop-division
invariant-loop-division l = record {
  done : (k : ℕ) (d : Division) → k < l.division-index →
      Takes l.coefficient.0 l.syndrome.0 (get_or l.fn.divisions k d) (get_or l.divisions k d);
  rest : (k : ℕ) (d : Division) → l.division-index ≤ k → get_or l.divisions k d ≡ get_or l.fn.divisions k d;
}
