use Rattle.std.proofs.Common.{◌-◌}
use Rattle.dm_gf256.specs.Field.{numbers}
use Rattle.dm_corrector.specs.inner.Polynomials.{HaveDivided}
use Rattle.dm_corrector.proofs.error_values.divide_by_each.Given as goal

abbrev pub invariant-loop-done : goal.invariant-loop-done
invariant-loop-done l = HaveDivided l.polynomial (numbers l.syndromes) (l.degree - l.done) l.roots l.divisions
