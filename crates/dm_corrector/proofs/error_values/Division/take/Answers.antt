use Rattle.std.proofs.Common.{◌≡◌, ◌+◌, arith, drop}
use Rattle.dm_gf256.specs.Field.{power}
use Rattle.dm_corrector.proofs.Dividing.{next_coefficient, next_quotient_sum, next_quotient_value}
use Rattle.dm_corrector.specs.inner.Polynomials.{at_low}
use Rattle.dm_corrector.proofs.error_values.Division.take.Goals as goal

pub returns : goal.returns
returns c = record {
  goes_on = λ p s j e more coefficient syndrome d.
      let x = power 2 e in
      let at : c.add-self.result.0 ≡ at_low (drop (j + 1) p) x =
      next_coefficient x p (j + 1) (j + 1 + 1) c.args.self.now.coefficient.0 _ (omega arith) more d.coefficient
      (cc (c.add-self.ensures, c.mul.ensures, d.root, coefficient)) in
      record {
        root = d.root;
        coefficient = at;
        sum = next_quotient_sum x p s j (j + 1) _ c.args.self.now.sum.0 _ (omega arith) more at d.sum
            (cc (c.add-self-2.ensures, c.mul-2.ensures, syndrome));
        factor = next_quotient_value x p j (j + 1) _ c.args.self.now.factor.0 _ (omega arith) more at d.factor
            (cc (c.add-self-3.ensures, c.mul-3.ensures, d.root));
      };
}
