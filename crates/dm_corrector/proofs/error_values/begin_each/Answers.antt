use Rattle.std.proofs.Common.{◌<◌, ◌≢◌, ◌∙◌, arith, below_more, get_or-set_other, get_or-set_same, length, refl}
use Rattle.dm_corrector.proofs.Dividing.{divided_first}
use Rattle.dm_corrector.proofs.error_values.begin_each.Goals as goal

pub loop-k-preserved : goal.loop-k-preserved
loop-k-preserved c = λ p s j h.
    below_more _ _
    (λ k l d. let other : k ≢ c.loop-k.k = omega arith in rw get_or-set_other (c.loop-k.invariant p s j h k l d))
    (λ d. let within : c.loop-k.k < length c.loop-k.divisions = omega (arith, c.requires) in
    rw get_or-set_same (divided_first p s j _ _ h c.alpha.ensures refl refl refl))

pub returns : goal.returns
returns c = λ p s j h. record {
  count = c.loop-k.auto.divisions ∙ c.requires;
  each = λ k d l. c.loop-k.invariant p s j h k (omega arith) d;
}
