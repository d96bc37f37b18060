use Rattle.std.proofs.Common.{◌*◌, ◌∙◌, sym, arith, length-take}
use Rattle.std.proofs.lemmas.List.{get_or-replicate, get_or-take, length-replicate}
use Rattle.dm_gf256.specs.Field.{value}
use Rattle.dm_corrector.proofs.values.values_from.Goals as goal

pub loop-coefficient-init : goal.loop-coefficient-init
unfolding value
loop-coefficient-init c = record {
  room = sym c.powers-powers.ensures.count;
  values = λ k l.
      (let m = simp (length-take, length-replicate) at l in
      get_or-take (c.div_ceil.result * 16) _ k 0 (omega arith) ∙ get_or-replicate 256 k 0 0 (omega arith));
}
