use Rattle.std.proofs.Common.{◌≡◌, ◌+◌, ◌-◌, ◌<◌, ◌≤◌, refl, sym, ◌∙◌, ap, arith, length, length-take, length-drop, take, drop, ⊎_elim}
use Rattle.std.proofs.lemmas.Bool.{cases_lt}
use Rattle.std.specs.Int.Bits.{bit_xor, xor_self}
use Rattle.dm_gf256.specs.Field.{product, power, value}
use Rattle.dm_gf256.proofs.{Ring.product-zero_l, Ring.product-zero_r, Divide.length-add_scaled}
use Rattle.dm_check_blocks.proofs.Generators.{first_zeros, next_size, next_first, next_generator, next_zeros}
use Rattle.dm_check_blocks.proofs.generator.coefficients_of.Goals as goal

pub loop-k-init : goal.loop-k-init
loop-k-init c = record {
  size = refl;
  first = refl;
  zeros = λ j h. first_zeros 68 j h;
  roots = λ j p q. absurd (omega arith);
}

pub loop-k-preserved : goal.loop-k-preserved
loop-k-preserved c =
    let k = c.loop-k.k in
    let arr = c.loop-k.coefficients in
    let root = c.alpha-root.result.0 in
    let size : length arr ≡ 69 = c.loop-k.invariant.size in
    let below : k < 68 = omega arith in
    let long : length c.add_multiple.new.target ≡ k + 1 =
    ap length c.add_multiple.ensures ∙ length-add_scaled root _ _ ∙
    (let q : length (take (k + 2 - 1) (drop 1 arr)) ≡ k + 1 = simp (length-take, length-drop) (omega arith) in q) in
    record {
      size = next_size arr c.add_multiple.new.target k size below long;
      first = next_first arr c.add_multiple.new.target k (omega arith) ∙ c.loop-k.invariant.first;
      zeros = λ j h. next_zeros arr c.add_multiple.new.target k size below long c.loop-k.invariant.zeros j h;
      roots = λ j p q.
          next_generator arr c.add_multiple.new.target k root size below c.loop-k.invariant.zeros c.add_multiple.ensures
          (power 2 j)
          ∙ ⊎_elim (λ (l : j < k + 1). ap (product (bit_xor (power 2 j) root))
          (c.loop-k.invariant.roots j p (omega arith)) ∙ product-zero_r _)
          (λ (l : k + 1 ≤ j).
          let e : j ≡ k + 1 = omega arith in
          ap (λ t. product (bit_xor t root) (value (take (k + 1) arr) (power 2 j))) (ap (power 2) e ∙
          sym c.alpha-root.ensures)
          ∙ ap (λ t. product t (value (take (k + 1) arr) (power 2 j))) (xor_self root) ∙ product-zero_l _)
          (cases_lt j (k + 1));
    }
