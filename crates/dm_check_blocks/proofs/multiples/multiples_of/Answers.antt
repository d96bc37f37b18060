use Rattle.std.proofs.Common.{◌≡◌, ℕ, refl, sym, ◌∙◌, ap, arith, length, length-set, get_or, get_or-set_other, get_or-set_same}
use Rattle.std.proofs.lemmas.{Bool.cases_eq, List.ext_get_or, List.length-replicate}
use Rattle.dm_gf256.specs.Field.{product}
use Rattle.dm_gf256.proofs.Ring.{one-product, product-zero_l}
use Rattle.dm_check_blocks.specs.inner.Remainders.{row_at}
use Rattle.dm_check_blocks.proofs.DivisionSteps.{blank_row, zeros_at, even_multiple, odd_multiple}
use Rattle.dm_check_blocks.proofs.multiples.multiples_of.Goals as goal

pub loop-factor-init : goal.loop-factor-init
loop-factor-init g c = record {
  count = refl;
  size = λ f h. ap length (blank_row g.row.ROW f h) ∙ length-replicate g.row.ROW 0;
  done =
      λ f k h l.
      let zero_f : 0 ≡ f = omega arith in
      ap (λ w. get_or w k 0) (blank_row g.row.ROW f (omega arith)) ∙ zeros_at g.row.ROW k ∙
      sym (product-zero_l (get_or c.args.row.now k 0)) ∙ ap (λ t. product t (get_or c.args.row.now k 0)) zero_f;
}

pub loop-factor-preserved : goal.loop-factor-preserved
loop-factor-preserved g c =
    let byte = λ (k : ℕ). (c.type_inv.row k).fits in
    grind (arith, byte, cases_eq, even_multiple, get_or-set_other, get_or-set_same, length-set, odd_multiple)

pub returns-clause-itself : goal.returns-clause-itself
returns-clause-itself g c =
    let rows = c.loop-factor.rows in
    ext_get_or 0 (row_at rows 1) c.args.row.now (c.loop-factor.invariant.size 1 (omega arith) ∙ sym c.requires.1)
    (λ i h. c.loop-factor.invariant.done 1 i (omega arith) (omega (arith, c.loop-factor.invariant.size 1)) ∙
    one-product (get_or c.args.row.now i 0) (c.type_inv.row i).fits)
