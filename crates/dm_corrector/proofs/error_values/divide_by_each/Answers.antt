use Rattle.std.proofs.Common.{◌≡◌, ◌+◌, ◌-◌, ◌∙◌, ℕ, ap, arith, get_or, length, subst, sym}
use Rattle.std.proofs.lemmas.List.{get_or-map}
use Rattle.dm_gf256.specs.Field.{numbers}
use Rattle.dm_corrector.specs.{inner.Polynomials.HaveDivided}
use Rattle.dm_corrector.proofs.error_values.divide_by_each.Goals as goal

pub loop-done-init : goal.loop-done-init
loop-done-init c = c.begin_each.ensures _ _ _ (omega arith)

pub loop-done-preserved : goal.loop-done-preserved
loop-done-preserved c =
    let p = c.args.polynomial.now in
    let s = c.args.syndromes.now in
    let i = c.loop-done.done in
    let j = length p - 1 - (i + 1) in
    let here : length p - 1 - 1 - i ≡ j = omega arith in
    let before : length p - 1 - i ≡ j + 1 = omega arith in
    let divided = subst (λ (m : ℕ). HaveDivided p (numbers s) m c.args.roots.now c.loop-done.divisions) before
    c.loop-done.invariant in
    let count = divided.count in
    let syndrome = ap (λ m. get_or (numbers s) m 0) (sym here)
    ∙ get_or-map (λ g. g.0) s (length p - 1 - 1 - i) (record { 0 = 0 }) 0 (omega (arith, c.requires.given)) in
    record {
      count = c.take_in_each.auto.divisions ∙ count;
      each = λ k d few. (c.take_in_each.ensures k d (omega arith)).goes_on p (numbers s) j _ (omega arith)
          (ap (λ m. get_or p (m + 1) 0) (sym here)) syndrome (divided.each k d few);
    }
