use Rattle.std.proofs.Common.{◌≡◌, ◌+◌, ◌<◌, ◌≤◌, ◌∙◌, ⊎_elim, ap, arith, get_or, sym}
use Rattle.std.proofs.lemmas.Bool.{cases_lt}
use Rattle.std.specs.Int.Bits.{bit_xor, xor_zero_r}
use Rattle.dm_gf256.proofs.Ring.{product-zero_r}
use Rattle.dm_gf256.specs.Field.{product}
use Rattle.dm_corrector.proofs.error_values.add_root.Goals as goal

pub returns-clause-others : goal.returns-clause-others
returns-clause-others c = λ k l.
    let old = c.args.polynomial.now in
    let r = c.args.root in
    ⊎_elim (λ (h : k + 1 < c.loop-k.k). c.loop-k.invariant.done k h)
    (λ (h : c.loop-k.k ≤ k + 1).
    let here : get_or old k 0 ≡ 0 = c.requires.zeros k (omega arith) in
    let next : get_or old (k + 1) 0 ≡ 0 = c.requires.zeros (k + 1) (omega arith) in
    c.loop-k.invariant.rest (k + 1) h ∙ next
    ∙ sym (ap (λ t. bit_xor t (product r (get_or old (k + 1) 0))) here ∙ ap (λ t. bit_xor 0 (product r t)) next
    ∙ ap (bit_xor 0) (product-zero_r r) ∙ xor_zero_r 0))
    (cases_lt (k + 1) c.loop-k.k)
