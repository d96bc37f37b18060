use Rattle.std.proofs.Common.{◌≡◌, ◌<◌, ◌-◌, ◌++◌, List, ℕ, refl, sym, ◌∙◌, ap, subst, arith, length, length-take, length-drop, take}
use Rattle.std.specs.List.{All}
use Rattle.std.proofs.lemmas.{Bool.Decides.Decides-eqb, List.take-append-drop, List.Elements.All-drop}
use Rattle.std.proofs.lemmas.Slice.Eq.{slice_eq-Decides}
use Rattle.dm_gf256.specs.Field.{power, value}
use Rattle.dm_corrector.proofs.WordsByPlace.{all_bytes}
use Rattle.dm_corrector.proofs.block.is_block_word.Goals as goal

pub returns : goal.returns
returns c =
    let block = c.args.block.now in
    let d = length block - c.args.checks in
    let message = c.split_at.result.0.now in
    let last = c.split_at.result.1.now in
    let wanted = c.checks_of.new.checks in
    let whole : message ++ last ≡ block =
    ap (λ t. t ++ last) c.split_at.ensures.front ∙ ap (λ t. take d block ++ t) c.split_at.ensures.back
    ∙ take-append-drop d block in
    let Bytes : List ℕ → Type 0 = λ l. All (λ x. x < 256) l in
    let bytes : Bytes last = subst Bytes (sym c.split_at.ensures.back) (All-drop (λ x. x < 256) d block
    (all_bytes block block refl (λ k. (c.type_inv.block k).fits))) in
    let long : length last ≡ c.args.checks = ap length c.split_at.ensures.back ∙ length-drop d block ∙ omega arith in
    let n : length wanted ≡ c.args.checks = c.checks_of.auto.checks ∙ simp length-take (omega arith) in
    let equal = slice_eq-Decides Decides-eqb wanted last c.eq.result c.eq.ensures in (
      (λ r k p q. ap (λ t. value t (power 2 k)) (sym whole ∙ ap (λ t. message ++ t) (sym (equal.0 r)))
          ∙ c.checks_of.ensures.completed k p (simp length-take (omega arith))),
      (λ b. equal.1 (sym (c.checks_of.ensures.only last (long ∙ sym (simp length-take (omega arith))) bytes
          (λ k p q. ap (λ t. value t (power 2 k)) whole ∙ b k p (omega (arith, n, c.checks_of.auto.checks)))))),
    )
