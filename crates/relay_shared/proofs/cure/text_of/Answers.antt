use Rattle.std.proofs.Common.{arith, string_bytes, ◌≡◌, ◌++◌, [], cond, refl}
use Rattle.std.specs.{Prelude.codes, Fmt.decimal}
use Rattle.std.proofs.lemmas.Result.{IfOk-weaker}
use Rattle.relay_shared.proofs.ChangedImages.{reads_text, text_at, text_is}
use Rattle.relay_shared.proofs.cure.text_of.Goals as goal
use Rattle.relay_shared.proofs.cure.text_of.Goals.{then-cure, else-cure, then-cure-2, else-cure-2}

pub returns-then-scale-eq1 : goal.returns-then-scale-eq1
returns-then-scale-eq1 g c =
    let cure = c.args.cure in
    let i : c.if-cure.inverted.now ≡ cond cure.inverted (codes "inverted, ") [] = elim c.if-cure.branch [
      | then-cure w ↦ grind arith
      | else-cure w ↦ grind arith
    ] in
    let m : c.if-cure-2.mirrored.now ≡ cond cure.mirrored (codes "mirrored, ") [] = elim c.if-cure-2.branch [
      | then-cure-2 w ↦ grind arith
      | else-cure-2 w ↦ grind arith
    ] in
    let turned = text_at cure.turns _ _ _ _ _ c.requires in
    let last : codes "it reads" ≡ reads_text c.args.cure.scale = rw c.if-scale-eq1.true refl in
    IfOk-weaker c.format.result _ _
    (λ s. text_is cure _ _ _ (codes "it reads") (string_bytes s) i m turned last)
    c.format.ensures.ok

pub returns : goal.returns
returns g c =
    let cure = c.args.cure in
    let i : c.if-cure.inverted.now ≡ cond cure.inverted (codes "inverted, ") [] = elim c.if-cure.branch [
      | then-cure w ↦ grind arith
      | else-cure w ↦ grind arith
    ] in
    let m : c.if-cure-2.mirrored.now ≡ cond cure.mirrored (codes "mirrored, ") [] = elim c.if-cure-2.branch [
      | then-cure-2 w ↦ grind arith
      | else-cure-2 w ↦ grind arith
    ] in
    let reduced = codes "reduced " ++ (decimal cure.scale ++ codes " times, it reads") in
    let turned = text_at cure.turns _ _ _ _ _ c.requires in
    let last : reduced ≡ reads_text cure.scale = grind arith in
    IfOk-weaker c.format-2.result _ _ (λ s. text_is cure _ _ _ reduced (string_bytes s) i m turned last)
    c.format-2.ensures.ok
