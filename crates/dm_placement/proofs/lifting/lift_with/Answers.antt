use Rattle.std.proofs.Common.{◌≡◌, List, arith, subst, ℕ, ◌∙◌}
use Rattle.std.proofs.lemmas.Grind.{common_steps}
use Rattle.std.specs.Result.{IfOk}
use Rattle.dm_placement.proofs.TakenPlaces.{read_all, read_count}
use Rattle.dm_placement.proofs.lifting.lift_with.Goals as goal

pub returns-clause-lifted : goal.returns-clause-lifted
returns-clause-lifted g c =
    let h = c.hand_over.ensures in
    let all = read_all c.args.layout.now c.args.matrix.now _ _ (h.1 ∙ c.modules.ensures.modules) c.requires.same_side h.0 in
    subst (λ (l : List ℕ). IfOk c.from_slice.result (λ v. v.items ≡ l)) (c.as_slice.ensures.value ∙ all)
    c.from_slice.ensures.items

pub returns-clause-count : goal.returns-clause-count
returns-clause-count g c =
    let count = read_count c.args.layout.now _ _ _ c.hand_over.ensures.0 in grind (arith, common_steps)
