use Rattle.std.proofs.Common.{◌≡◌, ◌∙◌, ℕ, List, arith, length, length-take, replicate, take}
use Rattle.std.proofs.lemmas.List.{length-replicate}
use Rattle.dm_check_blocks.proofs.DivisionSteps.{zeros_after}
use Rattle.dm_check_blocks.proofs.multiples.generator_row.Goals as goal

pub returns-in-Some-clause-zeros : goal.returns-in-Some-clause-zeros
returns-in-Some-clause-zeros g c = λ k h.
    let long : length (take c.args.checks (let z : List ℕ = replicate g.row.ROW 0 in z)) ≡ c.args.checks =
    simp (length-take, length-replicate) (omega arith) in
    zeros_after g.row.ROW c.copy_from_slice.new.self c.args.checks k (c.copy_from_slice.ensures.len ∙ long) h

pub returns-in-None-clause-zeros : goal.returns-in-None-clause-zeros
returns-in-None-clause-zeros g c = λ k h.
    let long : length (take c.args.checks (let z : List ℕ = replicate g.row.ROW 0 in z)) ≡ c.args.checks =
    simp (length-take, length-replicate) (omega arith) in
    zeros_after g.row.ROW c.copy_from_slice-in-None.new.self c.args.checks k (c.copy_from_slice-in-None.ensures.len ∙ long) h
