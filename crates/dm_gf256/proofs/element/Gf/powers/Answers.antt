use Rattle.std.proofs.Common.{◌≡◌, ℕ, ◌+◌, ◌-◌, ◌<◌, ◌∙◌, List, arith, length, get_or, take, drop, length-take}
use Rattle.std.proofs.lemmas.List.{get_or-drop, get_or-take}
use Rattle.dm_gf256.specs.declared.powers.TheConstants.{POWERS}
use Rattle.dm_gf256.proofs.Tables.{powers_table}
use Rattle.dm_gf256.proofs.element.Gf.powers.Goals as goal

-- an element of a part of a list
part_at : (xs : List ℕ) (first count k : ℕ) → k < length (take count (drop first xs))
    → (k < count) × (get_or (take count (drop first xs)) k 0 ≡ get_or xs (first + k) 0)
part_at xs first count k l =
    let few : k < count = omega (arith, length-take {A = ℕ}) in
    (few, get_or-take count (drop first xs) k 0 few ∙ get_or-drop first xs k 0)

pub returns-clause-powers : goal.returns-clause-powers
returns-clause-powers c = λ k l.
    let at = part_at POWERS c.args.first (c.args.first + c.args.count - c.args.first) k l in
    at.1 ∙ powers_table (c.args.first + k) (omega (arith, at.0, c.requires))
