-- The entries of a map are found in it.
use Rattle.std.proofs.Common.{◌≡◌, ℕ, cond, List, [], ◌∷◌, Some, ap, ◌∙◌, arith}
use Rattle.std.specs.{List.AllByRecursion, List.Sorted.IsStrictlySortedBy, Ordering.nat_cmp, Map.keys_of}
use Rattle.std.specs.declared.cmp.Ordering.TheVariants.{Less}
use Rattle.std.specs.FinMap.{entries, get, find, get-entries}
use Rattle.std.proofs.lemmas.Map.Keys.{sorted_head, sorted_tail}
use Rattle.dm_assembly_desk.specs.Documents.{Pages, Documents}
use Rattle.dm_assembly_desk.proofs.Loading.{apart, itself, keys_rise, above}

abbrev pub Found : List (ℕ × Pages) → List (ℕ × Pages) → Type 0
Found all es = AllByRecursion (λ e. find nat_cmp e.0 all ≡ Some e.1) es

found_later : (first : ℕ × Pages) (all es : List (ℕ × Pages)) →
    AllByRecursion (λ k. nat_cmp first.0 k ≡ Less) (keys_of es) → Found all es → Found (first ∷ all) es
found_later first all [] h f = tt
found_later first all (e ∷ es) h f = grind (arith, apart, above, found_later first all es h.1 f.1)

pub all_found : (es : List (ℕ × Pages)) → IsStrictlySortedBy nat_cmp (keys_of es) → Found es es
all_found [] h = tt
all_found (e ∷ es) h = (
  ap (λ b. cond b (Some e.1) (find nat_cmp e.0 es)) (itself e.0),
  found_later e es es (sorted_head nat_cmp e.0 (keys_of es) h) (all_found es (sorted_tail nat_cmp e.0 (keys_of es) h)),
)

-- the entries are documents of the map
abbrev pub AreOf : Documents → List (ℕ × Pages) → Type 0
AreOf held es = AllByRecursion (λ e. get held e.0 ≡ Some e.1) es

of_found : (held : Documents) (es : List (ℕ × Pages)) → Found (entries held) es → AreOf held es
of_found held [] f = tt
of_found held (e ∷ es) f = (get-entries held e.0 ∙ f.0, of_found held es f.1)

pub known : (held : Documents) → AreOf held (entries held)
known held = of_found held (entries held) (all_found (entries held) (keys_rise held))
