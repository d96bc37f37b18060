-- Roots among places: products that aren't zero, different powers of 2.
use Rattle.std.proofs.Common.{List, [], arith, inl, inr, length, suc, zero, ℕ, ⊎_elim, ◌<◌, ◌∙◌, ◌∷◌, ◌≡◌, ◌≢◌, ◌⊎◌}
use Rattle.std.proofs.lemmas.{Bool.cases_eq, Bool.cases_lt, List.Elements.Contains-append_right}
use Rattle.std.specs.List.{Contains}
use Rattle.dm_gf256.proofs.Ring.{one-product, power_two_distinct, product_comm, product_zero}
use Rattle.dm_gf256.specs.Field.{power, product}

-- a product of nonzero bytes isn't zero
pub product_pos : (a b : ℕ) → 0 < a → a < 256 → 0 < b → b < 256 → 0 < product a b
product_pos a b p q r s = grind (arith, ⊎_elim, product_zero, cases_lt)

-- different powers 0 to 254 of 2 are different elements
pub power_two_apart : (i j : ℕ) → i ≢ j → i < 255 → j < 255 → power 2 i ≢ power 2 j
power_two_apart i j h p q e = grind (arith, ⊎_elim, power_two_distinct, cases_lt)

-- a number is in a list, or it isn't
pub contains_or_not : (i : ℕ) (fs : List ℕ) → Contains fs i ⊎ (Contains fs i → ⊥)
contains_or_not i [] = inr (λ c. let none : c.0 < 0 = c.1 in omega arith)
contains_or_not i (f ∷ fs) =
    ⊎_elim (λ (e : f ≡ i). inl (zero, omega arith, e))
    (λ (d : f ≢ i).
    ⊎_elim (λ (c : Contains fs i). inl (Contains-append_right (f ∷ []) fs i c))
    (λ (n : Contains fs i → ⊥). inr (none d n)) (contains_or_not i fs))
    (cases_eq f i)
  where
    none : f ≢ i → (Contains fs i → ⊥) → Contains (f ∷ fs) i → ⊥
    none d n (zero, l, e) = d e
    none d n (suc k, l, e) = n (k, (let m : k < length fs = omega arith in m), e)

-- x to the power 1 is x
pub power-one : (x : ℕ) → x < 256 → power x 1 ≡ x
unfolding power
power-one x h = product_comm x 1 ∙ one-product x h
