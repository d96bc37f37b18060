-- The listed generator polynomials have their roots. The polynomial with the roots 2^1 .. 2^c is built root by root,
-- and each list is what that gives, by computing.
use Rattle.std.proofs.Common.{◌≡◌, ℕ, zero, suc, ◌<◌, ◌≤◌, refl, ◌∙◌, ap, arith, List, [], ◌∷◌, ◌++◌, length, ⊎_elim}
use Rattle.std.proofs.lemmas.Bool.{cases_lt}
use Rattle.std.specs.Int.Bits.{bit_xor, xor_self}
use Rattle.dm_gf256.specs.Field.{product, power, plain, reduced, value, add_scaled, IsSoundBlock}
use Rattle.dm_gf256.proofs.{Ring.product-zero_l, Ring.product-zero_r, Divide.value-times_root}
use Rattle.dm_check_blocks.specs.inner.Remainders.{IsGenerator}
use Rattle.dm_check_blocks.specs.declared.listed.TheConstants.{GENERATOR_5, GENERATOR_7, GENERATOR_10, GENERATOR_12, GENERATOR_14, GENERATOR_18, GENERATOR_20, GENERATOR_24, GENERATOR_28, GENERATOR_36, GENERATOR_42, GENERATOR_48, GENERATOR_56, GENERATOR_62, GENERATOR_68}

-- the coefficients after the leading 1, with one root more
with_root : ℕ → List ℕ → List ℕ
with_root r gs = add_scaled r (gs ++ 0 ∷ []) (1 ∷ gs)

-- the polynomial with the roots 2^1 .. 2^c, its leading 1 left out
with_roots : ℕ → List ℕ
with_roots zero = []
with_roots (suc c) = with_root (power 2 (suc c)) (with_roots c)

-- it has these roots
all_roots : (c : ℕ) → IsSoundBlock c (1 ∷ with_roots c)
unfolding with_roots with_root
all_roots zero k p q = absurd (omega arith)
all_roots (suc c) k p q =
    let gs = with_roots c in
    let r = power 2 (suc c) in
    value-times_root 1 gs r (power 2 k)
    ∙ ⊎_elim (λ (l : k < suc c).
    ap (product (bit_xor (power 2 k) r)) (all_roots c k p (omega arith)) ∙ product-zero_r _)
    (λ (l : suc c ≤ k).
    let e : k ≡ suc c = omega arith in
    ap (λ t. product (bit_xor (power 2 t) r) (value (1 ∷ gs) (power 2 k))) e
    ∙ ap (λ t. product t (value (1 ∷ gs) (power 2 k))) (xor_self r) ∙ product-zero_l _)
    (cases_lt k (suc c))

-- so has a list that is that polynomial
is_generator : (c : ℕ) (gs : List ℕ) → gs ≡ with_roots c → length gs ≡ c → (length gs ≡ c) × IsGenerator gs
is_generator c gs e n = grind (arith, all_roots)

pub generator_5 : (length GENERATOR_5 ≡ 5) × IsGenerator GENERATOR_5
unfolding with_roots with_root add_scaled product reduced plain power
generator_5 = is_generator 5 GENERATOR_5 refl refl

pub generator_7 : (length GENERATOR_7 ≡ 7) × IsGenerator GENERATOR_7
unfolding with_roots with_root add_scaled product reduced plain power
generator_7 = is_generator 7 GENERATOR_7 refl refl

pub generator_10 : (length GENERATOR_10 ≡ 10) × IsGenerator GENERATOR_10
unfolding with_roots with_root add_scaled product reduced plain power
generator_10 = is_generator 10 GENERATOR_10 refl refl

pub generator_12 : (length GENERATOR_12 ≡ 12) × IsGenerator GENERATOR_12
unfolding with_roots with_root add_scaled product reduced plain power
generator_12 = is_generator 12 GENERATOR_12 refl refl

pub generator_14 : (length GENERATOR_14 ≡ 14) × IsGenerator GENERATOR_14
unfolding with_roots with_root add_scaled product reduced plain power
generator_14 = is_generator 14 GENERATOR_14 refl refl

pub generator_18 : (length GENERATOR_18 ≡ 18) × IsGenerator GENERATOR_18
unfolding with_roots with_root add_scaled product reduced plain power
generator_18 = is_generator 18 GENERATOR_18 refl refl

pub generator_20 : (length GENERATOR_20 ≡ 20) × IsGenerator GENERATOR_20
unfolding with_roots with_root add_scaled product reduced plain power
generator_20 = is_generator 20 GENERATOR_20 refl refl

pub generator_24 : (length GENERATOR_24 ≡ 24) × IsGenerator GENERATOR_24
unfolding with_roots with_root add_scaled product reduced plain power
generator_24 = is_generator 24 GENERATOR_24 refl refl

pub generator_28 : (length GENERATOR_28 ≡ 28) × IsGenerator GENERATOR_28
unfolding with_roots with_root add_scaled product reduced plain power
generator_28 = is_generator 28 GENERATOR_28 refl refl

pub generator_36 : (length GENERATOR_36 ≡ 36) × IsGenerator GENERATOR_36
unfolding with_roots with_root add_scaled product reduced plain power
generator_36 = is_generator 36 GENERATOR_36 refl refl

pub generator_42 : (length GENERATOR_42 ≡ 42) × IsGenerator GENERATOR_42
unfolding with_roots with_root add_scaled product reduced plain power
generator_42 = is_generator 42 GENERATOR_42 refl refl

pub generator_48 : (length GENERATOR_48 ≡ 48) × IsGenerator GENERATOR_48
unfolding with_roots with_root add_scaled product reduced plain power
generator_48 = is_generator 48 GENERATOR_48 refl refl

pub generator_56 : (length GENERATOR_56 ≡ 56) × IsGenerator GENERATOR_56
unfolding with_roots with_root add_scaled product reduced plain power
generator_56 = is_generator 56 GENERATOR_56 refl refl

pub generator_62 : (length GENERATOR_62 ≡ 62) × IsGenerator GENERATOR_62
unfolding with_roots with_root add_scaled product reduced plain power
generator_62 = is_generator 62 GENERATOR_62 refl refl

pub generator_68 : (length GENERATOR_68 ≡ 68) × IsGenerator GENERATOR_68
unfolding with_roots with_root add_scaled product reduced plain power
generator_68 = is_generator 68 GENERATOR_68 refl refl

-- all of them
pub ruleset short_generators = (generator_5, generator_7, generator_10, generator_12, generator_14, generator_18)

pub ruleset long_generators = (generator_20, generator_24, generator_28, generator_36, generator_42, generator_48)

pub ruleset listed_generators = (short_generators, long_generators, generator_56, generator_62, generator_68)
