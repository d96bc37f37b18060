-- The tables of the powers of 2 and of their exponents give products and inverses.
use Rattle.std.proofs.Common.{◌≡◌, ℕ, zero, suc, ◌+◌, ◌-◌, ◌<◌, ◌≤◌, eqb, refl, sym, ◌∙◌, ap, arith, get_or, eqb-true, true, ◌&&◌, ltb, ltb-true, inl, inr, ⊎_elim}
use Rattle.std.proofs.lemmas.Bool.{and_parts}
use Rattle.dm_gf256.specs.{inner.Exponents.IsExponent, Field.product, Field.power, Field.plain, Field.reduced}
use Rattle.dm_gf256.specs.declared.powers.TheConstants.{POWERS, LOGS}
use Rattle.dm_gf256.proofs.TablesByComputing.{all_below}
use Rattle.dm_gf256.proofs.Ring.{all_below-at, power-add, product-zero_l, product_comm}

-- each of the powers is twice the one before
doubles : all_below 509 (λ k. eqb (get_or POWERS (suc k) 0) (product 2 (get_or POWERS k 0))) ≡ true
unfolding all_below product reduced plain
doubles = refl

-- entry k of POWERS is 2 to the power k
pub powers_table : (k : ℕ) → k < 510 → get_or POWERS k 0 ≡ power 2 k
unfolding power
powers_table zero h = refl
powers_table (suc k) h = eqb-true _ _ (all_below-at 509 _ doubles k (omega arith)) ∙
    ap (product 2) (powers_table k (omega arith))

-- 2 to the power 255 is 1
pub whole_turn : power 2 255 ≡ 1
whole_turn = sym (powers_table 255 (omega arith))

-- the entries from 510 on are zero, by computing
zeros_checked : all_below 511 (λ k. eqb (get_or POWERS (510 + k) 0) 0) ≡ true
unfolding all_below
zeros_checked = refl

-- the entries of POWERS from 510 on are zero
zeros_table : (k : ℕ) → k < 511 → get_or POWERS (510 + k) 0 ≡ 0
zeros_table k h = eqb-true _ _ (all_below-at 511 _ zeros_checked k h)

-- each nonzero entry of LOGS is an exponent below 255 of its index, by computing
logs_checked : all_below 255 (λ k. eqb (get_or POWERS (get_or LOGS (suc k) 0) 0)
    (suc k) && ltb (get_or LOGS (suc k) 0) 255) ≡ true
unfolding all_below
logs_checked = refl

-- a nonzero byte is 2 to the power of its entry in LOGS
log_of : (a : ℕ) → 0 < a → a < 256 → (power 2 (get_or LOGS a 0) ≡ a) × (get_or LOGS a 0 < 255)
log_of zero p q = absurd (omega arith)
log_of (suc k) p q =
    let parts = and_parts _ _ (all_below-at 255 _ logs_checked k (omega arith)) in
    let l : get_or LOGS (suc k) 0 < 255 = ltb-true _ _ (parts.1) in
    (sym (powers_table (get_or LOGS (suc k) 0) (omega arith)) ∙ eqb-true _ _ (parts.0), l)

-- each entry of LOGS is the exponent of its index
pub exponent_table : (a : ℕ) → a < 256 → IsExponent a (get_or LOGS a 0)
exponent_table zero h = inr (refl, refl)
exponent_table (suc k) h = let u = log_of (suc k) (omega arith) h in inl (u.1, u.0)

-- an exponent is at most 510
pub exponent_most : (a e : ℕ) → IsExponent a e → e ≤ 510
exponent_most a e = ⊎_elim (λ (l : (e < 255) × (power 2 e ≡ a)). (let m : e < 255 = l.0 in omega arith))
    (λ (z : (e ≡ 510) × (a ≡ 0)). (let m : e ≡ 510 = z.0 in omega arith))

-- the exponent of a nonzero element is below 255
pub exponent_below : (a e : ℕ) → 0 < a → IsExponent a e → (e < 255) × (power 2 e ≡ a)
exponent_below a e p = ⊎_elim (λ (l : (e < 255) × (power 2 e ≡ a)). l) (λ (z : (e ≡ 510) × (a ≡ 0)). (let m : a ≡ 0 =
    z.1 in absurd (omega arith)))

-- a zero among the factors
past : (e f a b : ℕ) → a ≡ 0 → e ≡ 510 → f ≤ 510 → get_or POWERS (e + f) 0 ≡ product a b
past e f a b z h l =
    ap (λ n. get_or POWERS (n + f) 0) h ∙ zeros_table f (omega arith) ∙ sym (product-zero_l b) ∙
    ap (λ n. product n b) (sym z)

-- the entry at an exponent and k is the product with 2 to the power k
power_product : (a e k : ℕ) → IsExponent a e → k < 256 → get_or POWERS (e + k) 0 ≡ product a (power 2 k)
power_product a e k h l =
    ⊎_elim (λ (p : (e < 255) × (power 2 e ≡ a)).
    let m : e < 255 = p.0 in
    powers_table (e + k) (omega arith) ∙ power-add 2 e k (omega arith) ∙ ap (λ t. product t (power 2 k)) (p.1))
    (λ (z : (e ≡ 510) × (a ≡ 0)). past e k a (power 2 k) (z.1) (z.0) (omega arith))
    h

-- the entry at the sum of two exponents is the product
pub product_table : (a b e f : ℕ) → IsExponent a e → IsExponent b f → get_or POWERS (e + f) 0 ≡ product a b
product_table a b e f h i =
    ⊎_elim (λ (p : (f < 255) × (power 2 f ≡ b)).
    let m : f < 255 = p.0 in
    power_product a e f h (omega arith) ∙ ap (product a) (p.1))
    (λ (z : (f ≡ 510) × (b ≡ 0)).
    ap (λ n. get_or POWERS n 0) (let s : e + f ≡ f + e = omega arith in s) ∙
    past f e b a (z.1) (z.0) (exponent_most a e h) ∙ product_comm b a)
    i

-- the entry at 255 less an exponent is the inverse
pub inverse_table : (a e : ℕ) → 0 < a → IsExponent a e → product a (get_or POWERS (255 - e) 0) ≡ 1
inverse_table a e p h =
    let u = exponent_below a e p h in
    let l : e < 255 = u.0 in
    let j = 255 - e in
    ap (product a) (powers_table j (omega arith))
    ∙ ap (λ t. product t (power 2 j)) (sym (u.1)) ∙ sym (power-add 2 e j (omega arith))
    ∙ ap (power 2) (let s : e + j ≡ 255 = omega arith in s) ∙ whole_turn
