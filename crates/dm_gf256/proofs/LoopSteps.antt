-- What the loops of the field's functions do in one step.
use Rattle.std.proofs.Common.{◌≡◌, ℕ, suc, ◌+◌, ◌-◌, ◌*◌, ◌/◌, ◌%◌, ◌^◌, ◌<◌, ◌≤◌, true, eqb, refl, sym, ◌∙◌, ap, subst, arith, List, [], ◌∷◌, ◌++◌, length, eqb-true, add-zero, zero-add, length-append}
use Rattle.std.specs.Int.Bits.{bit_xor, xor_assoc, xor_zero_r, bit_and}
use Rattle.std.proofs.lemmas.Nat.{xor_comm, xor_block, and_mask}
use Rattle.dm_gf256.specs.Field.{product, power, plain, reduced, value}
use Rattle.dm_gf256.proofs.{TablesByComputing.all_below, Linear.product-xor_r, Linear.product-xor_l}
use Rattle.dm_gf256.proofs.Ring.{all_below-at, product_comm, product_assoc, product-zero_l, product-zero_r, one-product}

-- doubling below 128 is a shift, by computing
doubles_low : all_below 128 (λ a. eqb (a * 2 % 256) (product 2 a)) ≡ true
unfolding all_below product reduced plain
doubles_low = refl

-- doubling from 128 on is a shift and the reduction, by computing
doubles_high : all_below 128 (λ k. eqb (bit_xor ((128 + k) * 2 % 256) 45) (product 2 (128 + k))) ≡ true
unfolding all_below product reduced plain
doubles_high = refl

-- doubling below 128 is a shift
pub double_low : (a : ℕ) → a < 128 → a * 2 % 256 ≡ product 2 a
double_low a h = eqb-true _ _ (all_below-at 128 _ doubles_low a h)

-- doubling from 128 on is a shift and the reduction
pub double_high : (a : ℕ) → 128 ≤ a → a < 256 → bit_xor (a * 2 % 256) 45 ≡ product 2 a
double_high a h l =
    let k = a - 128 in
    let e : 128 + k ≡ a = omega arith in
    let P : ℕ → Type 0 = λ t. bit_xor (t * 2 % 256) 45 ≡ product 2 t in
    subst P e (eqb-true _ _ (all_below-at 128 _ doubles_high k (omega arith)))

-- a number is its half, doubled, and its lowest bit
split_bit : (b : ℕ) → b ≡ bit_xor (b / 2 * 2) (b % 2)
split_bit b =
    let e : bit_xor (b / 2 * 2 ^ 1 + 0) (0 * 2 ^ 1 + b % 2) ≡ bit_xor (b / 2) 0 * 2 ^ 1 + bit_xor 0 (b % 2) =
    xor_block 1 (b / 2) 0 0 (b % 2) (omega arith) (omega arith) in
    let f : bit_xor (b / 2 * 2) (b % 2) ≡ b / 2 * 2 + b % 2 = simp (add-zero, zero-add, xor_zero_r) at e in
    omega arith ∙ sym f

-- a b = a (b mod 2) + 2 a (b / 2)
pub product_halves : (a b : ℕ) → b < 256 → product a b ≡ bit_xor (product (product 2 a) (b / 2)) (product a (b % 2))
product_halves a b h =
    let twice : b / 2 * 2 ≡ product 2 (b / 2) = (let e : b / 2 * 2 ≡ b / 2 * 2 % 256 = omega arith in e) ∙
    double_low (b / 2) (omega arith) in
    ap (product a) (split_bit b) ∙ product-xor_r a _ _
    ∙ ap (λ t. bit_xor t (product a (b % 2))) (ap (product a) twice ∙ sym (product_assoc a 2 (b / 2)) ∙
    ap (λ t. product t (b / 2)) (product_comm a 2))

-- the value of a polynomial with one coefficient more
pub value-push : (cs : List ℕ) (c x : ℕ) → c < 256 → value (cs ++ c ∷ []) x ≡ bit_xor (product (value cs x) x) c
unfolding value power
value-push [] c x h = rw (product_comm c 1, one-product c h, xor_zero_r c, product-zero_l x) refl
value-push (d ∷ cs) c x h =
    let n : length (cs ++ c ∷ []) ≡ suc (length cs) = simp length-append (omega arith) in
    let p = power x (length cs) in
    ap (λ n. bit_xor (product d (power x n)) (value (cs ++ c ∷ []) x)) n
    ∙ ap (bit_xor (product d (product x p))) (value-push cs c x h)
    ∙ sym (xor_assoc (product d (product x p)) (product (value cs x) x) c)
    ∙ ap (λ t. bit_xor t c)
    (ap (λ t. bit_xor t (product (value cs x) x)) (ap (product d) (product_comm x p) ∙ sym (product_assoc d p x))
    ∙ sym (product-xor_l (product d p) (value cs x) x))

-- one step of the product's loop, where the lowest bit of b is 1
pub product-step_one : (s a b : ℕ) → a < 256 → b < 256 → b % 2 ≡ 1 →
    bit_xor (bit_xor s a) (product (product 2 a) (b / 2)) ≡ bit_xor s (product a b)
product-step_one s a b la lb e =
    xor_assoc s a _
    ∙ ap (bit_xor s)
    (xor_comm a _ ∙ ap (bit_xor (product (product 2 a) (b / 2))) (sym (product_comm a 1 ∙ one-product a la) ∙
    ap (product a) (sym e))
    ∙ sym (product_halves a b lb))

-- the same where the lowest bit is 0
pub product-step_zero : (s a b : ℕ) → b < 256 → b % 2 ≡ 0 →
    bit_xor s (product (product 2 a) (b / 2)) ≡ bit_xor s (product a b)
product-step_zero s a b lb e =
    ap (bit_xor s)
    (sym (xor_zero_r _) ∙ ap (bit_xor (product (product 2 a) (b / 2))) (sym (product-zero_r a) ∙ ap (product a) (sym e))
    ∙ sym (product_halves a b lb))

-- the lowest bit is the remainder by 2
pub mask_one : (n : ℕ) → bit_and n 1 ≡ n % 2
mask_one n = and_mask n 1

pub ruleset product_steps = (mask_one, product-step_one, product-step_zero)
