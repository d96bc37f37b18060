-- The laws of the field: a commutative ring, inverses, and the powers of 2.
use Rattle.std.proofs.Common.{◌≡◌, ◌≢◌, ℕ, zero, suc, ◌+◌, ◌-◌, ◌*◌, ◌^◌, ◌%◌, ◌<◌, ◌≤◌, Bool, true, eqb, ltb, refl, sym, ◌∙◌, ap, subst, arith, add-zero, zero-add, one-mul, zero-mul, eqb-true, ltb-true, ◌&&◌, ⊎_elim}
use Rattle.std.proofs.{lemmas.Bool.cases_lt, lemmas.Bool.and_parts, Math.Nat.pow-succ'}
use Rattle.std.specs.Int.Bits.{bit_xor, xor_self}
use Rattle.std.proofs.lemmas.Nat.{xor_lt, pow_pos, xor_block}
use Rattle.dm_gf256.specs.Field.{plain, reduced, product, power}
use Rattle.dm_gf256.proofs.{Linear.product-xor_r, Linear.product-xor_l, TablesByComputing.all_below}

-- what the checker finds at each number below n
pub all_below-at : (n : ℕ) (p : ℕ → Bool) → all_below n p ≡ true → (k : ℕ) → k < n → p k ≡ true
unfolding all_below
all_below-at zero p t k h = absurd (omega arith)
all_below-at (suc n) p t k h =
    let parts = and_parts (p n) (all_below n p) t in
    ⊎_elim (λ (l : k < n). all_below-at n p (parts.1) k l)
    (λ (l : n ≤ k). let e : k ≡ n = omega arith in ap p e ∙ parts.0)
    (cases_lt k n)

-- a number of k + 1 bits is its highest bit and the rest
high_bit : (k b : ℕ) → 2 ^ k ≤ b → b < 2 ^ suc k → (b - 2 ^ k < 2 ^ k) × (bit_xor (2 ^ k) (b - 2 ^ k) ≡ b)
high_bit k b p q =
    let two : 2 ^ suc k ≡ 2 * 2 ^ k = pow-succ' 2 k in
    let l : b - 2 ^ k < 2 ^ k = omega arith in
    let e : bit_xor (1 * 2 ^ k + 0) (0 * 2 ^ k + (b - 2 ^ k)) ≡ bit_xor 1 0 * 2 ^ k + bit_xor 0 (b - 2 ^ k) =
    xor_block k 1 0 0 (b - 2 ^ k) (pow_pos k) l in
    let e2 : bit_xor (2 ^ k) (b - 2 ^ k) ≡ 2 ^ k + (b - 2 ^ k) = simp (add-zero, one-mul, zero-mul, zero-add) at e in
    (l, e2 ∙ omega arith)

-- what holds of 0, of each 2^i below 2^k, and of a sum where it holds of both parts, holds below 2^k
pub by_bits : (P : ℕ → Type 0) → P 0 → ((a b : ℕ) → P a → P b → P (bit_xor a b)) → (k : ℕ) →
    ((i : ℕ) → i < k → P (2 ^ i)) → (b : ℕ) → b < 2 ^ k → P b
by_bits P z s zero h b l = let e : 0 ≡ b = omega arith in subst P e z
by_bits P z s (suc k) h b l =
    let low : (c : ℕ) → c < 2 ^ k → P c = by_bits P z s k (λ i p. h i (omega arith)) in
    ⊎_elim (λ (p : b < 2 ^ k). low b p)
    (λ (p : 2 ^ k ≤ b).
    let q = high_bit k b p l in
    subst P (q.1) (s (2 ^ k) (b - 2 ^ k) (h k (omega arith)) (low _ (q.0))))
    (cases_lt b (2 ^ k))

-- a times 0 is 0
pub product-zero_r : (a : ℕ) → product a 0 ≡ 0
product-zero_r a = product-xor_r a 0 0 ∙ xor_self (product a 0)

-- 0 times a is 0
pub product-zero_l : (a : ℕ) → product 0 a ≡ 0
product-zero_l a = product-xor_l 0 0 a ∙ xor_self (product 0 a)

-- to reduce modulo 256 twice is to reduce once
mod_mod : (a : ℕ) → a % 256 % 256 ≡ a % 256
mod_mod a = omega arith

-- a remainder modulo 256 is below 256
byte : (a : ℕ) → a % 256 < 256
byte a = omega arith

-- only the low bits count
pub product-mod : (a b : ℕ) → product (a % 256) (b % 256) ≡ product a b
unfolding product
product-mod a b = rw (mod_mod a, mod_mod b) refl

-- ---- the ring laws
basis_comm : all_below 8 (λ i. all_below 8
    (λ j. eqb (product (2 ^ i) (2 ^ j)) (product (2 ^ j) (2 ^ i)) && ltb (product (2 ^ i) (2 ^ j)) 256)) ≡ true
unfolding all_below product reduced plain
basis_comm = refl

-- the product of powers of 2 below 256 is associative, by computing
basis_assoc : all_below 8 (λ i. all_below 8
    (λ j. all_below 8 (λ k. eqb (product (product (2 ^ i) (2 ^ j)) (2 ^ k))
    (product (2 ^ i) (product (2 ^ j) (2 ^ k)))))) ≡ true
unfolding all_below product reduced plain
basis_assoc = refl

-- 1 is neutral at the powers of 2 below 256, by computing
basis_one : all_below 8 (λ i. eqb (product 1 (2 ^ i)) (2 ^ i)) ≡ true
unfolding all_below product reduced plain
basis_one = refl

-- two powers of 2 below 256 commute, and their product is a byte
basis_comm-at : (i : ℕ) → i < 8 → (j : ℕ) → j < 8 → (product (2 ^ i) (2 ^ j) ≡ product (2 ^ j) (2 ^ i)) ×
    (product (2 ^ i) (2 ^ j) < 256)
basis_comm-at i p j q =
    let parts = and_parts _ _ (all_below-at 8 _ (all_below-at 8 _ basis_comm i p) j q) in
    (eqb-true _ _ (parts.0), ltb-true _ _ (parts.1))

-- three powers of 2 below 256 are associative
basis_assoc-at : (i : ℕ) → i < 8 → (j : ℕ) → j < 8 → (k : ℕ) → k < 8 →
    product (product (2 ^ i) (2 ^ j)) (2 ^ k) ≡ product (2 ^ i) (product (2 ^ j) (2 ^ k))
basis_assoc-at i p j q k r = eqb-true _ _
    (all_below-at 8 _ (all_below-at 8 _ (all_below-at 8 _ basis_assoc i p) j q) k r)

-- two additive functions that agree at the powers of 2 agree below 256
agree : (f g : ℕ → ℕ) → ((a b : ℕ) → f (bit_xor a b) ≡ bit_xor (f a) (f b)) →
    ((a b : ℕ) → g (bit_xor a b) ≡ bit_xor (g a) (g b)) → ((i : ℕ) → i < 8 → f (2 ^ i) ≡ g (2 ^ i)) → (b : ℕ) →
    b < 256 → f b ≡ g b
agree f g F G h =
    by_bits (λ b. f b ≡ g b) (F 0 0 ∙ xor_self (f 0) ∙ sym (G 0 0 ∙ xor_self (g 0)))
    (λ a b p q. F a b ∙ ap (λ t. bit_xor t (f b)) p ∙ ap (λ t. bit_xor (g a) t) q ∙ sym (G a b)) 8 h

-- the product of bytes is commutative
comm_below : (a : ℕ) → a < 256 → (b : ℕ) → b < 256 → product a b ≡ product b a
comm_below a p =
    agree (λ b. product a b) (λ b. product b a) (product-xor_r a) (λ x y. product-xor_l x y a)
    (λ j jl. agree (λ a. product a (2 ^ j)) (λ a. product (2 ^ j) a) (λ x y. product-xor_l x y (2 ^ j))
    (product-xor_r (2 ^ j))
    (λ i il. (basis_comm-at i il j jl).0) a p)

-- the product is commutative
pub product_comm : (a b : ℕ) → product a b ≡ product b a
product_comm a b = sym (product-mod a b) ∙ comm_below (a % 256) (byte a) (b % 256) (byte b) ∙ product-mod b a

-- the product of bytes is a byte
byte_below : (a : ℕ) → a < 256 → (b : ℕ) → b < 256 → product a b < 256
byte_below a p =
    by_bits (λ b. product a b < 256) (rw (product-zero_r a) (omega arith))
    (λ x y h k. rw (product-xor_r a x y) (xor_lt 8 _ _ h k)) 8
    (λ j jl. by_bits (λ a. product a (2 ^ j) < 256) (rw (product-zero_l (2 ^ j)) (omega arith))
    (λ x y h k. rw (product-xor_l x y (2 ^ j)) (xor_lt 8 _ _ h k)) 8 (λ i il. (basis_comm-at i il j jl).1) a p)

-- every product is a byte
pub product_byte : (a b : ℕ) → product a b < 256
product_byte a b = let P : ℕ → Type 0 = λ t. t < 256 in
    subst P (product-mod a b) (byte_below (a % 256) (byte a) (b % 256) (byte b))

-- the product of bytes is associative
assoc_below : (a : ℕ) → a < 256 → (b : ℕ) → b < 256 → (c : ℕ) → c < 256 →
    product (product a b) c ≡ product a (product b c)
assoc_below a p b q =
    agree (λ c. product (product a b) c) (λ c. product a (product b c)) (product-xor_r (product a b))
    (λ x y. ap (product a) (product-xor_r b x y) ∙ product-xor_r a _ _)
    (λ k kl. agree (λ b. product (product a b) (2 ^ k)) (λ b. product a (product b (2 ^ k)))
    (λ x y. ap (λ t. product t (2 ^ k)) (product-xor_r a x y) ∙ product-xor_l _ _ _)
    (λ x y. ap (product a) (product-xor_l x y (2 ^ k)) ∙ product-xor_r a _ _)
    (λ j jl. agree (λ a. product (product a (2 ^ j)) (2 ^ k)) (λ a. product a (product (2 ^ j) (2 ^ k)))
    (λ x y. ap (λ t. product t (2 ^ k)) (product-xor_l x y (2 ^ j)) ∙ product-xor_l _ _ _)
    (λ x y. product-xor_l x y _)
    (λ i il. basis_assoc-at i il j jl k kl) a p) b q)

-- the first factor may be reduced modulo 256
product-mod_l : (a b : ℕ) → product (a % 256) b ≡ product a b
unfolding product
product-mod_l a b = rw (mod_mod a) refl

-- the second factor may be reduced modulo 256
product-mod_r : (a b : ℕ) → product a (b % 256) ≡ product a b
unfolding product
product-mod_r a b = rw (mod_mod b) refl

-- the product is associative
pub product_assoc : (a b c : ℕ) → product (product a b) c ≡ product a (product b c)
product_assoc a b c =
    ap (λ t. product t c) (sym (product-mod a b)) ∙ sym (product-mod_r _ c)
    ∙ assoc_below (a % 256) (byte a) (b % 256) (byte b) (c % 256) (byte c)
    ∙ product-mod_l a _ ∙ ap (product a) (product-mod b c)

-- 1 times a byte is the byte
pub one-product : (a : ℕ) → a < 256 → product 1 a ≡ a
one-product = agree (product 1) (λ b. b) (product-xor_r 1)
    (λ a b. refl) (λ i il. eqb-true _ _ (all_below-at 8 _ basis_one i il))

-- ---- inverses: the power 254
unfoldable pub inverse : ℕ → ℕ
inverse a = power a 254

-- a power of the square of x is x to twice the power
power_of_square : (x m : ℕ) → power (product x x) m ≡ power x (m + m)
unfolding power
power_of_square x zero = refl
power_of_square x (suc m) =
    let e : suc m + suc m ≡ suc (suc (m + m)) = omega arith in
    product_assoc x x _ ∙ ap (λ t. product x (product x t)) (power_of_square x m) ∙ sym (ap (power x) e)

-- the product of n factors, x and then each the square of the one before it
squares : ℕ → ℕ → ℕ
squares zero x = 1
squares (suc n) x = product x (squares n (product x x))

-- it is the power 2^n - 1 of x
squares_are_power : (n x m : ℕ) → suc m ≡ 2 ^ n → squares n x ≡ power x m
unfolding squares power
squares_are_power zero x m e = let z : 0 ≡ m = omega arith in ap (power x) z
squares_are_power (suc n) x m e =
    let k = 2 ^ n - 1 in
    let two : 2 ^ suc n ≡ 2 * 2 ^ n = pow-succ' 2 n in
    let one : 1 ≤ 2 ^ n = pow_pos n in
    let less : suc k ≡ 2 ^ n = omega arith in
    let whole : suc (k + k) ≡ m = omega arith in
    ap (product x) (squares_are_power n (product x x) k less ∙ power_of_square x k) ∙ ap (power x) whole

-- each nonzero byte to the power 255 is 1, by computing
inverses : all_below 255 (λ k. eqb (squares 8 (suc k)) 1) ≡ true
unfolding all_below product reduced plain squares
inverses = refl

-- a nonzero byte times its inverse is 1
pub product-inverse : (a : ℕ) → 0 < a → a < 256 → product a (inverse a) ≡ 1
unfolding inverse power
product-inverse (suc k) p q =
    sym (squares_are_power 8 (suc k) 255 refl) ∙ eqb-true _ _ (all_below-at 255 _ inverses k (omega arith))
product-inverse zero p q = absurd (omega arith)

-- ---- the powers of 2

-- whether x and what follows it, each twice the one before it, are above 1: n of them
all_above_one : ℕ → ℕ → Bool
all_above_one zero x = true
all_above_one (suc n) x = ltb 1 x && all_above_one n (product 2 x)

-- the powers 1 to 254 of 2 are above 1, by computing
orders : all_above_one 254 2 ≡ true
unfolding all_above_one product reduced plain
orders = refl

-- each of them is a power of 2, the first the given one
above_one-at : (n i : ℕ) → all_above_one n (power 2 i) ≡ true → (k : ℕ) → k < n → 1 < power 2 (i + k)
unfolding all_above_one power
above_one-at zero i t k h = absurd (omega arith)
above_one-at (suc n) i t zero h =
    let e : i ≡ i + 0 = omega arith in
    subst (λ j. 1 < power 2 j) e (ltb-true _ _ ((and_parts _ _ t).0))
above_one-at (suc n) i t (suc k) h =
    let e : suc i + k ≡ i + suc k = omega arith in
    subst (λ j. 1 < power 2 j) e (above_one-at n (suc i) ((and_parts _ _ t).1) k (omega arith))

-- 2 to a power from 1 to 254 is above 1
pub power_above_one : (d : ℕ) → 0 < d → d < 255 → 1 < power 2 d
unfolding power product reduced plain
power_above_one (suc k) p q =
    let e : 1 + k ≡ suc k = omega arith in
    subst (λ j. 1 < power 2 j) e (above_one-at 254 1 orders k (omega arith))
power_above_one zero p q = absurd (omega arith)

-- a power of a byte is a byte
pub power_byte : (x k : ℕ) → x < 256 → power x k < 256
unfolding power
power_byte x zero h = omega arith
power_byte x (suc k) h = product_byte x _

-- the power of a sum is the product of the powers
pub power-add : (x i j : ℕ) → x < 256 → power x (i + j) ≡ product (power x i) (power x j)
unfolding power
power-add x zero j h = rw (zero-add j) (sym (one-product _ (power_byte x j h)))
power-add x (suc i) j h =
    let e : suc i + j ≡ suc (i + j) = omega arith in
    ap (power x) e ∙ ap (product x) (power-add x i j h) ∙ sym (product_assoc x (power x i) (power x j))

-- an inverse is a byte
pub inverse_byte : (a : ℕ) → a < 256 → inverse a < 256
unfolding inverse
inverse_byte a h = power_byte a 254 h

-- a product is zero only where a factor is
pub product_cancel : (a b c : ℕ) → 0 < a → a < 256 → b < 256 → c < 256 → product a b ≡ product a c → b ≡ c
product_cancel a b c p q r s e =
    let back : (x : ℕ) → x < 256 → product (inverse a) (product a x) ≡ x =
    λ x l. sym (product_assoc (inverse a) a x) ∙
    ap (λ t. product t x) (product_comm (inverse a) a ∙ product-inverse a p q) ∙ one-product x l in
    sym (back b r) ∙ ap (product (inverse a)) e ∙ back c s

-- no product of nonzero elements is 0
pub product_zero : (a b : ℕ) → 0 < a → a < 256 → b < 256 → product a b ≡ 0 → b ≡ 0
product_zero a b p q r e = product_cancel a b 0 p q r (omega arith) (e ∙ sym (product-zero_r a))

-- no power of 2 is 0
pub power_two_pos : (k : ℕ) → k < 255 → 0 < power 2 k
unfolding power
power_two_pos zero h = omega arith
power_two_pos (suc k) h = omega (arith, power_above_one (suc k) (omega arith) h)

-- the powers 0 to 254 of 2 are distinct
pub power_two_distinct : (i j : ℕ) → i < j → j < 255 → power 2 i ≢ power 2 j
power_two_distinct i j p q e =
    let d = j - i in
    let f : i + d ≡ j = omega arith in
    let g : product (power 2 i) (power 2 d) ≡ product (power 2 i) 1 =
    sym (power-add 2 i d (omega arith)) ∙ ap (power 2) f ∙ sym e ∙
    sym (product_comm (power 2 i) 1 ∙ one-product _ (power_byte 2 i (omega arith))) in
    let one : power 2 d ≡ 1 = product_cancel (power 2 i) (power 2 d) 1 (power_two_pos i (omega arith))
    (power_byte 2 i (omega arith)) (power_byte 2 d (omega arith)) (omega arith) g in
    let big : 1 < power 2 d = power_above_one d (omega arith) (omega arith) in
    omega arith

-- the laws of a ring
pub ruleset ring_laws = (product_comm, product_assoc, product-xor_r, one-product, product_byte)
