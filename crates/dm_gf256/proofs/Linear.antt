-- Products are additive in each factor.
use Rattle.std.proofs.Common.{◌≡◌, ℕ, zero, suc, ◌+◌, ◌*◌, ◌^◌, ◌%◌, ◌<◌, refl, sym, ◌∙◌, ap, arith, add-zero, zero-mul, one-mul}
use Rattle.std.specs.Int.{bit_at, Bits.bit_xor, Bits.xor_assoc, Bits.xor_zero_r, Bits.xor_self}
use Rattle.std.proofs.lemmas.Nat.{xor_comm, xor_block, xor_mod, pow_pos, Bits.bit_at_xor, Bits.bit_at-lt}
use Rattle.dm_gf256.specs.Field.{plain, reduced, product}

-- (x + y) + (z + w) = (x + z) + (y + w)
pub xor_interchange : (x y z w : ℕ) → bit_xor (bit_xor x y) (bit_xor z w) ≡ bit_xor (bit_xor x z) (bit_xor y w)
xor_interchange x y z w =
    xor_assoc x y (bit_xor z w)
    ∙ ap (λ t. bit_xor x t) (sym (xor_assoc y z w) ∙ ap (λ t. bit_xor t w) (xor_comm y z) ∙ xor_assoc z y w)
    ∙ sym (xor_assoc x z (bit_xor y w))

-- the multiple of a sum of bits is the exclusive or of their multiples
bit_scale : (u v m : ℕ) → u < 2 → v < 2 → (u + v) % 2 * m ≡ bit_xor (u * m) (v * m)
bit_scale zero zero m p q = rw (zero-mul m) refl
bit_scale zero (suc zero) m p q = rw (zero-mul m, one-mul m) refl
bit_scale (suc zero) zero m p q = rw (zero-mul m, one-mul m) (sym (xor_zero_r m))
bit_scale (suc zero) (suc zero) m p q = rw (zero-mul m, one-mul m) (sym (xor_self m))
bit_scale (suc (suc u)) v m p q = omega arith
bit_scale zero (suc (suc v)) m p q = omega arith
bit_scale (suc zero) (suc (suc v)) m p q = omega arith

-- a bit times an exclusive or is the exclusive or of the products
scale_bit : (u x y : ℕ) → u < 2 → u * bit_xor x y ≡ bit_xor (u * x) (u * y)
scale_bit zero x y p = rw (zero-mul (bit_xor x y), zero-mul x, zero-mul y) refl
scale_bit (suc zero) x y p = rw (one-mul (bit_xor x y), one-mul x, one-mul y) refl
scale_bit (suc (suc u)) x y p = omega arith

-- the plain product is additive in its second factor
pub plain-xor_r : (k a b c : ℕ) → plain k a (bit_xor b c) ≡ bit_xor (plain k a b) (plain k a c)
unfolding plain
plain-xor_r zero a b c = refl
plain-xor_r (suc k) a b c =
    rw (
      plain-xor_r k a b c,
      bit_at_xor b c k,
      bit_scale (bit_at b k) (bit_at c k) (a * 2 ^ k) (bit_at-lt b k)
          (bit_at-lt c k),
    )
    (xor_interchange (plain k a b) (plain k a c) (bit_at b k * (a * 2 ^ k)) (bit_at c k * (a * 2 ^ k)))

-- the reduction is additive
pub reduced-xor : (k p q : ℕ) → reduced k (bit_xor p q) ≡ bit_xor (reduced k p) (reduced k q)
unfolding reduced
reduced-xor zero p q = refl
reduced-xor (suc k) p q =
    let m = 301 * 2 ^ k in
    ap (reduced k)
    (rw (
      bit_at_xor p q (8 + k),
      bit_scale (bit_at p (8 + k)) (bit_at q (8 + k)) m
          (bit_at-lt p (8 + k)) (bit_at-lt q (8 + k)),
    )
    (xor_interchange p q (bit_at p (8 + k) * m) (bit_at q (8 + k) * m)))
    ∙ reduced-xor k _ _

-- a shifted exclusive or is the exclusive or of the shifted numbers
shift-xor : (k a b : ℕ) → bit_xor a b * 2 ^ k ≡ bit_xor (a * 2 ^ k) (b * 2 ^ k)
shift-xor k a b =
    let e : bit_xor (a * 2 ^ k + 0) (b * 2 ^ k + 0) ≡ bit_xor a b * 2 ^ k + bit_xor 0 0 =
    xor_block k a b 0 0 (pow_pos k) (pow_pos k) in
    sym (simp add-zero at e)

-- the plain product is additive in its first factor
pub plain-xor_l : (k a b c : ℕ) → plain k (bit_xor a b) c ≡ bit_xor (plain k a c) (plain k b c)
unfolding plain
plain-xor_l zero a b c = refl
plain-xor_l (suc k) a b c =
    rw (plain-xor_l k a b c, shift-xor k a b, scale_bit (bit_at c k) (a * 2 ^ k) (b * 2 ^ k) (bit_at-lt c k))
    (xor_interchange (plain k a c) (plain k b c) (bit_at c k * (a * 2 ^ k)) (bit_at c k * (b * 2 ^ k)))

-- ---- a product is linear in each factor
pub product-xor_r : (a b c : ℕ) → product a (bit_xor b c) ≡ bit_xor (product a b) (product a c)
unfolding product
product-xor_r a b c =
    ap (λ t. reduced 7 (plain 8 (a % 256) t)) (xor_mod b c 8)
    ∙ ap (reduced 7) (plain-xor_r 8 (a % 256) (b % 256) (c % 256)) ∙ reduced-xor 7 _ _

-- the product is additive in its first factor
pub product-xor_l : (a b c : ℕ) → product (bit_xor a b) c ≡ bit_xor (product a c) (product b c)
unfolding product
product-xor_l a b c =
    ap (λ t. reduced 7 (plain 8 t (c % 256))) (xor_mod a b 8)
    ∙ ap (reduced 7) (plain-xor_l 8 (a % 256) (b % 256) (c % 256)) ∙ reduced-xor 7 _ _
