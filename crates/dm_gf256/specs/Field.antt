-- The field of 256 elements, and polynomials over it (ISO/IEC 16022:2006, 5.7 and Annex E).
use Rattle.std.specs.Prelude.{ℕ, List, map, zero, suc, ◌+◌, ◌*◌, ◌^◌, ◌%◌, ◌≡◌, ◌<◌, ◌≤◌, [], ◌∷◌, length, slice_index, cond, ◌==◌}
use Rattle.std.specs.Int.{bit_at, Bits.bit_xor}
use Rattle.dm_gf256.specs.declared.element.Gf.{Gf}

-- the numbers of a list of elements
abbrev pub numbers : List Gf → List ℕ
numbers elements = map (λ element. element.0) elements

-- ---- The field of 256 elements of ISO/IEC 16022:2006, 5.7 and Annex E (error detection and correction): polynomials
-- over two elements of degree at most 7, written as numbers below 256 (bit i is the coefficient of x^i), modulo x^8 +
-- x^5 + x^3 + x^2 + 1, which is the number 301. The sum of two elements is their exclusive or.

-- the plain product of a and the lowest k bits of b, added without carries
unfoldable pub plain : ℕ → ℕ → ℕ → ℕ
plain zero a b = 0
plain (suc k) a b = bit_xor (plain k a b) (bit_at b k * (a * 2 ^ k))

-- modulo 301: where bit 8 + k is set, takes off 301 times x^k, from the top down
unfoldable pub reduced : ℕ → ℕ → ℕ
reduced zero p = p
reduced (suc k) p = reduced k (bit_xor p (bit_at p (8 + k) * (301 * 2 ^ k)))

-- the product of two elements
unfoldable pub product : ℕ → ℕ → ℕ
product a b = reduced 7 (plain 8 (a % 256) (b % 256))

-- x to the k-th power
unfoldable pub power : ℕ → ℕ → ℕ
power x zero = 1
power x (suc k) = product x (power x k)

-- the powers of 2 from 2^first on
abbrev pub ArePowers : ℕ → List ℕ → Type 0
ArePowers first powers = (k : ℕ) → k < length powers → slice_index powers k ≡ power 2 (first + k)

-- ---- Polynomials over the field of 256 elements, as lists of their coefficients, and sound blocks: the words of the
-- Reed-Solomon code of ISO/IEC 16022:2006, Annex E, whose generator polynomial has the roots 2^1 .. 2^c.

-- the value at x of the polynomial with these coefficients, the highest power first
unfoldable pub value : List ℕ → ℕ → ℕ
value [] x = 0
value (c ∷ cs) x = bit_xor (product c (power x (length cs))) (value cs x)

-- a sound block with c error correction codewords: the polynomial, highest power first, vanishes at 2^1 .. 2^c
abbrev pub IsSoundBlock : ℕ → List ℕ → Type 0
IsSoundBlock c w = (k : ℕ) → 1 ≤ k → k ≤ c → value w (power 2 k) ≡ 0

-- the number of places where two lists of one length differ
unfoldable pub differ : List ℕ → List ℕ → ℕ
differ [] ys = 0
differ (x ∷ xs) [] = 0
differ (x ∷ xs) (y ∷ ys) = cond (x == y) 0 1 + differ xs ys

-- the sum of two words, place by place
unfoldable pub sum_word : List ℕ → List ℕ → List ℕ
sum_word [] ys = []
sum_word (x ∷ xs) [] = []
sum_word (x ∷ xs) (y ∷ ys) = bit_xor x y ∷ sum_word xs ys

-- the first word plus f times the second, place by place
unfoldable pub add_scaled : ℕ → List ℕ → List ℕ → List ℕ
add_scaled f [] ss = []
add_scaled f (t ∷ ts) [] = t ∷ ts
add_scaled f (t ∷ ts) (s ∷ ss) = bit_xor t (product f s) ∷ add_scaled f ts ss
