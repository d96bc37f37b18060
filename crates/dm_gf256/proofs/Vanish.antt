-- A word with at most c places that are not zero, whose sums vanish at 2^1 .. 2^c, is zero.
use Rattle.std.proofs.Common.{◌≡◌, ◌≢◌, ℕ, zero, suc, ◌+◌, ◌*◌, ◌<◌, ◌≤◌, refl, sym, ◌∙◌, ap, arith, List, [], ◌∷◌, length, mul-zero}
use Rattle.std.proofs.{Common.⊎_elim, lemmas.Bool.cases_lt, lemmas.Nat.xor_lt}
use Rattle.std.specs.List.{AllByRecursion}
use Rattle.std.specs.Int.Bits.{bit_xor, xor_assoc, xor_zero_l, xor_zero_r, xor_self}
use Rattle.dm_gf256.specs.Field.{product, power, value}
use Rattle.dm_gf256.proofs.Linear.{product-xor_r, product-xor_l, xor_interchange}
use Rattle.dm_gf256.proofs.Ring.{product_comm, product_assoc, product_byte, product-zero_l, product-zero_r, one-product, product_zero, power_byte, power-add, power_two_pos, power_two_distinct}

-- the position value of the head of a word with this tail: 2 to the number of places after it
abbrev pub position_value : List ℕ → ℕ
position_value ys = power 2 (length ys)

-- the sum over the places: the word's element there, times the position value to the k-th power
unfoldable pub moment : List ℕ → ℕ → ℕ
moment [] k = 0
moment (y ∷ ys) k = bit_xor (product y (power (position_value ys) k)) (moment ys k)

-- each element times f of its position value
unfoldable pub weigh : (ℕ → ℕ) → List ℕ → List ℕ
weigh f [] = []
weigh f (y ∷ ys) = product y (f (position_value ys)) ∷ weigh f ys

-- weighing keeps the length
pub length-weigh : (f : ℕ → ℕ) (ys : List ℕ) → length (weigh f ys) ≡ length ys
unfolding weigh
length-weigh f [] = refl
length-weigh f (y ∷ ys) = ap suc (length-weigh f ys)

-- 0 at 0, else 1
unfoldable pub mark : ℕ → ℕ
mark zero = 0
mark (suc n) = 1

-- the number of places that aren't zero
unfoldable pub nonzeros : List ℕ → ℕ
nonzeros [] = 0
nonzeros (y ∷ ys) = mark y + nonzeros ys

-- a mark is 0 or 1
pub mark_le : (n : ℕ) → mark n ≤ 1
unfolding mark
mark_le zero = omega arith
mark_le (suc n) = omega arith

-- a product isn't zero only where its first factor isn't
mark_product : (a b : ℕ) → mark (product a b) ≤ mark a
unfolding mark
mark_product zero b = rw (product-zero_l b) (omega arith)
mark_product (suc a) b = mark_le (product (suc a) b)

-- weighing makes no zero other than zero
pub nonzeros-weigh : (f : ℕ → ℕ) (ys : List ℕ) → nonzeros (weigh f ys) ≤ nonzeros ys
unfolding nonzeros weigh
nonzeros-weigh f [] = omega arith
nonzeros-weigh f (y ∷ ys) = omega (arith, nonzeros-weigh f ys, mark_product y (f (position_value ys)))

-- all entries are bytes
abbrev pub Bytes : List ℕ → Type 0
Bytes ys = AllByRecursion (λ y. y < 256) ys

-- all entries are zero
abbrev pub Zeros : List ℕ → Type 0
Zeros ys = AllByRecursion (λ y. y ≡ 0) ys

-- weighed words are bytes
pub bytes-weigh : (f : ℕ → ℕ) (ys : List ℕ) → Bytes (weigh f ys)
unfolding weigh
bytes-weigh f [] = tt
bytes-weigh f (y ∷ ys) = (product_byte y _, bytes-weigh f ys)

-- ---- a value at 2^k is the k-th moment
-- (2^i)^k = 2^(i k)
pub power-two : (i k : ℕ) → power (power 2 i) k ≡ power 2 (i * k)
unfolding power
power-two i zero = rw (mul-zero i) refl
power-two i (suc k) =
    ap (product (power 2 i)) (power-two i k) ∙ sym (power-add 2 i (i * k) (omega arith))
    ∙ ap (power 2) (let e : i + i * k ≡ i * suc k = omega arith in e)

-- the value at 2^k is the sum of the entries, each times its position's value to the power k
pub value-moment : (ys : List ℕ) (k : ℕ) → value ys (power 2 k) ≡ moment ys k
unfolding value moment
value-moment [] k = refl
value-moment (y ∷ ys) k =
    let n = length ys in
    let e : k * n ≡ n * k = omega arith in
    ap (λ t. bit_xor (product y t) (value ys (power 2 k))) (power-two k n ∙ ap (power 2) e ∙ sym (power-two n k))
    ∙ ap (λ t. bit_xor (product y (power (power 2 n) k)) t) (value-moment ys k)

-- ---- weighing with X + x takes the moments S(k) to S(k+1) + x S(k)
pub moment-weigh_shift : (x : ℕ) (ys : List ℕ) (k : ℕ) →
    moment (weigh (λ t. bit_xor t x) ys) k ≡ bit_xor (moment ys (suc k)) (product x (moment ys k))
unfolding moment weigh power
moment-weigh_shift x [] k = sym (product-zero_r x)
moment-weigh_shift x (y ∷ ys) k =
    let L = position_value ys in let P = power L k in let A = product y (power L (suc k)) in
    let e : power (position_value (weigh (λ t. bit_xor t x) ys)) k ≡ P =
    ap (λ n. power (power 2 n) k) (length-weigh (λ t. bit_xor t x) ys) in
    let B : product y (product x P) ≡ product x (product y P) = sym (product_assoc y x P) ∙
    ap (λ t. product t P) (product_comm y x) ∙ product_assoc x y P in
    let head : product (product y (bit_xor L x)) P ≡ bit_xor A (product x (product y P)) =
    product_assoc y (bit_xor L x) P ∙ ap (product y) (product-xor_l L x P) ∙ product-xor_r y _ _ ∙ ap (bit_xor A) B in
    ap (λ t. bit_xor (product (product y (bit_xor L x)) t) (moment (weigh (λ t. bit_xor t x) ys) k)) e
    ∙ ap (λ t. bit_xor t (moment (weigh (λ t. bit_xor t x) ys) k)) head
    ∙ ap (bit_xor (bit_xor A (product x (product y P)))) (moment-weigh_shift x ys k)
    ∙ xor_interchange A (product x (product y P)) (moment ys (suc k)) (product x (moment ys k))
    ∙ ap (bit_xor (bit_xor A (moment ys (suc k)))) (sym (product-xor_r x (product y P) (moment ys k)))

-- the sum of two different elements isn't zero
pub xor_apart : (a b : ℕ) → a ≢ b → 0 < bit_xor a b
xor_apart a b h =
    ⊎_elim (λ (e : 0 < bit_xor a b). e)
    (λ (e : bit_xor a b ≤ 0).
    let z : bit_xor a b ≡ 0 = omega arith in
    absurd (h (sym (xor_zero_r a) ∙ ap (bit_xor a) (sym (xor_self b)) ∙ sym (xor_assoc a b b) ∙
    ap (λ t. bit_xor t b) z ∙ xor_zero_l b)))
    (cases_lt 0 (bit_xor a b))

-- a word whose multiples by nonzero factors are zero is zero
zeros-unweigh : (x : ℕ) (ys : List ℕ) → x < 256 → Bytes ys → ((j : ℕ) → j < length ys → 0 < bit_xor (power 2 j) x) →
    Zeros (weigh (λ t. bit_xor t x) ys) → Zeros ys
unfolding weigh
zeros-unweigh x [] xl b h z = tt
zeros-unweigh x (y ∷ ys) xl b h z =
    let w : product (bit_xor (position_value ys) x) y ≡ 0 = product_comm _ y ∙ z.0 in (
      product_zero (bit_xor (position_value ys) x) y (h (length ys) (omega arith))
          (xor_lt 8 _ _ (power_byte 2 (length ys) (omega arith)) xl) (b.0) w,
      zeros-unweigh x ys xl (b.1) (λ j p. h j (omega arith)) (z.1),
    )

-- the sums of a zero word are zero
pub moment-zeros : (ys : List ℕ) (k : ℕ) → Zeros ys → moment ys k ≡ 0
unfolding moment
moment-zeros [] k z = refl
moment-zeros (y ∷ ys) k z =
    ap (λ t. bit_xor (product t (power (position_value ys) k)) (moment ys k)) (z.0)
    ∙ ap (λ t. bit_xor t (moment ys k)) (product-zero_l _) ∙ moment-zeros ys k (z.1)

-- n is the length, for the recursion
pub vanish : (n c : ℕ) (ys : List ℕ) → length ys ≡ n → n ≤ 255 → Bytes ys → nonzeros ys ≤ c →
    ((k : ℕ) → k < c → moment ys (suc k) ≡ 0) → Zeros ys
unfolding nonzeros mark moment weigh power
vanish zero c [] e l b h s = tt
vanish zero c (y ∷ ys) e l b h s = absurd (omega arith)
vanish (suc n) c [] e l b h s = tt
vanish (suc n) c (zero ∷ ys) e l b h s = (
  refl,
  vanish n c ys (omega arith) (omega arith) (b.1) (omega arith)
      (λ k p. ap (λ t. bit_xor t (moment ys (suc k))) (sym (product-zero_l _)) ∙ s k p),
)
vanish (suc n) zero (suc m ∷ ys) e l b h s = absurd (omega arith)
vanish (suc n) (suc c) (suc m ∷ ys) e l b h s =
    let x = position_value ys in
    let ws = weigh (λ t. bit_xor t x) ys in
    let sums : (k : ℕ) → k < c → moment ws (suc k) ≡ 0 = λ k p.
    let whole : moment (weigh (λ t. bit_xor t x) (suc m ∷ ys)) (suc k) ≡ 0 =
    moment-weigh_shift x (suc m ∷ ys) (suc k) ∙ ap (λ t. bit_xor t (product x (moment (suc m ∷ ys) (suc k))))
    (s (suc k) (omega arith))
    ∙ ap (product x) (s k (omega arith)) ∙ product-zero_r x in
    let P = power (position_value ws) (suc k) in
    let head : product (product (suc m) (bit_xor x x)) P ≡ 0 =
    ap (λ t. product (product (suc m) t) P) (xor_self x) ∙ ap (λ t. product t P) (product-zero_r (suc m)) ∙
    product-zero_l P in
    sym (ap (λ t. bit_xor t (moment ws (suc k))) head) ∙ whole in
    let zs : Zeros ws = vanish n c ws (length-weigh (λ t. bit_xor t x) ys ∙
    (let e : length ys ≡ n = omega arith in e)) (omega arith) (bytes-weigh (λ t. bit_xor t x) ys)
    (omega (arith, nonzeros-weigh (λ t. bit_xor t x) ys)) sums in
    let rest : Zeros ys = zeros-unweigh x ys (power_byte 2 _ (omega arith))
    (b.1) (λ j p. xor_apart _ _ (power_two_distinct j (length ys) p (omega arith))) zs in
    let x_byte : x < 256 = power_byte 2 _ (omega arith) in
    let one : product (suc m) (power x 1) ≡ 0 =
    sym (xor_zero_r _) ∙ ap (bit_xor (product (suc m) (power x 1))) (sym (moment-zeros ys 1 rest)) ∙
    s 0 (omega arith) in
    let is_x : power x 1 ≡ x = product_comm x 1 ∙ one-product x x_byte in
    let none : product x (suc m) ≡ 0 = product_comm x (suc m) ∙ sym (ap (product (suc m)) is_x) ∙ one in
    (product_zero x (suc m) (power_two_pos (length ys) (omega arith)) x_byte (b.0) none, rest)
