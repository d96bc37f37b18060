-- Two sound blocks of one length that differ in at most c places are equal.
use Rattle.std.proofs.Common.{◌≡◌, ℕ, suc, ◌+◌, ◌<◌, ◌≤◌, true, false, cond, eqb, refl, sym, ◌∙◌, ap, arith, List, [], ◌∷◌, length, eqb-true, eq-eqb, ⊎_elim, get_or}
use Rattle.std.proofs.lemmas.{Bool.cases_Bool, Bool.Decides.nat_tests, Nat.xor_lt}
use Rattle.std.specs.Bool.{◌==◌}
use Rattle.std.specs.Int.Bits.{bit_xor, xor_self}
use Rattle.dm_gf256.specs.Field.{product, power, value, differ, sum_word, IsSoundBlock}
use Rattle.dm_gf256.proofs.{Divide.xor_solve, Linear.product-xor_l, Linear.xor_interchange}
use Rattle.dm_gf256.proofs.Vanish.{value-moment, nonzeros, mark, Bytes, Zeros, vanish, mark_le}

-- the sum of two words of one length has that length
pub length-sum_word : (xs ys : List ℕ) → length xs ≡ length ys → length (sum_word xs ys) ≡ length xs
unfolding sum_word
length-sum_word [] ys e = refl
length-sum_word (x ∷ xs) [] e = absurd (omega arith)
length-sum_word (x ∷ xs) (y ∷ ys) e = ap suc (length-sum_word xs ys (omega arith))

-- the value of a sum is the sum of the values
pub value-sum_word : (xs ys : List ℕ) (x : ℕ) → length xs ≡ length ys →
    value (sum_word xs ys) x ≡ bit_xor (value xs x) (value ys x)
unfolding sum_word value
value-sum_word [] [] z e = refl
value-sum_word [] (y ∷ ys) z e = absurd (omega arith)
value-sum_word (x ∷ xs) [] z e = absurd (omega arith)
value-sum_word (x ∷ xs) (y ∷ ys) z e =
    let l : length xs ≡ length ys = omega arith in
    let p = power z (length xs) in
    ap (λ n. bit_xor (product (bit_xor x y) (power z n)) (value (sum_word xs ys) z)) (length-sum_word xs ys l)
    ∙ ap (λ t. bit_xor t (value (sum_word xs ys) z)) (product-xor_l x y p)
    ∙ ap (bit_xor (bit_xor (product x p) (product y p))) (value-sum_word xs ys z l)
    ∙ xor_interchange (product x p) (product y p) (value xs z) (value ys z)
    ∙ ap (λ n. bit_xor (bit_xor (product x p) (value xs z)) (bit_xor (product y (power z n)) (value ys z))) l

-- the sum of two words of bytes is bytes
pub bytes-sum_word : (xs ys : List ℕ) → Bytes xs → Bytes ys → Bytes (sum_word xs ys)
unfolding sum_word
bytes-sum_word [] ys p q = tt
bytes-sum_word (x ∷ xs) [] p q = tt
bytes-sum_word (x ∷ xs) (y ∷ ys) p q = (xor_lt 8 x y (p.0) (q.0), bytes-sum_word xs ys (p.1) (q.1))

-- the sum of two elements isn't zero only where they differ
mark-xor : (x y : ℕ) → mark (bit_xor x y) ≤ cond (eqb x y) 0 1
unfolding mark
mark-xor x y =
    ⊎_elim (λ (e : eqb x y ≡ true). let z : bit_xor x y ≡ 0 = ap (λ t. bit_xor t y) (eqb-true x y e) ∙ xor_self y in
    rw z (omega arith))
    (λ (e : eqb x y ≡ false). rw e (mark_le (bit_xor x y)))
    (cases_Bool (eqb x y))

-- x differs from z only where x differs from y or y from z
apart_triangle : (x y z : ℕ) → cond (x == z) 0 1 ≤ cond (x == y) 0 1 + cond (y == z) 0 1
apart_triangle x y z = grind (arith, nat_tests)

-- 1 where two elements differ, else 0
abbrev apart : ℕ → ℕ → ℕ
apart x y = cond (x == y) 0 1

-- differing is symmetric
apart_comm : (x y : ℕ) → apart x y ≡ apart y x
apart_comm x y = grind (arith, nat_tests)

-- the sum of two words isn't zero at no more places than they differ at
pub nonzeros-sum_word : (xs ys : List ℕ) → nonzeros (sum_word xs ys) ≤ differ xs ys
unfolding sum_word nonzeros differ
nonzeros-sum_word [] ys = omega arith
nonzeros-sum_word (x ∷ xs) [] = omega arith
nonzeros-sum_word (x ∷ xs) (y ∷ ys) = omega (arith, nonzeros-sum_word xs ys, mark-xor x y)

-- two words whose sum is zero are equal
pub same_from_zeros : (xs ys : List ℕ) → length xs ≡ length ys → Zeros (sum_word xs ys) → xs ≡ ys
unfolding sum_word
same_from_zeros [] [] e z = refl
same_from_zeros [] (y ∷ ys) e z = absurd (omega arith)
same_from_zeros (x ∷ xs) [] e z = absurd (omega arith)
same_from_zeros (x ∷ xs) (y ∷ ys) e z =
    let h : x ≡ y = sym (xor_solve x y (z.0)) in
    let t = same_from_zeros xs ys (omega arith) (z.1) in cc

-- two sound blocks of one length that differ in at most c places are equal
pub one_block_word : (c : ℕ) (a b : List ℕ) → length a ≡ length b → length a ≤ 255 → Bytes a → Bytes b →
    IsSoundBlock c a → IsSoundBlock c b → differ a b ≤ c → a ≡ b
one_block_word c a b e l p q u v d =
    let w = sum_word a b in
    let le : length w ≡ length a = length-sum_word a b e in
    same_from_zeros a b e
    (vanish (length w) c w refl (omega arith) (bytes-sum_word a b p q) (omega (arith, nonzeros-sum_word a b))
    (λ k h. sym (value-moment w (suc k)) ∙ value-sum_word a b (power 2 (suc k)) e
    ∙ ap (λ t. bit_xor t (value b (power 2 (suc k)))) (u (suc k) (omega arith) (omega arith)) ∙
    v (suc k) (omega arith) (omega arith)))

-- ---- differ is a distance
pub differ-self : (a : List ℕ) → differ a a ≡ 0
unfolding differ
differ-self [] = refl
differ-self (x ∷ xs) = rw (eq-eqb x x refl, differ-self xs) refl

-- the triangle inequality of the number of differing places
pub differ_triangle : (a b c : List ℕ) → length a ≡ length b → length b ≡ length c →
    differ a c ≤ differ a b + differ b c
unfolding differ
differ_triangle [] b c p q = omega arith
differ_triangle (x ∷ xs) [] c p q = absurd (omega arith)
differ_triangle (x ∷ xs) (y ∷ ys) [] p q = absurd (omega arith)
differ_triangle (x ∷ xs) (y ∷ ys) (z ∷ zs) p q =
    omega (arith, apart_triangle x y z, differ_triangle xs ys zs (omega arith) (omega arith))

-- the number of differing places is symmetric
pub differ_comm : (a b : List ℕ) → length a ≡ length b → differ a b ≡ differ b a
unfolding differ
differ_comm [] [] p = refl
differ_comm [] (y ∷ ys) p = absurd (omega arith)
differ_comm (x ∷ xs) [] p = absurd (omega arith)
differ_comm (x ∷ xs) (y ∷ ys) p = omega (arith, apart_comm x y, differ_comm xs ys (omega arith))

-- a list whose places are bytes is bytes
pub bytes_from_places : (xs : List ℕ) → ((i : ℕ) → get_or xs i 0 < 256) → Bytes xs
bytes_from_places [] h = tt
bytes_from_places (x ∷ xs) h = (h 0, bytes_from_places xs (λ i. h (suc i)))
