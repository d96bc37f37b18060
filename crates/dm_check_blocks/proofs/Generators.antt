-- The coefficients of the generator polynomial, root by root.
use Rattle.std.proofs.Common.{◌≡◌, ℕ, zero, suc, ◌+◌, ◌-◌, ◌<◌, refl, sym, ◌∙◌, ap, arith, List, [], ◌∷◌, ◌++◌, length, get_or, take, drop, length-append, add-one, length-take, length-drop, replicate}
use Rattle.std.specs.Int.Bits.{bit_xor}
use Rattle.dm_gf256.specs.Field.{product, value, add_scaled}
use Rattle.std.proofs.lemmas.List.{take_more, take_at, get_or-append_right, get_or-drop}
use borrow.Rule.Slice.PartMut.{put_mid, post_of}
use Rattle.dm_gf256.proofs.Divide.{length-add_scaled, value-times_root}

-- the product with one root more, as the generator's array holds it, has the product's values
next_value : (h k r : ℕ) (rest ys more : List ℕ) → k < length rest → get_or rest k 0 ≡ 0 →
    ys ≡ add_scaled r (take (suc k) rest) (h ∷ take k rest) → (x : ℕ) →
    value (h ∷ take (suc k) (ys ++ more)) x ≡ product (bit_xor x r) (value (h ∷ take k rest) x)
next_value h k r rest ys more l z e x =
    let gs = take k rest in
    let split : take (suc k) rest ≡ gs ++ 0 ∷ [] = ap (λ n. take n rest) (sym (add-one k)) ∙ take_more rest k 0 l ∙
    ap (λ t. gs ++ t ∷ []) z in
    let is : ys ≡ add_scaled r (gs ++ 0 ∷ []) (h ∷ gs) = e ∙ ap (λ t. add_scaled r t (h ∷ gs)) split in
    let long : length ys ≡ suc k = ap length is ∙ length-add_scaled r (gs ++ 0 ∷ []) (h ∷ gs) ∙ ap length (sym split) ∙
    (let q : length (take (suc k) rest) ≡ suc k = simp length-take (omega arith) in q) in
    ap (λ t. value (h ∷ t) x) (take_at ys more (suc k) long ∙ is) ∙ value-times_root h gs r x

-- one step of `coefficients_of`: the array holds the polynomial with one root more
pub next_generator : (arr ys : List ℕ) (k r : ℕ) → length arr ≡ 69 → k < 68 → ((j : ℕ) → k < j → get_or arr j 0 ≡ 0) →
    ys ≡ add_scaled r (take (k + 2 - 1) (drop 1 arr)) (take (k + 1) arr) → (x : ℕ) →
    value (take (k + 1 + 1) (put_mid 1 (k + 2 - 1) arr ys)) x ≡ product (bit_xor x r) (value (take (k + 1) arr) x)
next_generator [] ys k r e l z a x = absurd (omega arith)
next_generator (h ∷ rest) ys k r e l z a x =
    let p : k + 2 - 1 ≡ suc k = omega arith in
    let q : k + 1 + 1 ≡ suc (suc k) = omega arith in
    let a2 : ys ≡ add_scaled r (take (suc k) rest) (h ∷ take k rest) =
    a ∙ ap (λ n. add_scaled r (take n rest) (take (k + 1) (h ∷ rest))) p ∙
    ap (λ n. add_scaled r (take (suc k) rest) (take n (h ∷ rest))) (add-one k) in
    ap (λ n. value (take n (put_mid 1 (k + 2 - 1) (h ∷ rest) ys)) x) q
    ∙ next_value h k r rest ys (post_of 1 (k + 2 - 1) (h ∷ rest)) (omega arith) (z (suc k) (omega arith)) a2 x
    ∙ ap (λ n. product (bit_xor x r) (value (take n (h ∷ rest)) x)) (sym (add-one k))

-- past the new coefficient the generator's array still holds zeros
pub next_zeros : (arr ys : List ℕ) (k : ℕ) → length arr ≡ 69 → k < 68 → length ys ≡ k + 1 →
    ((j : ℕ) → k < j → get_or arr j 0 ≡ 0) →
    (j : ℕ) → k + 1 < j → get_or (put_mid 1 (k + 2 - 1) arr ys) j 0 ≡ 0
next_zeros arr ys k e l m z j h =
    let one : length (take 1 arr) ≡ 1 = simp length-take (omega arith) in
    let tail = drop (k + 2 - 1) (drop 1 arr) in
    get_or-append_right (take 1 arr) (ys ++ tail) 1 j 0 one (omega arith)
    ∙ get_or-append_right ys tail (k + 1) (j - 1) 0 m (omega arith)
    ∙ get_or-drop (k + 2 - 1) (drop 1 arr) (j - 1 - (k + 1)) 0
    ∙ get_or-drop 1 arr (k + 2 - 1 + (j - 1 - (k + 1))) 0
    ∙ z (1 + (k + 2 - 1 + (j - 1 - (k + 1)))) (omega arith)

-- the first array is zero after its leading 1
pub first_zeros : (n j : ℕ) → 0 < j → let ones : List ℕ = 1 ∷ replicate n 0 in get_or ones j 0 ≡ 0
first_zeros n zero h = absurd (omega arith)
first_zeros zero (suc j) h = refl
first_zeros (suc n) (suc zero) h = refl
first_zeros (suc n) (suc (suc j)) h = first_zeros n (suc j) (omega arith)

-- the array keeps its length
pub next_size : (arr ys : List ℕ) (k : ℕ) → length arr ≡ 69 → k < 68 → length ys ≡ k + 1 →
    length (put_mid 1 (k + 2 - 1) arr ys) ≡ 69
next_size arr ys k e l m = simp (length-append, length-take, length-drop) (omega arith)

-- the array keeps its leading coefficient
pub next_first : (arr ys : List ℕ) (k : ℕ) → 0 < length arr → get_or (put_mid 1 (k + 2 - 1) arr ys) 0 0 ≡ get_or arr 0 0
next_first [] ys k l = absurd (omega arith)
next_first (h ∷ rest) ys k l = refl
