-- Division by a polynomial, by its value at a root.
use Rattle.std.proofs.Common.{◌≡◌, ℕ, zero, suc, ◌<◌, refl, sym, ◌∙◌, ap, arith, List, [], ◌∷◌, ◌++◌, length, length-append, get_or}
use Rattle.std.specs.Int.Bits.{bit_xor, xor_assoc, xor_zero_r, xor_self}
use Rattle.std.proofs.lemmas.Nat.{xor_comm}
use Rattle.dm_gf256.specs.Field.{product, power, value, add_scaled}
use Rattle.dm_gf256.proofs.{Linear.product-xor_r, Linear.product-xor_l, Linear.xor_interchange, LoopSteps.value-push}
use Rattle.dm_gf256.proofs.Ring.{product_comm, product_assoc, product-zero_l, product-zero_r, one-product, power_byte, power-add}

-- adding a multiple keeps the length
pub length-add_scaled : (f : ℕ) (ts ss : List ℕ) → length (add_scaled f ts ss) ≡ length ts
unfolding add_scaled
length-add_scaled f [] ss = refl
length-add_scaled f (t ∷ ts) [] = refl
length-add_scaled f (t ∷ ts) (s ∷ ss) = ap suc (length-add_scaled f ts ss)

-- the value of a sum of multiples is the sum of the values' multiples
pub value-add_scaled : (f : ℕ) (ts ss : List ℕ) (x : ℕ) → length ts ≡ length ss →
    value (add_scaled f ts ss) x ≡ bit_xor (value ts x) (product f (value ss x))
unfolding add_scaled value
value-add_scaled f [] [] x e = sym (product-zero_r f)
value-add_scaled f [] (s ∷ ss) x e = absurd (omega arith)
value-add_scaled f (t ∷ ts) [] x e = absurd (omega arith)
value-add_scaled f (t ∷ ts) (s ∷ ss) x e =
    let l : length ts ≡ length ss = omega arith in
    let p = power x (length ts) in
    ap (λ n. bit_xor (product (bit_xor t (product f s)) (power x n)) (value (add_scaled f ts ss) x))
    (length-add_scaled f ts ss)
    ∙ ap (λ v. bit_xor v (value (add_scaled f ts ss) x)) (product-xor_l t (product f s) p)
    ∙ ap (bit_xor (bit_xor (product t p) (product (product f s) p))) (value-add_scaled f ts ss x l)
    ∙ xor_interchange (product t p) (product (product f s) p) (value ts x) (product f (value ss x))
    ∙ ap (bit_xor (bit_xor (product t p) (value ts x)))
    (ap (λ v. bit_xor v (product f (value ss x))) (product_assoc f s p ∙ ap (λ n. product f (product s (power x n))) l)
    ∙ sym (product-xor_r f (product s (power x (length ss))) (value ss x)))

-- the value of two lists joined: the first is shifted by the second's length
pub value-append : (xs ys : List ℕ) (x : ℕ) → x < 256 →
    value (xs ++ ys) x ≡ bit_xor (product (value xs x) (power x (length ys))) (value ys x)
unfolding value
value-append [] ys x h = sym (ap (λ t. bit_xor t (value ys x)) (product-zero_l _))
value-append (c ∷ cs) ys x h =
    let n = length cs in let m = length ys in
    ap (λ k. bit_xor (product c (power x k)) (value (cs ++ ys) x)) (length-append cs ys)
    ∙ ap (λ t. bit_xor (product c t) (value (cs ++ ys) x)) (power-add x n m h)
    ∙ ap (bit_xor (product c (product (power x n) (power x m)))) (value-append cs ys x h)
    ∙ sym (xor_assoc (product c (product (power x n) (power x m))) (product (value cs x) (power x m)) (value ys x))
    ∙ ap (λ t. bit_xor t (value ys x))
    (ap (λ t. bit_xor t (product (value cs x) (power x m))) (sym (product_assoc c (power x n) (power x m)))
    ∙ sym (product-xor_l (product c (power x n)) (value cs x) (power x m)))

-- a + b = 0 gives b = a
pub xor_solve : (a b : ℕ) → bit_xor a b ≡ 0 → b ≡ a
xor_solve a b e = ap (λ t. bit_xor t b) (sym (xor_self a)) ∙ xor_assoc a a b ∙ ap (bit_xor a) e ∙ xor_zero_r a

-- (x + r) times the polynomial h, gs
pub value-times_root : (h : ℕ) (gs : List ℕ) (r x : ℕ) →
    value (h ∷ add_scaled r (gs ++ 0 ∷ []) (h ∷ gs)) x ≡ product (bit_xor x r) (value (h ∷ gs) x)
unfolding value power
value-times_root h gs r x =
    let n = length gs in
    let ln : length (gs ++ 0 ∷ []) ≡ suc n = simp length-append (omega arith) in
    let v : value (gs ++ 0 ∷ []) x ≡ product x (value gs x) = value-push gs 0 x (omega arith) ∙ xor_zero_r _ ∙
    product_comm _ x in
    ap (λ k. bit_xor (product h (power x k)) (value (add_scaled r (gs ++ 0 ∷ []) (h ∷ gs)) x))
    (length-add_scaled r (gs ++ 0 ∷ []) (h ∷ gs) ∙ ln)
    ∙ ap (bit_xor (product h (product x (power x n)))) (value-add_scaled r (gs ++ 0 ∷ []) (h ∷ gs) x ln)
    ∙ sym (xor_assoc (product h (product x (power x n))) (value (gs ++ 0 ∷ []) x) (product r (value (h ∷ gs) x)))
    ∙ ap (λ t. bit_xor t (product r (value (h ∷ gs) x)))
    (ap (bit_xor (product h (product x (power x n)))) v
    ∙ ap (λ t. bit_xor t (product x (value gs x))) (sym (product_assoc h x (power x n)) ∙
    ap (λ t. product t (power x n)) (product_comm h x) ∙ product_assoc x h (power x n))
    ∙ sym (product-xor_r x (product h (power x n)) (value gs x)))
    ∙ sym (product-xor_l x r (value (h ∷ gs) x))

-- one word u more: r, rs become rs, 0 plus u + r times the generator polynomial 1, gs, of which x is a root
pub value-divide_step : (r : ℕ) (rs gs : List ℕ) (u x : ℕ) → length (r ∷ rs) ≡ length gs → x < 256 →
    value (1 ∷ gs) x ≡ 0 →
    value (add_scaled (bit_xor u r) (rs ++ 0 ∷ []) gs) x ≡ bit_xor (product x (value (r ∷ rs) x))
    (product u (power x (length gs)))
unfolding value power
value-divide_step r rs gs u x e h z =
    let n = length rs in
    let ln : length (rs ++ 0 ∷ []) ≡ length gs = simp length-append (omega arith) in
    let p = power x (length gs) in
    let root : value gs x ≡ p = xor_solve (product 1 p) (value gs x) z ∙ one-product p (power_byte x (length gs) h) in
    let v : value (rs ++ 0 ∷ []) x ≡ product x (value rs x) = value-push rs 0 x (omega arith) ∙ xor_zero_r _ ∙
    product_comm _ x in
    let top : product r p ≡ product x (product r (power x n)) =
    ap (λ k. product r (power x k)) (sym e) ∙ sym (product_assoc r x (power x n)) ∙
    ap (λ t. product t (power x n)) (product_comm r x) ∙ product_assoc x r (power x n) in
    value-add_scaled (bit_xor u r) (rs ++ 0 ∷ []) gs x ln
    ∙ ap (λ t. bit_xor t (product (bit_xor u r) (value gs x))) v
    ∙ ap (bit_xor (product x (value rs x))) (ap (product (bit_xor u r)) root ∙ product-xor_l u r p ∙
    xor_comm (product u p) (product r p))
    ∙ sym (xor_assoc (product x (value rs x)) (product r p) (product u p))
    ∙ ap (λ t. bit_xor t (product u p))
    (xor_comm (product x (value rs x)) (product r p) ∙ ap (λ t. bit_xor t (product x (value rs x))) top ∙
    sym (product-xor_r x (product r (power x n)) (value rs x)))

-- a sum of multiples, place by place
pub get_or-add_scaled : (f : ℕ) (ts ss : List ℕ) (k : ℕ) → length ts ≡ length ss →
    get_or (add_scaled f ts ss) k 0 ≡ bit_xor (get_or ts k 0) (product f (get_or ss k 0))
unfolding add_scaled
get_or-add_scaled f [] [] k e = sym (product-zero_r f)
get_or-add_scaled f [] (s ∷ ss) k e = absurd (omega arith)
get_or-add_scaled f (t ∷ ts) [] k e = absurd (omega arith)
get_or-add_scaled f (t ∷ ts) (s ∷ ss) zero e = refl
get_or-add_scaled f (t ∷ ts) (s ∷ ss) (suc k) e = get_or-add_scaled f ts ss k (omega arith)

-- a list that is the sum of multiples at each place is that sum
pub add_scaled_by_places : (f : ℕ) (xs ts ss : List ℕ) → length xs ≡ length ts → length ts ≡ length ss →
    ((k : ℕ) → k < length ts → get_or xs k 0 ≡ bit_xor (get_or ts k 0) (product f (get_or ss k 0))) →
    xs ≡ add_scaled f ts ss
unfolding add_scaled
add_scaled_by_places f [] [] ss d e h = refl
add_scaled_by_places f [] (t ∷ ts) ss d e h = absurd (omega arith)
add_scaled_by_places f (x ∷ xs) [] ss d e h = absurd (omega arith)
add_scaled_by_places f (x ∷ xs) (t ∷ ts) [] d e h = absurd (omega arith)
add_scaled_by_places f (x ∷ xs) (t ∷ ts) (s ∷ ss) d e h =
    let first : x ≡ bit_xor t (product f s) = h 0 (omega arith) in
    let others : xs ≡ add_scaled f ts ss = add_scaled_by_places f xs ts ss (omega arith) (omega arith)
    (λ k l. h (suc k) (omega arith)) in
    cc
