-- The remainder of a message by the generator polynomial, by its value at a root.
use Rattle.std.proofs.Common.{◌≡◌, ℕ, suc, ◌+◌, ◌-◌, ◌<◌, ◌≤◌, refl, sym, ◌∙◌, ap, arith, List, [], ◌∷◌, ◌++◌, length, get_or, set, take, drop}
use Rattle.std.specs.Int.Bits.{bit_xor, xor_self}
use Rattle.dm_gf256.specs.Field.{product, power, value, add_scaled}
use Rattle.std.proofs.lemmas.List.{set_at, take_more, take_all}
use Rattle.dm_gf256.proofs.{Linear.product-xor_l, Ring.product_assoc, Ring.product_comm, Ring.product-zero_l, Ring.power_byte, LoopSteps.value-push, Divide.value-divide_step, Divide.value-append}

-- one step of the division, by its values at the generator polynomial's roots
pub step_value : (old gs : List ℕ) (u n x : ℕ) → 0 < length old → length old ≡ length gs → n ≡ length old - 1 →
    x < 256 → value (1 ∷ gs) x ≡ 0 →
    value (add_scaled (bit_xor u (get_or old 0 0)) (set (drop 1 old ++ take 1 old) n 0) gs) x ≡ bit_xor (product x
    (value old x)) (product u (power x (length gs)))
step_value x0 gs u n x p e m h z = grind (arith, set_at, value-divide_step)

-- a polynomial with zero coefficients has the value 0
pub zeros_value : (cs : List ℕ) (x : ℕ) → ((k : ℕ) → k < length cs → get_or cs k 0 ≡ 0) → value cs x ≡ 0
unfolding value
zeros_value [] x h = refl
zeros_value (c ∷ cs) x h =
    ap (λ t. bit_xor (product t (power x (length cs))) (value cs x)) (h 0 (omega arith))
    ∙ ap (λ t. bit_xor t (value cs x)) (product-zero_l _) ∙ zeros_value cs x (λ k l. h (suc k) (omega arith))

-- one codeword u more of the message
pub next_word : (message : List ℕ) (i x n s t : ℕ) → i < length message → get_or message i 0 < 256 →
    s ≡ product (value (take i message) x) (power x n) →
    t ≡ bit_xor (product x s) (product (get_or message i 0) (power x n)) →
    t ≡ product (value (take (i + 1) message) x) (power x n)
next_word message i x n s t l b h e =
    let u = get_or message i 0 in let v = value (take i message) x in let p = power x n in
    let more : value (take (i + 1) message) x ≡ bit_xor (product v x) u =
    ap (λ w. value w x) (take_more message i 0 l) ∙ value-push (take i message) u x b in
    e ∙ ap (λ w. bit_xor (product x w) (product u p)) h
    ∙ ap (λ w. bit_xor w (product u p)) (sym (product_assoc x v p) ∙ ap (λ w. product w p) (product_comm x v))
    ∙ sym (product-xor_l (product v x) u p) ∙ ap (λ w. product w p) (sym more)

-- the message followed by its remainder vanishes at each root
pub whole : (message checks : List ℕ) (x i : ℕ) → x < 256 → length message ≤ i →
    value checks x ≡ product (value (take i message) x) (power x (length checks)) → value (message ++ checks) x ≡ 0
whole message checks x i h l e =
    value-append message checks x h
    ∙ ap (bit_xor (product (value message x) (power x (length checks))))
    (e ∙ ap (λ w. product (value w x) (power x (length checks))) (take_all i message l))
    ∙ xor_self (product (value message x) (power x (length checks)))

-- the steps of the division codeword by codeword
pub ruleset word_by_word = (next_word, product-zero_l, zeros_value)
