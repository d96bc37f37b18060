-- The multiples of a generator polynomial and a step of the division by them. A factor is the sum of its low and its
-- high four bits, so the two rows of a step add up to the factor's multiple. A root of the generator polynomial is a
-- root of each multiple: what a step adds has no value there, beside the codeword that it takes off.
use Rattle.std.proofs.Common.{◌≡◌, ℕ, zero, suc, ◌+◌, ◌-◌, ◌*◌, ◌/◌, ◌%◌, ◌<◌, ◌≤◌, true, eqb, eqb-true, add-one, refl, sym, ◌∙◌, ap, subst, arith, List, [], ◌∷◌, ◌++◌, length, length-append, length-take, length-drop, get_or, take, drop, replicate, ⊎_elim}
use Rattle.std.proofs.{lemmas.Bool.cases_lt, Math.ListN.get_or-append, lemmas.Nat.xor_comm, lemmas.Nat.xor_lt}
use Rattle.std.proofs.lemmas.List.{get_or-append_right, get_or-drop, get_or-take, length-replicate, get_or-replicate, take_all}
use Rattle.std.proofs.lemmas.List.Elements.{All-get_or, All-from_get_or, All-append, All-take, All-drop}
use Rattle.std.proofs.Math.Seq.{take-add, drop-append_seam, drop-cons}
use borrow.Rule.Slice.PartMut.{put_mid}
use Rattle.std.specs.{List.All, List.slice_range, Int.Bits.bit_xor, Int.Bits.xor_zero_r}
use Rattle.dm_gf256.specs.Field.{plain, reduced, product, power, value, IsSoundBlock}
use Rattle.dm_gf256.proofs.{TablesByComputing.all_below, Linear.product-xor_l, LoopSteps.double_low}
use Rattle.dm_gf256.proofs.Ring.{all_below-at, product_assoc, product_byte, product-zero_r, one-product, power_byte, power-add}
use Rattle.dm_gf256.proofs.Divide.{value-add_scaled, value-append, xor_solve, add_scaled_by_places}
use Rattle.dm_check_blocks.specs.inner.Remainders.{row_at, IsDivided}
use Rattle.dm_check_blocks.proofs.Remainders.{zeros_value, whole}

-- an even multiple is twice that by the half
pub even_multiple : (f c : ℕ) → f < 16 → f % 2 ≡ 0 → product 2 (product (f / 2) c) ≡ product f c
even_multiple f c h e =
    let twice : f / 2 * 2 % 256 ≡ f = omega arith in
    sym (product_assoc 2 (f / 2) c) ∙ ap (λ t. product t c) (sym (double_low (f / 2) (omega arith)) ∙ twice)

-- an odd number is an even one and 1, by computing
odds : all_below 8 (λ h. eqb (bit_xor (2 * h) 1) (2 * h + 1)) ≡ true
unfolding all_below
odds = refl

-- an odd multiple is one more than that by the number before
pub odd_multiple : (f c : ℕ) → f < 16 → f % 2 ≡ 1 → c < 256 → bit_xor (product (f - 1) c) c ≡ product f c
odd_multiple f c h e b =
    let half = (f - 1) / 2 in
    let before : f - 1 ≡ 2 * half = omega arith in
    let after : 2 * half + 1 ≡ f = omega arith in
    ap (bit_xor (product (f - 1) c)) (sym (one-product c b)) ∙ sym (product-xor_l (f - 1) 1 c) ∙
    ap (λ t. product t c) (ap (λ t. bit_xor t 1) before ∙ eqb-true _ _ (all_below-at 8 _ odds half (omega arith)) ∙
    after)

-- a byte is the sum of its low four bits and of 16 times its high ones, by computing
nibbles : all_below 256 (λ f. eqb (bit_xor (f % 16) (product (f / 16) 16)) f) ≡ true
unfolding all_below product reduced plain
nibbles = refl

-- a multiple is the sum of those by the low and by the high four bits of the factor
pub split_multiple : (f c : ℕ) → f < 256 →
    bit_xor (product (f % 16) c) (product (f / 16) (product 16 c)) ≡ product f c
split_multiple f c h =
    ap (bit_xor (product (f % 16) c)) (sym (product_assoc (f / 16) 16 c)) ∙
    sym (product-xor_l (f % 16) (product (f / 16) 16) c) ∙
    ap (λ t. product t c) (eqb-true _ _ (all_below-at 256 _ nibbles f h))

-- sixteen is twice eight
pub sixteen_times : (c : ℕ) → product 2 (product 8 c) ≡ product 16 c
sixteen_times c = sym (product_assoc 2 8 c) ∙ ap (λ t. product t c) (sym (double_low 8 (omega arith)))

-- a list of zeros has zeros at each place
pub zeros_at : (n k : ℕ) → let zs : List ℕ = replicate n 0 in get_or zs k 0 ≡ 0
zeros_at zero k = refl
zeros_at (suc n) zero = refl
zeros_at (suc n) (suc k) = zeros_at n k

-- the zeros of a list after what was written to its beginning
pub zeros_after : (m : ℕ) (ys : List ℕ) (n k : ℕ) → length ys ≡ n → n ≤ k →
    let zs : List ℕ = replicate m 0 in get_or (ys ++ drop n zs) k 0 ≡ 0
zeros_after m ys n k e h = grind (arith, get_or-append_right, get_or-drop, zeros_at)

-- each row of a blank table is blank
pub blank_row : (n f : ℕ) → f < 16 → let blank : List ℕ = replicate n 0 in row_at (replicate 16 blank) f ≡ blank
blank_row n f h = get_or-replicate 16 f (replicate n 0) [] h

-- a row that is zero after its first places is those places and zeros
padded : (row : List ℕ) (c n k : ℕ) → c ≤ length row → ((j : ℕ) → c ≤ j → get_or row j 0 ≡ 0) →
    get_or (take c row ++ replicate n 0) k 0 ≡ get_or row k 0
padded row c n k l z = grind (arith, cases_lt, get_or-append, get_or-append_right, get_or-take, length-take, zeros_at)

-- the generator polynomial without its leading 1, shifted, has the value of its highest power at a root
shifted_value : (g : List ℕ) (n x : ℕ) → x < 256 → length g ≤ n → value (1 ∷ g) x ≡ 0 →
    value (g ++ replicate (n - length g) 0) x ≡ power x n
unfolding value
shifted_value g n x h l z =
    let c = length g in
    let zs : List ℕ = replicate (n - c) 0 in
    let long : length zs ≡ n - c = length-replicate (n - c) 0 in
    let root : value g x ≡ power x c = xor_solve (product 1 (power x c)) (value g x) z ∙
    one-product (power x c) (power_byte x c h) in
    let whole : c + (n - c) ≡ n = omega arith in
    value-append g zs x h
    ∙ ap (bit_xor (product (value g x) (power x (length zs)))) (zeros_value zs x (λ k q. zeros_at (n - c) k))
    ∙ xor_zero_r _
    ∙ ap (λ t. product t (power x (length zs))) root ∙ ap (λ t. product (power x c) (power x t)) long
    ∙ sym (power-add x c (n - c) h) ∙ ap (power x) whole

-- One step: the codeword f is taken off, and f times the row is added to the codewords after it. At a root of the
-- generator polynomial the value is kept.
pub row_step : (f : ℕ) (rest ys row : List ℕ) (w c n x : ℕ) → length ys ≡ w → c ≤ length row → c ≤ w → c ≤ n →
    n ≤ length rest → w ≤ length rest → x < 256 → value (1 ∷ take c row) x ≡ 0 →
    ((k : ℕ) → c ≤ k → get_or row k 0 ≡ 0) →
    ((k : ℕ) → k < w → get_or ys k 0 ≡ bit_xor (get_or rest k 0) (product f (get_or row k 0))) →
    value (take n (ys ++ drop w rest)) x ≡ value (f ∷ take n rest) x
unfolding value
row_step f rest ys row w c n x ly lr few some fits room h root zeros sums =
    let g = take c row in
    let shifted : List ℕ = g ++ replicate (n - length g) 0 in
    let first : length g ≡ c = simp length-take (omega arith) in
    let taken : length (take n rest) ≡ n = simp length-take (omega arith) in
    let lz : length shifted ≡ n = simp (length-append, length-replicate) (omega arith) in
    let lt : length (take n (ys ++ drop w rest)) ≡ n =
    simp (length-take, length-append, length-drop) (omega arith) in
    let place : (k : ℕ) → get_or (ys ++ drop w rest) k 0 ≡ bit_xor (get_or rest k 0) (product f (get_or row k 0)) =
    λ k. ⊎_elim (λ (l : k < w). get_or-append ys (drop w rest) 0 k (omega arith) ∙ sums k l)
    (λ (l : w ≤ k).
    let back : w + (k - w) ≡ k = omega arith in
    get_or-append_right ys (drop w rest) w k 0 ly l ∙ get_or-drop w rest (k - w) 0
    ∙ ap (λ t. get_or rest t 0) back
    ∙ sym (ap (λ t. bit_xor (get_or rest k 0) (product f t)) (zeros k (omega arith)) ∙
    ap (bit_xor (get_or rest k 0)) (product-zero_r f) ∙ xor_zero_r _))
    (cases_lt k w) in
    let is : take n (ys ++ drop w rest) ≡ _ =
    add_scaled_by_places f (take n (ys ++ drop w rest)) (take n rest) shifted (lt ∙ sym taken) (taken ∙ sym lz)
    (λ k l.
    let below : k < n = omega arith in
    get_or-take n (ys ++ drop w rest) k 0 below ∙ place k
    ∙ ap (λ t. bit_xor t (product f (get_or row k 0))) (sym (get_or-take n rest k 0 below))
    ∙ ap (λ t. bit_xor (get_or (take n rest) k 0) (product f t))
    (sym (padded row c (n - length g) k (omega arith) zeros))) in
    ap (λ t. value t x) is
    ∙ value-add_scaled f (take n rest) shifted x (taken ∙ sym lz)
    ∙ ap (λ t. bit_xor (value (take n rest) x) (product f t)) (shifted_value g n x h (omega arith) root)
    ∙ xor_comm (value (take n rest) x) (product f (power x n))
    ∙ ap (λ t. bit_xor (product f (power x t)) (value (take n rest) x)) (sym taken)

-- The window after a step: its codewords from the next one on have the value that the old ones had with the codeword at
-- `at`.
pub written_value : (old ys : List ℕ) (w at end x : ℕ) → at + 1 ≤ end → end ≤ length old →
    value (take (end - (at + 1)) (ys ++ drop w (drop (at + 1) old))) x
    ≡ value (get_or old at 0 ∷ take (end - (at + 1)) (drop (at + 1) old)) x →
    value (slice_range (put_mid (at + 1) (at + 1 + w - (at + 1)) old ys) (at + 1) end) x
    ≡ value (slice_range old at end) x
written_value old ys w at end x some most e =
    let n = end - (at + 1) in
    let width : at + 1 + w - (at + 1) ≡ w = omega arith in
    let more : List ℕ = ys ++ drop w (drop (at + 1) old) in
    let first : at + 1 ≡ length (take (at + 1) old) = simp length-take (omega arith) in
    let one : end - at ≡ suc n = omega arith in
    let f = get_or old at 0 in
    ap (λ t. value (slice_range (put_mid (at + 1) t old ys) (at + 1) end) x) width
    ∙ ap (λ t. value (take n (drop t (take (at + 1) old ++ more))) x) first
    ∙ ap (λ t. value (take n t) x) (drop-append_seam (take (at + 1) old) more)
    ∙ e
    ∙ ap (λ t. value (f ∷ take n (drop t old)) x) (add-one at)
    ∙ sym (ap (λ t. value (take (end - at) t) x) (drop-cons old at 0 (omega arith)) ∙
    ap (λ t. value (take t (f ∷ drop (suc at) old)) x) one)

-- sums of bytes and products are bytes
pub sum_bytes : (f : ℕ) (rest ys row : List ℕ) (w : ℕ) → length ys ≡ w → All (λ word. word < 256) rest → w ≤ length rest →
    ((k : ℕ) → k < w → get_or ys k 0 ≡ bit_xor (get_or rest k 0) (product f (get_or row k 0))) →
    All (λ word. word < 256) ys
sum_bytes f rest ys row w long bytes room sums =
    All-from_get_or (λ word. word < 256) ys 0
    (λ k h.
    let P : ℕ → Type 0 = λ t. t < 256 in
    let l : k < w = omega arith in
    subst P (sym (sums k l)) (xor_lt 8 (get_or rest k 0) (product f (get_or row k 0))
    (All-get_or (λ word. word < 256) rest k 0 (omega arith) bytes) (product_byte f (get_or row k 0))))

-- what is written to a window of bytes is bytes
pub written_bytes : (old ys : List ℕ) (a n : ℕ) → All (λ word. word < 256) old → All (λ word. word < 256) ys →
    All (λ word. word < 256) (put_mid a n old ys)
written_bytes old ys a n p q =
    All-append (λ word. word < 256) (take a old) (ys ++ drop n (drop a old)) (All-take (λ word. word < 256) a old p)
    (All-append (λ word. word < 256) ys (drop n (drop a old)) q
    (All-drop (λ word. word < 256) n (drop a old) (All-drop (λ word. word < 256) a old p)))

-- codewords and as many zeros as there are error correction codewords have the value of the codewords, shifted
zeros_follow : (w : List ℕ) (d c x : ℕ) → x < 256 → d + c ≤ length w → ((i : ℕ) → d ≤ i → get_or w i 0 ≡ 0) →
    value (slice_range w 0 (d + c)) x ≡ product (value (take d w) x) (power x c)
zeros_follow w d c x h l z =
    let zs = take c (drop d w) in
    let long : length zs ≡ c = simp (length-take, length-drop) (omega arith) in
    let none : value zs x ≡ 0 = zeros_value zs x (λ k q. get_or-take c (drop d w) k 0 (omega arith) ∙
    get_or-drop d w k 0 ∙ z (d + k) (omega arith)) in
    let from_start : d + c - 0 ≡ d + c = omega arith in
    ap (λ t. value (take t w) x) from_start ∙ ap (λ t. value t x) (take-add d c w)
    ∙ value-append (take d w) zs x h
    ∙ ap (bit_xor (product (value (take d w) x) (power x (length zs)))) none ∙ xor_zero_r _
    ∙ ap (λ t. product (value (take d w) x) (power x t)) long

-- a message and its remainder after the division make a sound block
pub divided_message : (checks count : ℕ) (old new : List ℕ) → IsDivided checks count old new → length old ≡ 336 →
    count + checks ≤ 336 → ((i : ℕ) → count ≤ i → get_or old i 0 ≡ 0) →
    IsSoundBlock checks (take count old ++ slice_range new count (count + checks))
divided_message checks count old new e l fits zeros k p q =
    grind (arith, length-drop, length-take, power_byte, take_all, whole, zeros_follow)
