-- The modules of a grid whose rows stand in those that somebody else holds.
use Rattle.std.proofs.Common.{◌≡◌, ℕ, ◌+◌, ◌*◌, ◌/◌, ◌%◌, ◌<◌, ◌≤◌, Bool, false, List, length, get_or, map, ap, sym, arith}
use Rattle.std.specs.List.{range_with_len, slice_range}
use Rattle.std.proofs.lemmas.{List.ext_get_or, Nat.div-mul-add, Nat.mod-mul-add}
use Rattle.std.proofs.lemmas.List.{FromFn.fill_by_all, FromFn.get_or-map-range_with_len, FromFn.length-map-range_with_len}
use Rattle.std.proofs.lemmas.List.Edits.{length-between, get_or-between}
use Rattle.std.proofs.Math.Nat.{div-add-mod, mul-le-mul_right}

-- the modules of a side n, where the rows begin w modules after one another
abbrev pub lent : ℕ → ℕ → List Bool → List Bool
lent n w modules = map (λ i. get_or modules (i / n * w + i % n) false) (range_with_len 0 (n * n))

-- where nothing stands between the rows, they are all that is there
pub all_lent : (n : ℕ) (modules : List Bool) → length modules ≡ n * n → lent n n modules ≡ modules
all_lent n modules whole = sym (fill_by_all (λ k. get_or modules (k / n * n + k % n) false) modules (n * n) false whole
    (λ k h. ap (λ i. get_or modules i false) (let e = div-add-mod k n in grind arith)))

-- a row
pub row_lent : (n w r : ℕ) (modules : List Bool) → n ≤ w → n * w ≤ length modules → r < n →
    slice_range modules (r * w) (r * w + n) ≡ slice_range (lent n w modules) (r * n) ((r + 1) * n)
row_lent n w r modules wide high below =
    let f : ℕ → Bool = λ k. get_or modules (k / n * w + k % n) false in
    let end : (r + 1) * n ≤ n * n = mul-le-mul_right n (let l : r + 1 ≤ n = omega arith in l) in
    let past : (r + 1) * w ≤ n * w = mul-le-mul_right w (let l : r + 1 ≤ n = omega arith in l) in
    let all = length-map-range_with_len f 0 (n * n) in
    let left = length-between modules (r * w) (r * w + n) (omega (arith, past, high, wide)) in
    let right = length-between (lent n w modules) (r * n) ((r + 1) * n) (omega (arith, end, all)) in
    ext_get_or false _ _ (omega (arith, left, right)) (λ i h.
    let hi : i < n = omega (arith, left) in
    let row : (r * n + i) / n ≡ r = div-mul-add r n i hi in
    let column : (r * n + i) % n ≡ i = mod-mul-add r n i hi in
    grind (arith, get_or-between, get_or-map-range_with_len))
