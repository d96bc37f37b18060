-- Squares that are made row by row, and of each row one piece after another.
use Rattle.std.specs.{Prelude.◌/◌, Prelude.◌%◌, List.between}
use Rattle.std.proofs.Common.{◌≡◌, ℕ, ◌+◌, ◌-◌, ◌*◌, ◌<◌, ◌≤◌, List, ◌++◌, length, get_or, Bool, false, inl, inr, ap, sym, ◌∙◌, arith, zero-add, length-append}
use Rattle.std.proofs.lemmas.{Bool.cases_lt, Nat.div-mul-add, Nat.mod-mul-add, Nat.mul-add-lt}
use Rattle.std.proofs.lemmas.List.{get_or_append_left, get_or-append_right, Edits.length-between, Edits.get_or-between}
use Rattle.std.proofs.lemmas.List.FromFn.{fill_by_all, get_or-map-range_with_len, length-map-range_with_len}
use Rattle.dm_size.specs.Squares.{Square, IsWhole, module_at}
use Rattle.dm_finder_frame.specs.inner.Filled.{first_modules}

-- a piece of a row more
pub piece_more : (n r c len : ℕ) (value : ℕ → ℕ → Bool) (xs ys zs : List Bool) → c + len ≤ n
    → xs ≡ first_modules n value (r * n + c) → ys ≡ xs ++ zs → length zs ≡ len
    → ((k : ℕ) → k < len → get_or zs k false ≡ value r (c + k)) → ys ≡ first_modules n value (r * n + (c + len))
piece_more n r c len value xs ys zs fits begun joined count each =
    let f : ℕ → Bool = λ k. value (k / n) (k % n) in
    let first = r * n + c in
    let size : length xs ≡ first = ap length begun ∙ length-map-range_with_len f 0 first in
    let total : first + len ≡ r * n + (c + len) = omega arith in
    let here : (j : ℕ) → j < len → value r (c + j) ≡ f (r * n + (c + j)) = λ j h.
    sym (ap (λ v. value v ((r * n + (c + j)) % n)) (div-mul-add r n (c + j) (omega arith))
    ∙ ap (λ v. value r v) (mod-mul-add r n (c + j) (omega arith))) in
    joined
    ∙ fill_by_all f (xs ++ zs) (first + len) false (length-append xs zs ∙ omega (arith, size, count))
    (λ k h. elim (cases_lt k first) [
      | inl l ↦ (let within : k < length xs = omega (arith, size) in
          get_or_append_left xs zs false k within ∙ ap (λ (x : List Bool). get_or x k false) begun
          ∙ get_or-map-range_with_len f 0 first k k false l (zero-add k))
      | inr l ↦ (let j = k - first in
          let below : j < len = omega arith in
          let back : r * n + (c + j) ≡ k = omega arith in
          get_or-append_right xs zs first k false size l ∙ each j below ∙ here j below ∙ ap f back)
    ])
    ∙ ap (λ count. first_modules n value count) total

-- a module of a piece of a row of a square
pub in_row : (m : Square) (r from len k : ℕ) (line piece : List Bool) → IsWhole m → r < m.side → from + len ≤ m.side
    → k < len → line ≡ between (r * m.side) ((r + 1) * m.side) m.modules → piece ≡ between from (from + len) line
    → get_or piece k false ≡ module_at m r (from + k)
in_row m r from len k line piece whole row_in fits h is part = grind (arith, get_or-between)

-- the length of a row of a square
pub row_length : (m : Square) (r : ℕ) (line : List Bool) → IsWhole m → r < m.side
    → line ≡ between (r * m.side) ((r + 1) * m.side) m.modules → length line ≡ m.side
row_length m r line whole row_in is = grind (arith, mul-add-lt, length-between)
