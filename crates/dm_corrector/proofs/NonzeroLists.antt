-- Lists that aren't all zeros.
use Rattle.std.proofs.Common.{◌≡◌, ℕ, zero, suc, ◌<◌, arith, List, [], ◌∷◌, length, get_or}
use Rattle.std.proofs.lemmas.List.{get_or_past}

-- a zero before zeros
all_zeros : (s : List ℕ) → ((k : ℕ) → get_or s k 0 ≡ 0) → (k : ℕ) → get_or (zero ∷ s) k 0 ≡ 0
all_zeros s z k = grind arith

-- of a list that isn't all zeros, an element that isn't
pub some_nonzero : (s : List ℕ) → (((k : ℕ) → get_or s k 0 ≡ 0) → ⊥) → (j : ℕ) × (j < length s) × (0 < get_or s j 0)
some_nonzero [] h = absurd (h (λ k. get_or_past [] k 0 (omega arith)))
some_nonzero (zero ∷ s) h =
    let r = some_nonzero s (λ z. h (λ k. all_zeros s z k)) in
    (suc (r.0), (let m : r.0 < length s = r.1 in omega arith), r.2)
some_nonzero (suc n ∷ s) h = (zero, omega arith, omega arith)
