-- Rules over a table, checked by computing.
use Rattle.std.proofs.Common.{ℕ, zero, suc, Bool, true, ◌&&◌}

-- whether the test passes at each number below n
unfoldable pub all_below : ℕ → (ℕ → Bool) → Bool
all_below zero p = true
all_below (suc n) p = p n && all_below n p
