-- The end of the loop over a run's bytes.
use Rattle.std.proofs.Common.{arith, ◌≡◌, ℕ, ◌≤◌, List, [], ◌++◌, length, take}
use Rattle.std.specs.List.{flat_map}
use Rattle.std.proofs.lemmas.List.{append-nil, take_all}
use Rattle.dm_encodation.specs.{declared.letters.Letters.Letters, declared.run.Held.Held, Grammar.values_of}
use Rattle.dm_encodation.specs.{Written.pairs, inner.Counting.held_values}

-- values that wait are no pair
pairs_held : (h : Held) → pairs (held_values h ++ []) ≡ []
pairs_held h = grind arith

-- after the last byte of a run nothing waits, and its pairs are written
pub run_done : (t : Letters) (h : Held) (out old bytes : List ℕ) (i : ℕ) → length bytes ≤ i
    → ((rest : List ℕ) → out ++ pairs (held_values h ++ rest) ≡ old ++
    pairs (flat_map (values_of t) (take i bytes) ++ rest)) → out ≡ old ++ pairs (flat_map (values_of t) bytes)
run_done t h out old bytes i le done =
    grind (arith, append-nil out, pairs_held h, append-nil (flat_map (values_of t) (take i bytes)), take_all i bytes le)
