-- How far a square is filled, and how far the wrong modules of a grid are counted.
use Rattle.std.specs.Prelude.{ℕ, ◌/◌, ◌%◌, Bool, List, map, count_by}
use Rattle.std.specs.List.{range_with_len}
use Rattle.dm_finder_frame.specs.Frame.{is_wrong, GridView}

-- the first modules of a square of side n, each what this function gives of its row and its column
abbrev pub first_modules : ℕ → (ℕ → ℕ → Bool) → ℕ → List Bool
first_modules n value count = map (λ k. value (k / n) (k % n)) (range_with_len 0 count)

-- how many of the finder patterns' modules are wrong among this many modules of a grid, from this place on
abbrev pub wrong_among : GridView → ℕ → ℕ → ℕ
wrong_among g first count = count_by (λ wrong. wrong) (map (is_wrong g) (range_with_len first count))
