-- Rows and columns of a grid and of its mapping matrix.
use Rattle.std.specs.Prelude.{◌%◌}
use Rattle.std.proofs.Common.{◌≡◌, ℕ, ◌+◌, ◌*◌, ◌<◌, ◌≤◌, false, arith}
use Rattle.std.proofs.lemmas.Bool.Decides.{nat_tests}
use Rattle.dm_size.specs.declared.size.Size.{Size, TheVariants.Side10}
use Rattle.dm_size.specs.Sizes.{row, side, region, across, mapping}
use Rattle.dm_size.proofs.Sound.{sound}
use Rattle.dm_finder_frame.specs.Frame.{is_on_frame, mapping_place, grid_place}

pub fills_side : (s : Size) → across s * (region s + 2) ≡ side s
fills_side s = (sound s).fills_side

pub some_region : (s : Size) → 8 ≤ region s
some_region s = (sound s).smallest_region

pub most_across : (s : Size) → across s ≤ 6
most_across s = (sound s).most_across

pub most_side : (s : Size) → side s ≤ 132
most_side s = (sound s).greatest_side

pub most_mapping : (s : Size) → mapping s ≤ 120
most_mapping s = (sound s).greatest_mapping

-- framed regions have even sides, so the parity of a column in its region is its parity in the grid
pub even_columns : (s : Size) (c : ℕ) → c % (region s + 2) % 2 ≡ c % 2
unfolding row
even_columns Side10 c = omega arith
even_columns _ c = omega arith

pub grid_place_rest : (h r : ℕ) → 0 < h → grid_place h r % (h + 2) ≡ r % h + 1
grid_place_rest h r z = grind arith

pub mapping_of_grid_place : (h r : ℕ) → 0 < h → mapping_place h (grid_place h r) ≡ r
mapping_of_grid_place h r z = grind arith

pub mapping_place_below : (h q r : ℕ) → 1 ≤ r % (h + 2) → r % (h + 2) ≤ h → r < q * (h + 2) → mapping_place h r < q * h
mapping_place_below h q r l m k = grind arith

pub grid_of_mapping_place : (h r : ℕ) → 1 ≤ r % (h + 2) → r % (h + 2) ≤ h → grid_place h (mapping_place h r) ≡ r
grid_of_mapping_place h r l m = grind arith

-- what the test of a frame tells
pub inside_no_frame : (h a b : ℕ) → a < h → b < h → is_on_frame h (a + 1) (b + 1) ≡ false
inside_no_frame h a b k l = grind (arith, nat_tests)

pub no_frame_inside : (h a b : ℕ) → a < h + 2 → b < h + 2 → is_on_frame h a b ≡ false →
    (1 ≤ a) × (a ≤ h) × (1 ≤ b) × (b ≤ h)
no_frame_inside h a b k l e = grind arith
