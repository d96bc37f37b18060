-- The square symbol sizes of ISO/IEC 16022:2006, 5.5 (symbol attributes), sides 10 to 132.
use Rattle.std.specs.Prelude.{◌≡◌, ℕ, ◌+◌, ◌*◌, ◌/◌, ◌%◌, ◌≤◌}
use Rattle.dm_size.specs.declared.size.Size.{Size}
use Rattle.dm_size.specs.declared.size.Size.TheVariants.{Side10, Side12, Side14, Side16, Side18, Side20, Side22, Side24, Side26, Side32, Side36, Side40, Side44, Side48, Side52, Side64, Side72, Side80, Side88, Side96, Side104, Side120, Side132}

-- A row of the standard's table: the symbol's side in modules, frames included; the side of a data region
-- without its frame, and the number of regions; the numbers of data codewords, of error correction codewords, and of
-- the blocks in which they are interleaved.
pub record Row : Type 0 where
  pub side : ℕ
  pub region : ℕ
  pub regions : ℕ
  pub data_words : ℕ
  pub check_words : ℕ
  pub blocks : ℕ

abbrev pub row_of : ℕ → ℕ → ℕ → ℕ → ℕ → ℕ → Row
row_of n h r d c b = record { side = n; region = h; regions = r; data_words = d; check_words = c; blocks = b }

-- the table: side, region, regions, data codewords, error correction codewords, blocks
unfoldable pub row : Size → Row
row Side10 = row_of 10 8 1 3 5 1
row Side12 = row_of 12 10 1 5 7 1
row Side14 = row_of 14 12 1 8 10 1
row Side16 = row_of 16 14 1 12 12 1
row Side18 = row_of 18 16 1 18 14 1
row Side20 = row_of 20 18 1 22 18 1
row Side22 = row_of 22 20 1 30 20 1
row Side24 = row_of 24 22 1 36 24 1
row Side26 = row_of 26 24 1 44 28 1
row Side32 = row_of 32 14 4 62 36 1
row Side36 = row_of 36 16 4 86 42 1
row Side40 = row_of 40 18 4 114 48 1
row Side44 = row_of 44 20 4 144 56 1
row Side48 = row_of 48 22 4 174 68 1
row Side52 = row_of 52 24 4 204 84 2
row Side64 = row_of 64 14 16 280 112 2
row Side72 = row_of 72 16 16 368 144 4
row Side80 = row_of 80 18 16 456 192 4
row Side88 = row_of 88 20 16 576 224 4
row Side96 = row_of 96 22 16 696 272 4
row Side104 = row_of 104 24 16 816 336 6
row Side120 = row_of 120 18 36 1050 408 6
row Side132 = row_of 132 20 36 1304 496 8

-- the columns by name
abbrev pub side : Size → ℕ
side s = (row s).side

abbrev pub region : Size → ℕ
region s = (row s).region

abbrev pub regions : Size → ℕ
regions s = (row s).regions

abbrev pub data_words : Size → ℕ
data_words s = (row s).data_words

abbrev pub check_words : Size → ℕ
check_words s = (row s).check_words

abbrev pub blocks : Size → ℕ
blocks s = (row s).blocks

-- all codewords of the symbol
abbrev pub all_words : Size → ℕ
all_words s = data_words s + check_words s

-- a side of the table
abbrev pub IsSide : ℕ → Type 0
IsSide n = (s : Size) × (side s ≡ n)

-- the data codewords of one block
abbrev pub block_data : Size → ℕ
block_data s = data_words s / blocks s

-- the error correction codewords of one block
abbrev pub block_checks : Size → ℕ
block_checks s = check_words s / blocks s

-- the codewords of one block, data and error correction codewords
abbrev pub block_length : Size → ℕ
block_length s = all_words s / blocks s

-- how many wrong codewords of one block can be put right: half its error correction codewords, rounded down
abbrev pub limit : Size → ℕ
limit s = block_checks s / 2

-- the number of framed regions in a row of them
abbrev pub across : Size → ℕ
across s = side s / (region s + 2)

-- the side of the mapping square, in which the regions stand without their frames
abbrev pub mapping : Size → ℕ
mapping s = across s * region s

-- What holds of every size: the regions are a square of squares that just fills the symbol, the mapping
-- square has room for all codewords and less than one codeword more, and the blocks are of equal length.
pub record SizeIsSound (s : Size) : Type 0 where
  -- regions
  pub smallest_region : 8 ≤ region s
  pub greatest_region : region s ≤ 24
  pub even_region : region s % 2 ≡ 0
  pub some_across : 1 ≤ across s
  pub most_across : across s ≤ 6
  pub square : across s * across s ≡ regions s
  -- the symbol's side
  pub fills_side : across s * (region s + 2) ≡ side s
  pub smallest_side : 10 ≤ side s
  pub greatest_side : side s ≤ 132
  -- the mapping square
  pub smallest_mapping : 8 ≤ mapping s
  pub greatest_mapping : mapping s ≤ 120
  pub even_mapping : mapping s % 2 ≡ 0
  pub fills_mapping : mapping s * mapping s / 8 ≡ all_words s
  -- codewords
  pub some_data : 3 ≤ data_words s
  pub most_data : data_words s ≤ 1304
  pub most_words : all_words s ≤ 1800
  -- blocks
  pub some_blocks : 1 ≤ blocks s
  pub most_blocks : blocks s ≤ 8
  pub equal_data : blocks s * block_data s ≡ data_words s
  pub equal_checks : blocks s * block_checks s ≡ check_words s
  pub equal_blocks : block_data s + block_checks s ≡ block_length s
  pub some_checks : 5 ≤ block_checks s
  pub most_checks : block_checks s ≤ 68
  pub most_block_data : block_data s ≤ 175
  pub longest_block : block_length s ≤ 243
