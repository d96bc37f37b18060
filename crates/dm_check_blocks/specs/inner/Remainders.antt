-- The division of blocks by a generator polynomial (ISO/IEC 16022:2006, Annex E), which completes a symbol.
use Rattle.std.specs.Prelude.{◌≡◌, ℕ, ◌+◌, ◌≤◌, List, [], length, slice_range, slice_index_or, ◌<◌, ◌∷◌, slice_index, ◌≢◌, ◌%◌, ◌⊎◌}
use Rattle.std.specs.{Int.Bits.bit_xor, List.All}
use Rattle.dm_gf256.specs.Field.{power, product, value, IsSoundBlock}
use Rattle.dm_size.specs.{declared.size.Size.Size, Sizes.data_words, Sizes.blocks, Sizes.block_data, Sizes.block_checks}
use Rattle.dm_check_blocks.specs.Blocks.{position}

-- row k of a table
abbrev pub row_at : List (List ℕ) → ℕ → List ℕ
row_at rows k = slice_index_or rows k []

-- `old` begins with a block of `count` codewords and that many error correction codewords, and `new` has its remainder
-- by the generator polynomial at the error correction codewords' places: it has the block's value at each root of the
-- generator polynomial, 2^1 .. 2^checks.
pub record IsDivided (checks count : ℕ) (old new : List ℕ) : Type 0 where
  pub size : length new ≡ length old
  pub values : (k : ℕ) → 1 ≤ k → k ≤ checks → value (slice_range new count (count + checks)) (power 2 k)
      ≡ value (slice_range old 0 (count + checks)) (power 2 k)

-- these are the coefficients, after the leading 1, of a polynomial with the roots 2^1 .. 2^c, c being their number
abbrev pub IsGenerator : List ℕ → Type 0
IsGenerator generator = IsSoundBlock (length generator) (1 ∷ generator)

-- The remainder `new` is that of the polynomial with one codeword more than that of `old`: at each root x of the
-- generator polynomial it has the value that the longer polynomial has there.
abbrev pub AddsWord : List ℕ → ℕ → List ℕ → List ℕ → Type 0
AddsWord generator word old new = (x : ℕ) → x < 256 → value (1 ∷ generator) x ≡ 0
    → value new x ≡ bit_xor (product x (value old x)) (product word (power x (length generator)))

-- row f of the table is f times the row
abbrev pub AreMultiples : List ℕ → List (List ℕ) → Type 0
AreMultiples row rows = (f k : ℕ) → f < 16 → k < length row → slice_index (row_at rows f) k ≡ product f (slice_index row k)

-- One step of the division of a window: the codewords after the one at `at` have, at each root of the generator
-- polynomial, the value that they had together with it, however many of them are taken.
pub record IsStep (checks at : ℕ) (old new : List ℕ) : Type 0 where
  pub values : (k end : ℕ) → 1 ≤ k → k ≤ checks → at + 1 + checks ≤ end → end ≤ 336
      → value (slice_range new (at + 1) end) (power 2 k) ≡ value (slice_range old at end) (power 2 k)
  pub size : length new ≡ length old
  pub bytes : All (λ word. word < 256) new

-- only error correction codewords of block b may differ
abbrev pub KeepsOtherWords : Size → ℕ → List ℕ → List ℕ → Type 0
KeepsOtherWords s b old new = (p : ℕ) → (p < data_words s) ⊎ (p % blocks s ≢ b) → slice_index new p ≡ slice_index old p

-- a window begins with the data codewords of block b, and zeros follow them
pub record HoldsData (s : Size) (b : ℕ) (words window : List ℕ) : Type 0 where
  pub size : length window ≡ 336
  pub words_read : (i : ℕ) → i < block_data s → slice_index window i ≡ slice_index words (position s b i)
  pub zeros : (i : ℕ) → block_data s ≤ i → slice_index window i ≡ 0

-- after a block's data codewords its window has the block's error correction codewords
abbrev pub HoldsChecks : Size → ℕ → List ℕ → List ℕ → Type 0
HoldsChecks s b words window = (k : ℕ) → k < block_checks s
    → slice_index words (position s b (block_data s + k)) ≡ slice_index window (block_data s + k)
