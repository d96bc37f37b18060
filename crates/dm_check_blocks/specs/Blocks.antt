-- The codewords of a symbol and its interleaved blocks: ISO/IEC 16022:2006, 5.7 and Annex A. A position counts the
-- symbol's codewords from 0, the data codewords first.
use Rattle.std.specs.Prelude.{◌≡◌, ℕ, ◌+◌, ◌*◌, ◌-◌, ◌<◌, nat_lt, if◌then◌else◌, List, length, map, take, slice_index}
use Rattle.std.specs.List.{All, range_with_len}
use Rattle.dm_size.specs.declared.size.Size.{Size}
use Rattle.dm_size.specs.Sizes.{data_words, all_words, blocks, block_data, block_checks, block_length}
use Rattle.dm_gf256.specs.Field.{IsSoundBlock}

-- Where codeword i of block b stands. The data codewords are dealt out to the blocks in turn: the first to block 0, the
-- next to block 1, and so on. The error correction codewords follow them, and are dealt out in the same way.
unfoldable pub position : Size → ℕ → ℕ → ℕ
position s b i =
    if nat_lt i (block_data s) then i * blocks s + b
    else data_words s + (i - block_data s) * blocks s + b

-- the codewords of block b, its data codewords in order and then its error correction codewords
unfoldable pub block_of : Size → ℕ → List ℕ → List ℕ
block_of s b words = map (λ i. slice_index words (position s b i)) (range_with_len 0 (block_length s))

-- these are all codewords of a symbol: bytes, of which each block is a sound block
pub record IsSymbol (s : Size) (words : List ℕ) : Type 0 where
  pub count : length words ≡ all_words s
  pub bytes : All (λ word. word < 256) words
  pub block_words : (b : ℕ) → b < blocks s → IsSoundBlock (block_checks s) (block_of s b words)

-- a symbol that begins with these data codewords
pub record Completes (s : Size) (message words : List ℕ) : Type 0 where
  pub symbol : IsSymbol s words
  pub begins : take (data_words s) words ≡ message
