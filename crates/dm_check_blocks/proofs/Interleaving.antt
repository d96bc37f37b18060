-- The blocks of a symbol share its codewords out: codeword i of block b stands at i times the blocks plus b.
use Rattle.std.proofs.Common.{◌≡◌, ◌≢◌, ℕ, ◌+◌, ◌-◌, ◌*◌, ◌/◌, ◌%◌, ◌<◌, ◌≤◌, ◌⊎◌, refl, sym, ◌∙◌, ap, arith, List, ◌++◌, length, length-append, get_or, set, ⊎_elim, below_more, get_or-set_other, get_or-set_same, mul-one}
use Rattle.std.proofs.{Math.Nat.mul-le-mul_right, Math.Nat.mod-lt, lemmas.Nat.mod-mul-add, lemmas.Nat.div-add-mod'}
use Rattle.std.proofs.lemmas.{Bool.cases_lt, List.ext_get_or, List.get_or-append_right}
use Rattle.std.proofs.Math.ListN.{get_or-append}
use Rattle.std.proofs.lemmas.List.FromFn.{get_or-map-range_with_len, length-map-range_with_len}
use Rattle.dm_size.specs.declared.size.Size.{Size}
use Rattle.dm_size.specs.Sizes.{data_words, all_words, blocks, block_checks, block_length, block_data}
use Rattle.dm_check_blocks.specs.Blocks.{position, block_of}
use Rattle.dm_size.proofs.Sound.{sound}

-- counting on from the end of the data codewords is counting from the start
past_data : (i d n e : ℕ) → d ≤ i → e ≡ d * n → e + (i - d) * n ≡ i * n
past_data i d n e h q = grind arith

-- codeword i of block b stands at i times the number of blocks, plus b
pub position-closed : (s : Size) (b i : ℕ) → position s b i ≡ i * blocks s + b
unfolding position
position-closed s b i = grind (arith, cases_lt, past_data, sound)

-- all codewords are those of the blocks
pub whole_blocks : (s : Size) → block_length s * blocks s ≡ all_words s
whole_blocks s = grind (arith, sound)

-- a position lies in the symbol
pub position-lt : (s : Size) (b i : ℕ) → b < blocks s → i < block_length s → position s b i < all_words s
position-lt s b i p q = grind (arith, mul-le-mul_right, position-closed, whole_blocks)

-- a position, divided by the number of blocks, leaves the block's number
pub position-mod : (s : Size) (b i : ℕ) → b < blocks s → position s b i % blocks s ≡ b
position-mod s b i p = ap (λ t. t % blocks s) (position-closed s b i) ∙ mod-mul-add i (blocks s) b p

-- where the codewords of a block stand
pub ruleset positions = (position-closed, position-lt)

-- a data codeword stands among the data codewords
pub position_in_data : (s : Size) (b i : ℕ) → b < blocks s → i < block_data s → position s b i < data_words s
position_in_data s b i p q = grind (arith, mul-le-mul_right, position-closed, sound)

-- an error correction codeword stands after all data codewords
pub position_in_checks : (s : Size) (b k : ℕ) → data_words s ≤ position s b (block_data s + k)
position_in_checks s b k = grind (arith, position-closed, sound)

-- each position is that of one codeword of one block
pub position_of : (s : Size) (p : ℕ) → position s (p % blocks s) (p / blocks s) ≡ p
position_of s p = position-closed s (p % blocks s) (p / blocks s) ∙ div-add-mod' p (blocks s)

-- the block of a position is one of the blocks
pub block_at : (s : Size) (p : ℕ) → p % blocks s < blocks s
block_at s p = let h = (sound s).some_blocks in mod-lt p (let l : 0 < blocks s = omega arith in l)

-- the codeword of a position is one of its block's
pub word_at : (s : Size) (p : ℕ) → p < all_words s → p / blocks s < block_length s
word_at s p h =
    let e = whole_blocks s in let q = div-add-mod' p (blocks s) in
    ⊎_elim (λ (l : p / blocks s < block_length s). l)
    (λ (l : block_length s ≤ p / blocks s).
    let more : block_length s * blocks s ≤ p / blocks s * blocks s = mul-le-mul_right (blocks s) l in
    absurd (omega arith))
    (cases_lt (p / blocks s) (block_length s))

-- a block has as many codewords as the size says
pub length-block_of : (s : Size) (b : ℕ) (words : List ℕ) → length (block_of s b words) ≡ block_length s
unfolding block_of
length-block_of s b words = length-map-range_with_len (λ i. get_or words (position s b i) 0) 0 (block_length s)

-- codeword i of a block is the symbol's codeword at its position
pub get_or-block_of : (s : Size) (b : ℕ) (words : List ℕ) (i : ℕ) → i < block_length s →
    get_or (block_of s b words) i 0 ≡ get_or words (position s b i) 0
unfolding block_of
get_or-block_of s b words i h = get_or-map-range_with_len (λ i. get_or words (position s b i) 0) 0
    (block_length s) i i 0 h (let e : 0 + i ≡ i = omega arith in e)

-- a block depends on its own codewords alone
pub block_of_same : (s : Size) (b : ℕ) (xs ys : List ℕ) → b < blocks s →
    ((p : ℕ) → p % blocks s ≡ b → get_or xs p 0 ≡ get_or ys p 0) → block_of s b xs ≡ block_of s b ys
block_of_same s b xs ys l h =
    ext_get_or 0 (block_of s b xs) (block_of s b ys) (length-block_of s b xs ∙ sym (length-block_of s b ys))
    (λ i q.
    let r : i < block_length s = omega (arith, length-block_of s b xs) in
    get_or-block_of s b xs i r ∙ h (position s b i) (position-mod s b i l) ∙ sym (get_or-block_of s b ys i r))

-- a single block is all codewords
pub single_block : (s : Size) (b : ℕ) (words : List ℕ) → blocks s ≡ 1 → b < blocks s → length words ≡ all_words s →
    block_of s b words ≡ words
single_block s b words one l e =
    let whole : block_length s ≡ all_words s = sym (mul-one (block_length s)) ∙ ap (λ t. block_length s * t) (sym one) ∙
    whole_blocks s in
    ext_get_or 0 (block_of s b words) words (length-block_of s b words ∙ whole ∙ sym e)
    (λ i h.
    let r : i < block_length s = omega (arith, length-block_of s b words) in
    let here : i * blocks s + b ≡ i = ap (λ t. i * t + b) one ∙ omega arith in
    get_or-block_of s b words i r ∙ ap (λ t. get_or words t 0) (position-closed s b i ∙ here))

-- two lists whose blocks are the same are the same
pub same_from_blocks : (s : Size) (xs ys : List ℕ) → length xs ≡ all_words s → length ys ≡ all_words s →
    ((b : ℕ) → b < blocks s → block_of s b xs ≡ block_of s b ys) → xs ≡ ys
same_from_blocks s xs ys l m h =
    ext_get_or 0 xs ys (l ∙ sym m)
    (λ p q.
    let b = p % blocks s in let i = p / blocks s in
    let r : i < block_length s = word_at s p (omega arith) in
    let at : (zs : List ℕ) → get_or zs p 0 ≡ get_or (block_of s b zs) i 0 =
    λ zs. sym (get_or-block_of s b zs i r ∙ ap (λ t. get_or zs t 0) (position_of s p)) in
    at xs ∙ ap (λ t. get_or t i 0) (h b (block_at s p)) ∙ sym (at ys))

-- later codewords of a block stand later
pub position-rising : (s : Size) (b i j : ℕ) → i < j → position s b i < position s b j
position-rising s b i j h = grind (arith, mul-le-mul_right, position-closed, sound)

-- one data codeword more is read
pub gathered_more : (data' words : List ℕ) (place : ℕ → ℕ) (i v : ℕ) → i < length data' → v ≡ get_or words (place i) 0 →
    ((j : ℕ) → j < i → get_or data' j 0 ≡ get_or words (place j) 0) →
    (j : ℕ) → j < i + 1 → get_or (set data' i v) j 0 ≡ get_or words (place j) 0
gathered_more data' words place i v l e h =
    below_more _ _ (λ j q. let ne : j ≢ i = omega arith in rw get_or-set_other (h j q)) (rw get_or-set_same e)

-- one error correction codeword more is written
pub written_more : (s : Size) (b k : ℕ) (words checks : List ℕ) → position s b (block_data s + k) < length words →
    ((j : ℕ) → j < k → get_or words (position s b (block_data s + j)) 0 ≡ get_or checks j 0) →
    (j : ℕ) → j < k + 1 → get_or (set words (position s b (block_data s + k)) (get_or checks k 0))
    (position s b (block_data s + j)) 0 ≡ get_or checks j 0
written_more s b k words checks l h = grind (arith, get_or-set_other, get_or-set_same, position-rising)

-- and nothing else is
pub others_more : (s : Size) (b k p v : ℕ) (words : List ℕ) → b < blocks s → (p < data_words s) ⊎ (p % blocks s ≢ b) →
    get_or (set words (position s b (block_data s + k)) v) p 0 ≡ get_or words p 0
others_more s b k p v words l h =
    let q = position s b (block_data s + k) in
    let ne : p ≢ q = ⊎_elim
    (λ (m : p < data_words s). let r = position_in_checks s b k in let n : p ≢ q = omega arith in n)
    (λ (m : p % blocks s ≢ b). λ (e : p ≡ q). m (ap (λ t. t % blocks s) e ∙ position-mod s b (block_data s + k) l)) h in
    rw get_or-set_other refl

-- a block is its data codewords and its error correction codewords
pub block_of-parts : (s : Size) (b : ℕ) (message checks words : List ℕ) → length message ≡ block_data s →
    length checks ≡ block_checks s →
    ((i : ℕ) → i < block_data s → get_or message i 0 ≡ get_or words (position s b i) 0) →
    ((k : ℕ) → k < block_checks s → get_or words (position s b (block_data s + k)) 0 ≡ get_or checks k 0) →
    block_of s b words ≡ message ++ checks
block_of-parts s b message checks words l m h w =
    let e = (sound s).equal_blocks in
    ext_get_or 0 (block_of s b words) (message ++ checks) (length-block_of s b words ∙
    sym (length-append message checks ∙
    (let q : length message + length checks ≡ block_length s = omega arith in q)))
    (λ i q.
    let r : i < block_length s = omega (arith, length-block_of s b words) in
    get_or-block_of s b words i r
    ∙ ⊎_elim (λ (t : i < block_data s). sym (get_or-append message checks 0 i (omega arith) ∙ h i t))
    (λ (t : block_data s ≤ i).
    let k = i - block_data s in
    ap (λ n. get_or words (position s b n) 0) (let f : i ≡ block_data s + k = omega arith in f)
    ∙ w k (omega arith) ∙ sym (get_or-append_right message checks (block_data s) i 0 l t))
    (cases_lt i (block_data s)))
