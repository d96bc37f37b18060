-- The one symbol that begins with given data codewords.
use Rattle.std.proofs.Common.{◌≡◌, ℕ, ◌<◌, ◌≤◌, sym, ◌∙◌, ap, subst, arith, List, ◌++◌, length, length-take, length-drop, get_or, take, drop}
use Rattle.std.specs.List.{All}
use Rattle.std.proofs.lemmas.List.{ext_get_or, get_or-take, take_at, take-append-drop}
use Rattle.std.proofs.lemmas.List.Elements.{All-from_get_or, recursion_from_All}
use Rattle.dm_gf256.specs.Field.{IsSoundBlock}
use Rattle.dm_gf256.proofs.Vanish.{Bytes}
use Rattle.dm_size.specs.declared.size.Size.{Size}
use Rattle.dm_size.specs.Sizes.{data_words, all_words, blocks, block_checks, block_length, block_data}
use Rattle.dm_check_blocks.specs.Blocks.{position, block_of, IsSymbol, Completes}
use Rattle.dm_size.proofs.Sound.{sound}
use Rattle.dm_check_blocks.proofs.OneCompletion.{one_completion}
use Rattle.dm_check_blocks.proofs.Interleaving.{position-lt, position_in_data, length-block_of, get_or-block_of, same_from_blocks}

-- what `complete` gives: codewords that begin with the message, each block completed
pub completes : (s : Size) (message words : List ℕ) → length message ≡ data_words s → length words ≡ all_words s →
    All (λ word. word < 256) words →
    ((p : ℕ) → p < data_words s → get_or words p 0 ≡ get_or message p 0) →
    ((b : ℕ) → b < blocks s → IsSoundBlock (block_checks s) (block_of s b words)) → Completes s message words
completes s message words l m bytes same done = record {
  symbol = record { count = m; bytes = bytes; block_words = done };
  begins =
      ext_get_or 0 (take (data_words s) words) message (let e : length (take (data_words s) words) ≡ length message =
      simp length-take (omega arith) in e)
      (λ p h.
      let q : p < data_words s = (let e : length (take (data_words s) words) ≡ data_words s =
      simp length-take (omega arith) in omega arith) in
      get_or-take (data_words s) words p 0 q ∙ same p q);
}

-- the same, as a vector gives it
pub completes_taken : (s : Size) (message words rest : List ℕ) (n : ℕ) → length message ≡ data_words s →
    length words ≡ all_words s → length words ≡ n → All (λ word. word < 256) words →
    ((p : ℕ) → p < data_words s → get_or words p 0 ≡ get_or message p 0) →
    ((b : ℕ) → b < blocks s → IsSoundBlock (block_checks s) (block_of s b words)) →
    Completes s message (take n (words ++ rest))
completes_taken s message words rest n l m e bytes same done = grind (arith, completes, take_at)

-- a list whose places are bytes is bytes
bytes_from_all : (xs : List ℕ) → ((i : ℕ) → i < length xs → get_or xs i 0 < 256) → Bytes xs
bytes_from_all xs h = recursion_from_All (λ x. x < 256) xs (All-from_get_or (λ x. x < 256) xs 0 h)

-- the places of a block are bytes
block_bytes : (s : Size) (b : ℕ) (words : List ℕ) → b < blocks s → IsSymbol s words → Bytes (block_of s b words)
block_bytes s b words l symbol = grind (arith, bytes_from_all, get_or-block_of, length-block_of, position-lt)

-- a data codeword of a block is one of the message
data_at : (s : Size) (b : ℕ) (message words : List ℕ) (i : ℕ) → b < blocks s → i < block_data s →
    Completes s message words → get_or (block_of s b words) i 0 ≡ get_or message (position s b i) 0
data_at s b message words i l h c =
    let r : i < block_length s = (let e = (sound s).equal_blocks in omega arith) in
    get_or-block_of s b words i r ∙
    sym (get_or-take (data_words s) words (position s b i) 0 (position_in_data s b i l h)) ∙
    ap (λ t. get_or t (position s b i) 0) (c.begins)

-- two completions of one message have the same data codewords in each block
front : (s : Size) (b : ℕ) (message xs ys : List ℕ) → b < blocks s → Completes s message xs → Completes s message ys →
    take (block_data s) (block_of s b xs) ≡ take (block_data s) (block_of s b ys)
front s b message xs ys l c e =
    let d = block_data s in let x = block_of s b xs in let y = block_of s b ys in
    let long : (zs : List ℕ) → length (take d (block_of s b zs)) ≡ d = λ zs. (let f = (sound s).equal_blocks in
    let g = length-block_of s b zs in simp length-take (omega arith)) in
    ext_get_or 0 (take d x) (take d y) (long xs ∙ sym (long ys))
    (λ i h.
    let r : i < d = omega (arith, long xs) in
    get_or-take d x i 0 r ∙ data_at s b message xs i l r c ∙ sym (data_at s b message ys i l r e) ∙
    sym (get_or-take d y i 0 r))

-- two completions of one message have the same blocks
block_same : (s : Size) (b : ℕ) (message xs ys : List ℕ) → b < blocks s → Completes s message xs →
    Completes s message ys → block_of s b xs ≡ block_of s b ys
block_same s b message xs ys l c e =
    let d = block_data s in let x = block_of s b xs in let y = block_of s b ys in
    let m = take d x in let p = drop d x in let q = drop d y in
    let f = (sound s).equal_blocks in
    let lx : length x ≡ block_length s = length-block_of s b xs in
    let ly : length y ≡ block_length s = length-block_of s b ys in
    let lp : length p ≡ block_checks s = simp length-drop (omega arith) in
    let lq : length q ≡ block_checks s = simp length-drop (omega arith) in
    let wx : m ++ p ≡ x = take-append-drop d x in
    let wy : m ++ q ≡ y = ap (λ t. t ++ q) (front s b message xs ys l c e) ∙ take-append-drop d y in
    let B : List ℕ → Type 0 = λ t. Bytes t in
    let word : (zs t : List ℕ) → t ≡ block_of s b zs → IsSymbol s zs → IsSoundBlock (length p) t =
    λ zs t h symbol. subst (λ n. IsSoundBlock n t) (sym lp)
    (subst (λ v. IsSoundBlock (block_checks s) v) (sym h) (symbol.block_words b l)) in
    let bound = (sound s).longest_block in
    sym wx
    ∙ one_completion m p q (lp ∙ sym lq) (let h : length (m ++ p) ≤ 255 = rw wx (omega arith) in
    h) (subst B (sym wx) (block_bytes s b xs l c.symbol)) (subst B (sym wy) (block_bytes s b ys l e.symbol))
    (word xs (m ++ p) wx c.symbol) (word ys (m ++ q) wy e.symbol)
    ∙ wy

-- two completions of one message are equal
pub one_symbol : (s : Size) (message xs ys : List ℕ) → Completes s message xs → Completes s message ys → xs ≡ ys
one_symbol s message xs ys c e =
    same_from_blocks s xs ys c.symbol.count e.symbol.count (λ b l. block_same s b message xs ys l c e)
