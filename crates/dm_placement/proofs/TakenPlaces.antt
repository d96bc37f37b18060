-- What becomes of the places of codewords: they are in the matrix, and each taker keeps, reads or draws them in turn.
use Rattle.std.specs.{Prelude.All, Int.bit_at}
use Rattle.std.proofs.Common.{below_more, ◌≡◌, ℕ, ◌+◌, ◌-◌, ◌*◌, ◌/◌, ◌%◌, ◌<◌, length, List, [], ◌∷◌, ◌++◌, Bool, false, eqb, get_or, set, ap, sym, ◌∙◌, arith, subst, refl, zero-add}
use Rattle.std.proofs.lemmas.{Nat.mul-add-lt}
use Rattle.std.proofs.lemmas.List.{get_or_default, get_or_append_left, get_or-append-add, length-append, Elements.All-from_get_or}
use Rattle.std.proofs.lemmas.List.FromFn.{map-range_with_len_more, length-map-range_with_len, get_or-map-range_with_len}
use Rattle.dm_size.specs.{declared.size.Size.Size, Sizes.mapping, Sizes.all_words, Squares.Square, Squares.with_module, Squares.light_square}
use Rattle.dm_placement.specs.Placement.{bit_cells, dark_cells, with_dark, placed, lifted, bit_of, byte_bits, cell_at, number_of, word_from}
use Rattle.dm_placement.specs.inner.Places.{AreOfWord, HasBits, HasPlaced, HasKept, HasRead, word_from_places}
use Rattle.dm_placement.proofs.{CellLists.all_in_at, EachSize.side_is_sound, LiftedWords.same_made, PlacedBits.placing_start, PlacedBits.placing_step, PlacedMatrix.placed_only, ShapesSound.all_in_bits, ShapesSound.bit_count, Tiled.tiled_size}

-- ---- in the matrix

-- a place of a codeword
pub word_in : (s : Size) (k : ℕ) (places : List ℕ) (b : ℕ) → AreOfWord s k places → b < 8
    → get_or places b 0 < mapping s * mapping s
word_in s k places b a h =
    let few = a.is_word in
    let count = bit_count s in
    let within = all_in_at (mapping s) (bit_cells (mapping s)) (8 * k + b) (cell_at 0 0) (all_in_bits s) (omega arith) in
    rw (a.stand b h) (mul-add-lt _ _ _ _ within.0 within.1)

-- each of them
pub all_in : (s : Size) (k n : ℕ) (places : List ℕ) → AreOfWord s k places → length places ≡ 8
    → n ≡ mapping s * mapping s → All (λ place. place < n) places
all_in s k n places a eight size =
    All-from_get_or (λ place. place < n) places 0
    (λ b h. let within = word_in s k places b a (omega arith) in omega arith)

-- ---- kept

-- one codeword more
pub kept_more : (s : Size) (k : ℕ) (kept : List (List ℕ)) (places : List ℕ) (kept' : List (List ℕ)) → HasKept s k kept
    → AreOfWord s k places → kept' ≡ kept ++ places ∷ [] → HasKept s (k + 1) kept'
kept_more s k kept places kept' h a e =
    let count = h.count in
    let last : get_or kept' k [] ≡ places = grind (arith, get_or-append-add kept (places ∷ []) 0 []) in
    record {
      count = grind (arith, length-append kept (places ∷ []));
      words = below_more (λ w. AreOfWord s w (get_or kept' w [])) k
          (λ w l. rw e (rw (get_or_append_left kept (places ∷ []) [] w (omega arith)) (h.words w l))) (rw last a);
    }

-- a codeword that is kept
pub kept_word : (s t : Size) (kept : List (List ℕ)) (k : ℕ) (places d : List ℕ) → HasKept s (all_words s) kept → s ≡ t
    → k < all_words t → places ≡ get_or kept k d → AreOfWord t k places
kept_word s t kept k places d h v l e =
    let few : k < all_words s = rw v l in
    let count = h.count in
    rw (← v) (rw (e ∙ get_or_default kept k d [] (omega arith)) (h.words k few))

-- ---- read

-- as many codewords as were read
pub read_count : (s : Size) (modules : List Bool) (k : ℕ) (words : List ℕ) → HasRead s modules k words → length words ≡ k
read_count s modules k words h = ap length h.read ∙ length-map-range_with_len _ 0 k

-- one codeword more
pub read_more : (s : Size) (modules : List Bool) (k : ℕ) (words places words' : List ℕ) → HasRead s modules k words
    → AreOfWord s k places → words' ≡ words ++ word_from_places modules places ∷ [] → HasRead s modules (k + 1) words'
read_more s modules k words places words' h a e =
    let cells = bit_cells (mapping s) in
    let f : ℕ → ℕ = λ word. word_from (record { side = mapping s; modules = modules }) cells (8 * word) in
    let same : word_from_places modules places ≡ f k =
    ap number_of (same_made _ _ 8 false (λ b l. ap (λ place. get_or modules place false) (a.stand b l))) in
    record {
      whole = h.whole;
      read = e ∙ ap (λ w. words ++ w ∷ []) same ∙ ap (λ l. l ++ f k ∷ []) h.read
          ∙ sym (map-range_with_len_more f 0 k k (zero-add k));
    }

-- all codewords
pub read_all : (s : Size) (m : Square) (modules : List Bool) (words : List ℕ) → modules ≡ m.modules → m.side ≡ mapping s
    → HasRead s modules (all_words s) words → words ≡ lifted s m
unfolding lifted
read_all s m modules words e side h = grind (arith, h.read)

-- ---- drawn

-- nothing yet
pub drawn_first : (s : Size) (words : List ℕ) (m : Square) (n : ℕ) → length words ≡ all_words s → n ≡ mapping s
    → m ≡ with_dark (light_square n) (dark_cells n) → HasPlaced s words 0 0 m
drawn_first s words m n count side e =
    record { count = count; next = refl; bits = rw (e, side) (placing_start (mapping s) words (side_is_sound s).eight) }

-- one bit more
pub drawn_more : (s : Size) (places words : List ℕ) (m m' : Square) (k b : ℕ) (dark : Bool) → AreOfWord s k places
    → HasBits (mapping s) words m (8 * k + b) → b < 8 → dark ≡ get_or (byte_bits (get_or words k 0)) b false
    → m' ≡ record { side = m.side; modules = set m.modules (get_or places b 0) dark }
    → HasBits (mapping s) words m' (8 * k + (b + 1))
drawn_more s places words m m' k b dark a p hb hd hm =
    let n = mapping s in
    let i = 8 * k + b in
    let count = bit_count s in
    let few = a.is_word in
    let q = get_or (bit_cells n) i (cell_at 0 0) in
    let at : get_or places b 0 ≡ q.row * m.side + q.column = a.stand b hb ∙ ap (λ v. q.row * v + q.column) (sym p.side) in
    let word : i / 8 ≡ k = omega arith in
    let turn : i % 8 ≡ b = omega arith in
    let f : ℕ → Bool = λ j. eqb (bit_at (get_or words k 0) (7 - j)) 1 in
    let bit : dark ≡ bit_of words i =
    hd ∙ get_or-map-range_with_len f 0 8 b b false hb (zero-add b) ∙ sym (rw word (rw turn refl)) in
    let written : m' ≡ with_module m q.row q.column dark =
    hm ∙ ap (λ x. record { side = m.side; modules = set m.modules x dark }) at in
    let next : i + 1 ≡ 8 * k + (b + 1) = omega arith in
    subst (λ (v : ℕ). HasBits n words m' v) next
    (placing_step n words m m' i dark (tiled_size s) p (omega arith) bit written)

-- all codewords
pub drawn_last : (s : Size) (words : List ℕ) (next : ℕ) (m : Square) → HasPlaced s words (all_words s) next m
    → m ≡ placed s words
drawn_last s words next m h = placed_only s words m (tiled_size s) (rw bit_count h.bits)
