-- The run of a text in C40 or Text: how far it goes, byte by byte, and how many codewords it takes.
use Rattle.std.proofs.lemmas.{Grind.common_steps, Bool.eqb-true, Bool.eq-eqb, Bool.ne_eqb, Bool.cond_both}
use Rattle.std.proofs.Common.{◌≡◌, ◌≢◌, ℕ, zero, suc, ◌+◌, ◌*◌, ◌/◌, ◌%◌, ◌<◌, ◌≤◌, Bool, true, false, ◌&&◌, cond, eqb, ltb, List, [], ◌∷◌, ◌++◌, length, get_or, take, drop, refl, append_assoc, arith}
use Rattle.std.specs.List.{flat_map}
use Rattle.std.proofs.lemmas.List.{append-nil, length-append, length_push, length-take-le, length-drop, take_more, take_all, drop_all, take-append-le, drop-append-le}
use Rattle.std.proofs.lemmas.List.Concat.{flat_map-append}
use Rattle.dm_encodation.specs.Grammar.{values_below_128, values_of, latch}
use Rattle.dm_encodation.specs.inner.Counting.{CountsAscii, CountsRun, run_need}
use Rattle.dm_encodation.specs.declared.{counter.RunCounter.RunCounter, letters.Letters.Letters}
use Rattle.dm_encodation.specs.Written.{ascii, greatest, run_length, pairs, words_after_run, run_and_rest}
use Rattle.dm_encodation.proofs.AsciiWords.{some_ascii, length-ascii}

-- ---- the greatest number that passes

pub greatest_passes : (p : ℕ → Bool) (n : ℕ) → 0 < greatest p n → p (greatest p n) ≡ true
unfolding greatest
greatest_passes p zero pos = absurd (omega arith)
greatest_passes p (suc n) pos =
    let P : ℕ → Type 0 = λ k. 0 < k → p k ≡ true in
    cond_both (p (suc n)) (suc n) (greatest p n) P (λ e _. e) (λ e pos. greatest_passes p n pos) pos

pub greatest_within : (p : ℕ → Bool) (n : ℕ) → greatest p n ≤ n
unfolding greatest
greatest_within p zero = omega arith
greatest_within p (suc n) = grind (arith, greatest_within p n)

greatest_same : (p q : ℕ → Bool) (n : ℕ) → ((k : ℕ) → k ≤ n → p k ≡ q k) → greatest p n ≡ greatest q n
unfolding greatest
greatest_same p q zero same = refl
greatest_same p q (suc n) same = grind (arith, greatest_same p q n (λ k le. same k (omega arith)))

greatest_last : (p : ℕ → Bool) (n m : ℕ) → m ≡ suc n → p m ≡ true → greatest p m ≡ m
unfolding greatest
greatest_last p n m e passes = grind arith

greatest_before : (p q : ℕ → Bool) (n m : ℕ) → m ≡ suc n → p m ≡ false → ((k : ℕ) → k ≤ n → p k ≡ q k) →
    greatest p m ≡ greatest q n
unfolding greatest
greatest_before p q n m e fails same = grind (arith, greatest_same)

-- ---- how many values

pub values_more : (t : Letters) (bytes : List ℕ) (b : ℕ) →
    length (flat_map (values_of t) (bytes ++ b ∷ [])) ≡ length (flat_map (values_of t) bytes) + length (values_of t b)
values_more t bytes b = grind (arith, flat_map-append, length-append)

abbrev OneOrTwo : List ℕ → Type 0
OneOrTwo vs = (1 ≤ length vs) × (length vs ≤ 2)

low_values : (t : Letters) (b : ℕ) → OneOrTwo (values_below_128 t b)
unfolding values_below_128
low_values t b = grind arith

some_values : (t : Letters) (b : ℕ) → (1 ≤ length (values_of t b)) × (length (values_of t b) ≤ 4)
unfolding values_of
some_values t b = grind (arith, cond_both, low_values)

-- a text has at least as many values as bytes, and at most four times as many
pub length-values : (t : Letters) (bytes : List ℕ) → (length bytes ≤ length (flat_map (values_of t) bytes)) ×
    (length (flat_map (values_of t) bytes) ≤ 4 * length bytes)
length-values t [] = (omega arith, omega arith)
length-values t (b ∷ bs) = grind (arith, some_values, length-append, length-values t bs)

-- ---- how far the run goes

pub run_within : (t : Letters) (bytes : List ℕ) → run_length t bytes ≤ length bytes
unfolding run_length
run_within t bytes = greatest_within _ (length bytes)

pub run_passes : (t : Letters) (bytes : List ℕ) → 0 < run_length t bytes →
    length (flat_map (values_of t) (take (run_length t bytes) bytes)) % 3 ≡ 0
unfolding run_length
run_passes t bytes pos = grind (arith, eqb-true, greatest_passes)

pub run_length-nil : (t : Letters) → run_length t [] ≡ 0
unfolding run_length greatest
run_length-nil t = refl

-- whole triples: the run goes to the end
pub run_length-whole : (t : Letters) (bytes : List ℕ) (b : ℕ) →
    length (flat_map (values_of t) (bytes ++ b ∷ [])) % 3 ≡ 0 →
    run_length t (bytes ++ b ∷ []) ≡ length (bytes ++ b ∷ [])
unfolding run_length
run_length-whole t bytes b e =
    let xs = bytes ++ b ∷ [] in
    let n : length xs ≡ suc (length bytes) = omega (arith, length_push bytes b) in
    let all : take (length xs) xs ≡ xs = take_all (length xs) xs (omega arith) in
    greatest_last (λ k. eqb (length (flat_map (values_of t) (take k xs)) % 3) 0) (length bytes) (length xs) n
    (rw all (eq-eqb _ 0 e))

-- a triple that isn't whole: the run stays as it was
pub run_length-open : (t : Letters) (bytes : List ℕ) (b : ℕ) →
    length (flat_map (values_of t) (bytes ++ b ∷ [])) % 3 ≢ 0 → run_length t (bytes ++ b ∷ []) ≡ run_length t bytes
unfolding run_length
run_length-open t bytes b ne = grind (arith, length_push, take_all, greatest_before, ne_eqb, take-append-le)

-- ---- a counter of a run

pub counts_run_whole : (t : Letters) (c d : RunCounter) (b : ℕ) → d.values ≡ c.values + length (values_of t b) →
    d.values % 3 ≡ 0 → d.run ≡ d.values → CountsAscii [] d.after
    → (bytes : List ℕ) → CountsRun t bytes c → CountsRun t (bytes ++ b ∷ []) d
counts_run_whole t c d b values whole run none bytes counts =
    grind (arith, values_more, run_length-whole, take_all, drop_all)

pub counts_run_open : (t : Letters) (c d : RunCounter) (b : ℕ) → d.values ≡ c.values + length (values_of t b) →
    d.values % 3 ≢ 0 → d.run ≡ c.run
    → ((bytes : List ℕ) → CountsAscii bytes c.after → CountsAscii (bytes ++ b ∷ []) d.after) → (bytes : List ℕ) →
    CountsRun t bytes c → CountsRun t (bytes ++ b ∷ []) d
counts_run_open t c d b values open_triple run more bytes counts =
    grind (arith, values_more, run_length-open, take-append-le, run_within, drop-append-le)

-- ---- how many codewords

pub length-pairs : (vs : List ℕ) → length (pairs vs) ≡ length vs / 3 * 2
length-pairs [] = refl
length-pairs (a ∷ []) = refl
length-pairs (a ∷ b ∷ []) = refl
length-pairs (a ∷ b ∷ c ∷ vs) = let l = length-pairs vs in omega arith

run_need-after : (rest : List ℕ) (n after : ℕ) → after ≡ length (ascii rest) →
    cond (eqb after 0) (1 + n) (2 + n + after) ≡ 1 + (n + length (words_after_run rest))
unfolding ascii
run_need-after rest n after e = grind (arith, eq-eqb, some_ascii, ne_eqb)

pub words_run : (t : Letters) (k : ℕ) (bytes : List ℕ) (run after : ℕ) → k ≤ length bytes →
    run ≡ length (flat_map (values_of t) (take k bytes)) → after ≡ length (ascii (drop k bytes))
    → run_need run after ≡ length (run_and_rest t k bytes)
unfolding run_and_rest
words_run t k bytes run after le r h =
    grind (arith, eq-eqb, some_values, length-append, length-pairs, ne_eqb, run_need-after)

run_need_few : (run after : ℕ) →
    (run + 2 * after ≤ 2 * run_need run after) × (run_need run after ≤ 2 + run / 3 * 2 + after)
run_need_few run after = grind arith

pub run_few : (t : Letters) (bytes : List ℕ) →
    (length bytes ≤ 2 * length (run_and_rest t (run_length t bytes) bytes))
    × (length (run_and_rest t (run_length t bytes) bytes) ≤ 4 * length bytes + 4)
run_few t bytes = grind (
  arith,
  length-values t (take (run_length t bytes) bytes),
  length-ascii (drop (run_length t
      bytes) bytes),
  run_need_few (length (flat_map (values_of t) (take (run_length t bytes) bytes))) (length (ascii (drop
      (run_length t bytes) bytes))),
  words_run t (run_length t bytes) bytes (length (flat_map (values_of t) (take
      (run_length t bytes) bytes))) (length (ascii (drop (run_length t bytes) bytes))) (run_within t bytes) refl refl,
  length-take-le (run_length t bytes) bytes (run_within t bytes),
  length-drop (run_length t bytes) bytes,
  run_within,
  length-values,
  length-ascii,
  run_need_few,
  words_run,
  length-take-le,
  length-drop,
)

-- ---- a turn of the loop that looks how far the run goes

pub over_more : (t : Letters) (bytes : List ℕ) (i over v : ℕ) → i < length bytes →
    v ≡ length (values_of t (get_or bytes i 0)) → over ≡ length (flat_map (values_of t) (take i bytes)) % 3
    → (over + v) % 3 ≡ length (flat_map (values_of t) (take (i + 1) bytes)) % 3
over_more t bytes i over v lt v-is over-is = grind (arith, common_steps, values_more, take_more)

pub whole_more : (t : Letters) (bytes : List ℕ) (i n : ℕ) → i < length bytes →
    n ≡ length (flat_map (values_of t) (take (i + 1) bytes)) % 3 → n ≡ 0 → i + 1 ≡ run_length t (take (i + 1) bytes)
whole_more t bytes i n lt n-is whole = grind (arith, take_more bytes i 0 lt, length-take-le, run_length-whole)

pub whole_same : (t : Letters) (bytes : List ℕ) (i n : ℕ) → i < length bytes →
    n ≡ length (flat_map (values_of t) (take (i + 1) bytes)) % 3 → n ≢ 0 →
    run_length t (take i bytes) ≡ run_length t (take (i + 1) bytes)
whole_same t bytes i n lt n-is open_triple = let more = take_more bytes i 0 lt in grind (arith, run_length-open)

-- ---- the codewords, one part after another

pub run_none : (t : Letters) (k : ℕ) (bytes : List ℕ) → k ≡ 0 → run_and_rest t k bytes ≡ ascii bytes
unfolding run_and_rest
run_none t k bytes e = grind arith

words_after_run-some : (rest : List ℕ) → length rest ≢ 0 → words_after_run rest ≡ 254 ∷ ascii rest
words_after_run-some rest ne = grind arith

pub run_some : (t : Letters) (k : ℕ) (bytes : List ℕ) → k ≢ 0 →
    run_and_rest t k bytes ≡ latch t ∷ (pairs (flat_map (values_of t) (take k bytes)) ++ words_after_run (drop k bytes))
unfolding run_and_rest
run_some t k bytes ne = grind arith

-- a run, and what it leaves
pub run_parts : (t : Letters) (k : ℕ) (bytes front rest out first second third fourth : List ℕ) → k ≢ 0 →
    k < length bytes → front ≡ take k bytes → rest ≡ drop k bytes
    → first ≡ out ++ latch t ∷ [] → second ≡ first ++ pairs (flat_map (values_of t) front) →
    third ≡ second ++ 254 ∷ [] → fourth ≡ third ++ ascii rest → fourth ≡ out ++ run_and_rest t k bytes
run_parts t k bytes front rest out first second third fourth ne lt front-is rest-is a b c d =
    grind (arith, words_after_run-some, length-drop, append_assoc, run_some)

-- a run alone
pub run_alone : (t : Letters) (k : ℕ) (bytes front out first second : List ℕ) → k ≢ 0 → length bytes ≤ k →
    front ≡ take k bytes
    → first ≡ out ++ latch t ∷ [] → second ≡ first ++ pairs (flat_map (values_of t) front) →
    second ≡ out ++ run_and_rest t k bytes
run_alone t k bytes front out first second ne le front-is a b =
    grind (arith, append_assoc, append-nil, drop_all, run_some)

-- a run of no bytes, of some bytes and of all bytes of a text
pub no_run : (n m : ℕ) → n ≡ 0 → false ≡ (ltb 0 n && eqb n m)
no_run n m e = rw e refl

pub part_run : (n m : ℕ) → n < m → false ≡ (ltb 0 n && eqb n m)
part_run n m l = grind arith

pub whole_run : (n m : ℕ) → n ≢ 0 → n ≡ m → true ≡ (ltb 0 n && eqb n m)
whole_run n m ne e = grind arith
