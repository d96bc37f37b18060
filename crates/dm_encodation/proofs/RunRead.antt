-- What is written in C40 and Text is read.
use Rattle.std.proofs.lemmas.Grind.{common_steps}
use Rattle.std.proofs.Common.{◌≡◌, ℕ, zero, suc, ◌+◌, ◌-◌, ◌*◌, ◌/◌, ◌%◌, ◌<◌, ◌≤◌, true, ◌&&◌, eqb, leb, ltb, List, [], ◌∷◌, ◌++◌, length, take, drop, refl, sym, ap, subst, append_assoc, arith}
use Rattle.std.specs.List.{flat_map, AllByRecursion, list_all}
use Rattle.std.proofs.lemmas.Bool.{ltb-true, cond_both, eq-eqb, ne_eqb, leb-false, agree_below, agree_below_at, and_parts}
use Rattle.std.proofs.lemmas.List.{append-nil, length-drop, take_all, take-append-drop}
use Rattle.dm_encodation.specs.declared.letters.Letters.{Letters}
use Rattle.dm_encodation.specs.Grammar
use Rattle.dm_encodation.specs.Grammar.{Triple, IsTriple, triple_values, pair, Chars, values_below_128, values_of, pads, latch, EndsOpen, Segment, Reads}
use Rattle.dm_encodation.specs.Written.{ascii, run_length, is_whole_run, pairs, words_after_run, run_and_rest, words_after_text}
use Rattle.dm_encodation.proofs.{Reread.ascii_read, Reread.pads_read, RunWords.run_within, RunWords.run_passes}
use Rattle.dm_encodation.proofs.StuckToReading.{append_below}

all_below : (t : Letters) → agree_below (λ b. list_all (λ v. ltb v 40) (values_of t b)) (λ _. true) 256 ≡ true
unfolding values_of values_below_128
all_below t = grind arith

below_40 : (vs : List ℕ) → list_all (λ v. ltb v 40) vs ≡ true → AllByRecursion (λ v. v < 40) vs
below_40 [] e = tt
below_40 (v ∷ vs) e = let both = and_parts _ _ e in (ltb-true _ _ both.0, below_40 vs both.1)

values_fit : (t : Letters) (bytes : List ℕ) → AllByRecursion (λ b. b < 256) bytes →
    AllByRecursion (λ v. v < 40) (flat_map (values_of t) bytes)
values_fit t [] fits = tt
values_fit t (b ∷ bs) fits = append_below (values_of t b) (flat_map (values_of t) bs)
    (below_40 (values_of t b) (agree_below_at (λ b. list_all (λ v. ltb v 40) (values_of t b)) (λ _. true) 256 b
    (all_below t) fits.0)) (values_fit t bs fits.1)

-- values in threes
record Threes (vs : List ℕ) : Type 0 where
  triples : List Triple
  fit : AllByRecursion IsTriple triples
  values : flat_map triple_values triples ≡ vs
  words : flat_map pair triples ≡ pairs vs

threes : (vs : List ℕ) (n : ℕ) → length vs ≡ 3 * n → AllByRecursion (λ v. v < 40) vs → Threes vs
threes [] n e fits = record { triples = []; fit = tt; values = refl; words = refl }
threes (a ∷ []) n e fits = absurd (omega arith)
threes (a ∷ b ∷ []) n e fits = absurd (omega arith)
threes (a ∷ b ∷ c ∷ vs) n e fits =
    let r = threes vs (n - 1) (omega arith) fits.1.1.1 in
    let tr : Triple = record { first = a; second = b; third = c } in
    record {
      triples = tr ∷ r.triples;
      fit = ((fits.0, fits.1.0, fits.1.1.0), r.fit);
      values = ap (λ (l : List ℕ). a ∷ b ∷ c ∷ l) r.values;
      words = ap (λ (l : List ℕ). pair tr ++ l) r.words;
    }

whole_chars : (t : Letters) (bytes : List ℕ) → AllByRecursion (λ b. b < 256) bytes →
    Chars t (flat_map (values_of t) bytes) bytes
whole_chars t bytes fits = grind (arith, Grammar.Unfinished.nothing, append-nil)

-- a run that 254 ends, and then anything that is read
pub closed_run_read : (t : Letters) (p : ℕ) (bytes more after : List ℕ) → AllByRecursion (λ b. b < 256) bytes →
    length (flat_map (values_of t) bytes) % 3 ≡ 0
    → ((q : ℕ) → Reads q after more) →
    Reads p (latch t ∷ (pairs (flat_map (values_of t) bytes) ++ 254 ∷ after)) (bytes ++ more)
closed_run_read t p bytes more after fits threes_of reads =
    let vs = flat_map (values_of t) bytes in
    let r = threes vs (length vs / 3) (omega arith) (values_fit t bytes fits) in
    let chars : Chars t (flat_map triple_values r.triples) bytes = grind (arith, whole_chars) in
    let words = latch t ∷ (flat_map pair r.triples ++ 254 ∷ []) in
    let read : Reads p (words ++ after) (bytes ++ more) = search (arith, Grammar.Reads.joined, Grammar.Segment.run) in
    grind (arith, append_assoc (flat_map pair r.triples) (254 ∷ []) after)

-- a run with at most one codeword after it, a pad
ends_open : (q n : ℕ) → n < 2 → EndsOpen (pads q n)
ends_open q n lt = grind arith

pub open_run_read : (t : Letters) (p q n : ℕ) (bytes : List ℕ) → AllByRecursion (λ b. b < 256) bytes →
    length (flat_map (values_of t) bytes) % 3 ≡ 0 → n < 2
    → Reads p (latch t ∷ (pairs (flat_map (values_of t) bytes) ++ pads q n)) bytes
open_run_read t p q n bytes fits threes_of lt =
    let vs = flat_map (values_of t) bytes in
    let r = threes vs (length vs / 3) (omega arith) (values_fit t bytes fits) in
    let chars : Chars t (flat_map triple_values r.triples) bytes = grind (arith, whole_chars) in
    let words = latch t ∷ flat_map pair r.triples in
    let read : Reads p (words ++ pads q n) (bytes ++ []) = Grammar.Reads.joined words (pads q n) bytes []
    (Grammar.Segment.open_run r.triples r.fit chars (ends_open q n lt)) (pads_read n q (p + length words)) in
    grind (arith, append-nil)

fits_take : (k : ℕ) (bytes : List ℕ) → AllByRecursion (λ b. b < 256) bytes →
    AllByRecursion (λ b. b < 256) (take k bytes)
fits_take k bytes f = grind (arith, common_steps)

fits_drop : (k : ℕ) (bytes : List ℕ) → AllByRecursion (λ b. b < 256) bytes →
    AllByRecursion (λ b. b < 256) (drop k bytes)
fits_drop k bytes f = grind (arith, common_steps)

-- a run, what it leaves, and what fills the room
rest_read : (t : Letters) (k : ℕ) (bytes : List ℕ) (p q n : ℕ) (rest : List ℕ) → drop k bytes ≡ rest →
    AllByRecursion (λ b. b < 256) bytes → k ≤ length bytes
    → length (flat_map (values_of t) (take k bytes)) % 3 ≡ 0
    → Reads p ((latch t ∷ (pairs (flat_map (values_of t) (take k bytes)) ++ words_after_run (drop k bytes))) ++
    words_after_text (eqb k (length bytes)) q n) bytes
rest_read t k bytes p q n [] e fits within passes =
    let whole : k ≡ length bytes = omega (arith, length-drop k bytes, ap length e) in
    let t0 : eqb k (length bytes) ≡ true = eq-eqb k (length bytes) whole in
    let all : take k bytes ≡ bytes = take_all k bytes (omega arith) in
    let passes_all : length (flat_map (values_of t) bytes) % 3 ≡ 0 =
    subst (λ (l : List ℕ). length (flat_map (values_of t) l) % 3 ≡ 0) all passes in
    let G : List ℕ → Type 0 = λ tail. Reads p (latch t ∷ (pairs (flat_map (values_of t) bytes) ++ tail)) bytes in
    let closed : G (254 ∷ pads (q + 1) (n - 1)) =
    subst (λ (l : List ℕ). Reads p
    (latch t ∷ (pairs (flat_map (values_of t) bytes) ++ 254 ∷ pads (q + 1) (n - 1))) l) (append-nil bytes)
    (closed_run_read t p bytes [] (pads (q + 1) (n - 1)) fits passes_all (pads_read (n - 1) (q + 1))) in
    let either : G (words_after_text true q n) = cond_both (leb 2 n) (254 ∷ pads (q + 1) (n - 1)) (pads q n) G
    (λ e. closed) (λ e. let few = leb-false 2 n e in open_run_read t p q n bytes fits passes_all few) in
    let nothing : (pairs (flat_map (values_of t) bytes) ++ []) ++
    words_after_text true q n ≡ pairs (flat_map (values_of t) bytes) ++ words_after_text true q n =
    ap (λ (l : List ℕ). l ++ words_after_text true q n) (append-nil (pairs (flat_map (values_of t) bytes))) in
    rw (t0, e, all) (subst (λ (l : List ℕ). Reads p (latch t ∷ l) bytes) (sym nothing) either)
rest_read t k bytes p q n (b ∷ bs) e fits within passes = grind (
  arith,
  ne_eqb k (length bytes) (λ same. omega (
    arith,
    length-drop k bytes,
    ap length e,
  )),
  length-drop k bytes,
  closed_run_read t p (take k bytes) (b ∷ bs) (ascii (b ∷ bs)
      ++ pads q n) (fits_take k bytes fits) passes (ascii_read (b ∷ bs) (pads q n) (subst (AllByRecursion (λ b. b < 256))
      e (fits_drop k bytes fits)) (pads_read n q)),
  take-append-drop k bytes,
  append_assoc,
)

-- A text in C40 or Text, and the codewords that fill the room after it.
run_text_read : (t : Letters) (k : ℕ) (bytes : List ℕ) (p q n : ℕ) → AllByRecursion (λ b. b < 256) bytes →
    k ≤ length bytes → (0 < k → length (flat_map (values_of t) (take k bytes)) % 3 ≡ 0)
    → Reads p (run_and_rest t k bytes ++ words_after_text (ltb 0 k && eqb k (length bytes)) q n) bytes
unfolding run_and_rest
run_text_read t zero bytes p q n fits within passes = ascii_read bytes (pads q n) fits (pads_read n q) p
run_text_read t (suc k) bytes p q n fits within passes =
    grind (arith, rest_read t (suc k) bytes p q n (drop (suc k) bytes) refl fits within (passes (omega arith)))

pub run_read_back : (t : Letters) (bytes : List ℕ) (p q n : ℕ) → AllByRecursion (λ b. b < 256) bytes
    → Reads p (run_and_rest t (run_length t bytes) bytes ++ words_after_text (is_whole_run t bytes) q n) bytes
run_read_back t bytes p q n fits = grind (arith, run_text_read, run_within, run_passes)
