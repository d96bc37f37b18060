-- A text in Base 256: its codewords one after another, how many they are, and that they are read.
use Rattle.std.proofs.Common.{◌≡◌, ℕ, ◌+◌, ◌-◌, ◌*◌, ◌/◌, ◌%◌, ◌<◌, ◌≤◌, ◌≢◌, true, false, cond, ◌⊎◌, eqb, leb, List, [], ◌∷◌, ◌++◌, length, refl, subst, append_assoc, arith, inl, inr}
use Rattle.std.specs.List.{AllByRecursion}
use Rattle.std.proofs.lemmas.Bool.{cases_lt, eqb-true, le-leb, lt-leb, ne_eqb}
use Rattle.std.proofs.lemmas.List.{append-nil, length-append, nil_from_length}
use Rattle.dm_encodation.specs.{inner.Counting.base_256_need, Grammar.IsLength, Grammar.Reads, Grammar.randomised}
use Rattle.dm_encodation.specs.Grammar
use Rattle.dm_encodation.specs.Written.{length_words, base_256}
use Rattle.dm_encodation.proofs.ReadsToReading.{length-randomised, randomised-append}

-- the length codewords of n bytes say n
is_length : (n : ℕ) → 0 < n → n ≤ 1555 → IsLength (length_words n) n
is_length n pos le =
    elim (cases_lt 249 n) [
      | inl big ↦
          let t : leb n 249 ≡ false = lt-leb n 249 big in
          let whole : 250 * (n / 250 + 249 - 249) + n % 250 ≡ n = omega arith in
          grind (arith, Grammar.IsLength.two)
      | inr small ↦ let t : leb n 249 ≡ true = le-leb n 249 small in rw t (Grammar.IsLength.one pos (omega arith))
    ]

-- the codewords of a text in Base 256 read as its bytes
pub base_256_read : (p : ℕ) (bytes rest : List ℕ) → AllByRecursion (λ b. b < 256) bytes → length bytes ≤ 1555 →
    ((q : ℕ) → Reads q rest []) → Reads p (base_256 p bytes ++ rest) bytes
unfolding base_256
base_256_read p [] rest fits le more = more p
base_256_read p (b ∷ bs) rest fits le more =
    let n = length (b ∷ bs) in
    let words = 231 ∷ randomised (p + 1) (length_words n ++ b ∷ bs) in
    subst (λ (l : List ℕ). Reads p (words ++ rest) l) (append-nil (b ∷ bs))
    (Grammar.Reads.joined words rest (b ∷ bs) []
    (Grammar.Segment.bytes (length_words n) (is_length n (omega arith) le) fits) (more (p + length words)))

-- the latch, the length codewords and the bytes, counted
length-length_words : (n : ℕ) → n ≤ 249 ⊎ (249 < n) → 1 + length (length_words n) + n ≡ cond (leb n 249) (n + 2) (n + 3)
length-length_words n given = grind arith

-- up to 249 bytes, or more
small_or_not : (n : ℕ) → n ≤ 249 ⊎ (249 < n)
small_or_not n = elim (cases_lt 249 n) [ inl lt ↦ inr lt | inr le ↦ inl le ]

-- the number of codewords in Base 256
pub length-base_256 : (p : ℕ) (bytes : List ℕ) → length (base_256 p bytes) ≡ base_256_need (length bytes)
unfolding base_256
length-base_256 p bytes = grind (arith, ne_eqb, length-length_words, small_or_not, length-randomised, length-append)

-- a text of length 0 is empty
pub empty_is : (bytes : List ℕ) → eqb (length bytes) 0 ≡ true → bytes ≡ []
empty_is bytes e = nil_from_length bytes (eqb-true _ _ e)

-- an empty text has no codewords
pub base_256_nil : (p : ℕ) (bytes : List ℕ) → bytes ≡ [] → base_256 p bytes ≡ []
unfolding base_256
base_256_nil p bytes e = rw e refl

-- the codewords, one part after another
pub base_256_parts : (p : ℕ) (bytes out first second third : List ℕ) (q : ℕ) → length bytes ≢ 0 →
    first ≡ out ++ 231 ∷ [] → second ≡ first ++ randomised (p + 1) (length_words (length bytes))
    → q ≡ p + 1 + length (length_words (length bytes)) → third ≡ second ++ randomised q bytes →
    third ≡ out ++ base_256 p bytes
unfolding base_256
base_256_parts p bytes out first second third q ne a b c d = grind (arith, append_assoc, randomised-append)
