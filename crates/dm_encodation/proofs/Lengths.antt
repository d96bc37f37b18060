-- Codewords read as at most twice as many bytes.
use Rattle.std.proofs.Common.{◌≡◌, ℕ, ◌+◌, ◌*◌, ◌≤◌, List, [], ◌∷◌, ◌++◌, length, refl, arith}
use Rattle.std.specs.List.{flat_map}
use Rattle.std.proofs.lemmas.List.{length-append}
use Rattle.dm_encodation.specs.declared.letters.Letters.{Letters}
use Rattle.dm_encodation.specs.Grammar.{Triple, triple_values, pair, Chars, Segment, Reads}
use Rattle.dm_encodation.specs.Grammar
use Rattle.dm_encodation.proofs.{ReadsToReading.length-randomised, RunWords.length-values}

-- a triple has three values
length-triple_values : (triples : List Triple) → length (flat_map triple_values triples) ≡ 3 * length triples
length-triple_values [] = refl
length-triple_values (t ∷ ts) = let l = length-triple_values ts in omega arith

-- a triple has two codewords
length-pair : (triples : List Triple) → length (flat_map pair triples) ≡ 2 * length triples
length-pair [] = refl
length-pair (t ∷ ts) = let l = length-pair ts in omega arith

-- values spell at most as many bytes as they are
chars_short : (t : Letters) (triples : List Triple) (bytes : List ℕ) → Chars t (flat_map triple_values triples) bytes →
    length bytes ≤ 3 * length triples
chars_short t triples bytes chars = grind (arith, length-values, length-triple_values triples, length-append)

-- a segment has at most two bytes a codeword
segment_short : {p : ℕ} {words after bytes : List ℕ} → Segment p words after bytes → length bytes ≤ 2 * length words
segment_short (Grammar.Segment.character lt) = omega arith
segment_short (Grammar.Segment.digits lm ln) = omega arith
segment_short (Grammar.Segment.upper lt) = omega arith
segment_short (Grammar.Segment.run {t = t} {bytes = bytes} triples fits chars) =
    grind (arith, chars_short t triples bytes chars, length-pair, length-append)
segment_short (Grammar.Segment.open_run {t = t} {bytes = bytes} triples fits chars ends) =
    omega (arith, chars_short t triples bytes chars, length-pair triples)
segment_short {p = p} (Grammar.Segment.bytes {bs = bs} len is_len fits) =
    omega (arith, length-randomised (p + 1) (len ++ bs), length-append len bs)
segment_short {p = p} (Grammar.Segment.rest {bs = bs} fits) = omega (arith, length-randomised (p + 1) (0 ∷ bs))

-- a text has at most two bytes a codeword
pub reads_short : {p : ℕ} {words bytes : List ℕ} → Reads p words bytes → length bytes ≤ 2 * length words
reads_short Grammar.Reads.nothing = omega arith
reads_short Grammar.Reads.padded = omega arith
reads_short (Grammar.Reads.joined words after bytes more segment rest) =
    omega (arith, segment_short segment, reads_short rest, length-append words after, length-append bytes more)
