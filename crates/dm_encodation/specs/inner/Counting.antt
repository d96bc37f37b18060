-- What a counter of codewords knows of the bytes so far, and the pieces that an encoder takes from a text.
use Rattle.std.specs.Prelude.{◌≡◌, ℕ, ◌+◌, ◌*◌, ◌/◌, ◌<◌, List, [], ◌∷◌, length, take, drop, Bool, false, ◌&&◌, ◌==◌, nat_le, if◌then◌else◌, ◌++◌, ◌-◌, ◌≤◌}
use Rattle.std.specs.{Char.is_ascii_digit, List.flat_map, List.AllByRecursion}
use Rattle.dm_encodation.specs.{Grammar.values_of, Written.ascii, Written.run_length, Written.pairs}
use Rattle.dm_encodation.specs.declared.letters.Letters.{Letters, TheVariants.Capital, TheVariants.Small}
use Rattle.dm_encodation.specs.declared.counter.{RunCounter.RunCounter, AsciiCounter.AsciiCounter, Counter.Counter}
use Rattle.dm_encodation.specs.declared.{scheme.Scheme.Scheme, run.Held.Held, ascii.Piece.Piece}
use Rattle.dm_encodation.specs.declared.scheme.Scheme.TheVariants.{Ascii, C40, Text, Base256}
use Rattle.dm_encodation.specs.declared.run.Held.TheVariants.{Nothing, One, Two}
use Rattle.dm_encodation.specs.declared.ascii.Piece.TheVariants.{Digits, Character, Upper}
use Rattle.dm_encodation.specs.declared.counter.Counter.TheVariants as counters

-- whether a text in ASCII ends in a digit that has a codeword of its own
unfoldable pub has_lone_digit : List ℕ → Bool
has_lone_digit [] = false
has_lone_digit (b ∷ []) = is_ascii_digit b
has_lone_digit (b ∷ c ∷ bs) = if is_ascii_digit b && is_ascii_digit c then has_lone_digit bs else has_lone_digit
    (c ∷ bs)

-- a counter of a text in ASCII
pub record CountsAscii (bytes : List ℕ) (c : AsciiCounter) : Type 0 where
  pub words : c.words ≡ length (ascii bytes)
  pub lone : c.lone_digit ≡ has_lone_digit bytes

-- how many codewords n bytes need in Base 256
abbrev pub base_256_need : ℕ → ℕ
base_256_need n = if n == 0 then 0 else if nat_le n 249 then n + 2 else n + 3

-- how many codewords a run of this many values needs, with this many codewords in ASCII after it
abbrev pub run_need : ℕ → ℕ → ℕ
run_need run after =
    if run == 0 then after else
    if after == 0 then 1 + run / 3 * 2 else 2 + run / 3 * 2 + after

-- a counter of a text in C40 or Text
pub record CountsRun (t : Letters) (bytes : List ℕ) (c : RunCounter) : Type 0 where
  pub values : c.values ≡ length (flat_map (values_of t) bytes)
  pub run : c.run ≡ length (flat_map (values_of t) (take (run_length t bytes) bytes))
  pub after : CountsAscii (drop (run_length t bytes) bytes) c.after

-- how the counter of a scheme counts
abbrev pub Counts : Scheme → List ℕ → Counter → Type 0
Counts Ascii bytes (counters.Ascii c) = CountsAscii bytes c
Counts C40 bytes (counters.Run Capital c) = CountsRun Capital bytes c
Counts Text bytes (counters.Run Small c) = CountsRun Small bytes c
Counts Base256 bytes (counters.Base256 n) = n ≡ length bytes
Counts _ _ _ = ⊥

-- a run's counter of at most n bytes has no greater numbers, so that no sum overflows
pub record IsSmallRun (n : ℕ) (c : RunCounter) : Type 0 where
  pub values : c.values ≤ 4 * n
  pub run : c.run ≤ 4 * n
  pub after : c.after.words ≤ 2 * n

-- nor has a scheme's counter
abbrev pub IsSmall : ℕ → Counter → Type 0
IsSmall n (counters.Ascii c) = c.words ≤ 2 * n
IsSmall n (counters.Run t c) = IsSmallRun n c
IsSmall n (counters.Base256 count) = count ≤ n

-- the waiting values in order
abbrev pub held_values : Held → List ℕ
held_values Nothing = []
held_values (One a) = a ∷ []
held_values (Two a b) = a ∷ b ∷ []

-- each of them is a value
abbrev pub AreValues : Held → Type 0
AreValues h = AllByRecursion (λ v. v < 40) (held_values h)

-- These values were taken: whatever values follow, the codewords written and the pairs still to come are the same list.
abbrev pub WritesValues : List ℕ → Held → List ℕ → List ℕ → Held → Type 0
WritesValues old before values new after = (rest : List ℕ)
    → new ++ pairs (held_values after ++ rest) ≡ old ++ pairs (held_values before ++ (values ++ rest))

-- the codewords of a piece
abbrev pub piece_words : Piece → List ℕ
piece_words (Digits n) = (130 + n) ∷ []
piece_words (Character b) = (b + 1) ∷ []
piece_words (Upper b) = 235 ∷ (b - 127) ∷ []

-- whether a text begins with two digits
abbrev pub has_digits : List ℕ → Bool
has_digits (a ∷ b ∷ _) = is_ascii_digit a && is_ascii_digit b
has_digits _ = false

-- the range of a piece's number or byte
abbrev pub IsPiece : Piece → Type 0
IsPiece (Digits n) = n < 100
IsPiece (Character b) = b < 128
IsPiece (Upper b) = 128 ≤ b
