-- What `encode` writes: the codewords of a text (ISO/IEC 16022:2006, 5.2; where the standard leaves a choice, which
-- codewords are written is this project's own rule), and a symbol filled with them.
use Rattle.std.specs.Prelude.{ℕ, zero, suc, ◌+◌, ◌-◌, ◌*◌, ◌/◌, ◌%◌, ◌≤◌, List, [], ◌∷◌, ◌++◌, length, take, drop, Bool, false, ◌&&◌, ◌==◌, nat_lt, nat_le, if◌then◌else◌}
use Rattle.std.specs.{Char.is_ascii_digit, List.flat_map}
use Rattle.dm_encodation.specs.Grammar.{values_of, latch, randomised, pads}
use Rattle.dm_encodation.specs.declared.letters.Letters.{Letters, TheVariants.Capital, TheVariants.Small}
use Rattle.dm_encodation.specs.declared.scheme.Scheme.{Scheme}
use Rattle.dm_encodation.specs.declared.scheme.Scheme.TheVariants.{Ascii, C40, Text, Base256}

-- one byte alone
abbrev pub ascii_byte : ℕ → List ℕ
ascii_byte b = if nat_lt b 128 then (b + 1) ∷ [] else 235 ∷ (b - 127) ∷ []

-- ASCII, from the left: two digits side by side are one codeword.
unfoldable pub ascii : List ℕ → List ℕ
ascii [] = []
ascii (b ∷ []) = ascii_byte b
ascii (b ∷ c ∷ bs) =
    if is_ascii_digit b && is_ascii_digit c then (130 + (10 * (b - 48) + (c - 48))) ∷ ascii bs
    else ascii_byte b ++ ascii (c ∷ bs)

-- the greatest k up to n that passes, or 0
unfoldable pub greatest : (ℕ → Bool) → ℕ → ℕ
greatest p zero = 0
greatest p (suc n) = if p (suc n) then suc n else greatest p n

-- C40 and Text: the number of bytes in the run, the longest prefix whose number of values is a multiple of 3
unfoldable pub run_length : Letters → List ℕ → ℕ
run_length t bytes = greatest (λ k. length (flat_map (values_of t) (take k bytes)) % 3 == 0) (length bytes)

-- three values make two codewords
abbrev pub pairs : List ℕ → List ℕ
pairs (a ∷ b ∷ c ∷ vs) = let v = 1600 * a + 40 * b + c + 1 in (v / 256) ∷ (v % 256) ∷ pairs vs
pairs _ = []

-- the bytes that a run leaves: 254, and then ASCII
abbrev pub words_after_run : List ℕ → List ℕ
words_after_run [] = []
words_after_run (b ∷ bs) = 254 ∷ ascii (b ∷ bs)

-- the first k bytes as a run, and the others; with no run there is no latch
unfoldable pub run_and_rest : Letters → ℕ → List ℕ → List ℕ
run_and_rest t zero bytes = ascii bytes
run_and_rest t (suc k) bytes =
    latch t ∷ (pairs (flat_map (values_of t) (take (suc k) bytes)) ++ words_after_run (drop (suc k) bytes))

-- whether the text is a run and nothing else
abbrev pub is_whole_run : Letters → List ℕ → Bool
is_whole_run t bytes = nat_lt 0 (run_length t bytes) && (run_length t bytes == length bytes)

-- the length codewords of 1 to 1,555 bytes in Base 256
abbrev pub length_words : ℕ → List ℕ
length_words n = if nat_le n 249 then n ∷ [] else (n / 250 + 249) ∷ (n % 250) ∷ []

-- Base 256, the first codeword at position p; for at most 1,555 bytes
unfoldable pub base_256 : ℕ → List ℕ → List ℕ
base_256 p [] = []
base_256 p (b ∷ bs) = 231 ∷ randomised (p + 1) (length_words (length (b ∷ bs)) ++ b ∷ bs)

-- the codewords of the text, the first at position p
unfoldable pub text : Scheme → ℕ → List ℕ → List ℕ
text Ascii p bytes = ascii bytes
text C40 p bytes = run_and_rest Capital (run_length Capital bytes) bytes
text Text p bytes = run_and_rest Small (run_length Small bytes) bytes
text Base256 p bytes = base_256 p bytes

-- How many codewords the text needs, before any pad. In Base 256 no length codewords say more than 1,555 bytes. More
-- bytes are counted with three codewords beside them, a need that no symbol meets.
unfoldable pub need_of : Scheme → List ℕ → ℕ
need_of Ascii bytes = length (text Ascii 1 bytes)
need_of C40 bytes = length (text C40 1 bytes)
need_of Text bytes = length (text Text 1 bytes)
need_of Base256 bytes = if nat_le (length bytes) 1555 then length (text Base256 1 bytes) else length bytes + 3

-- The first k bytes need at most this room, and no longer prefix does.
pub record IsGreatestPrefix (scheme : Scheme) (room : ℕ) (bytes : List ℕ) (k : ℕ) : Type 0 where
  pub within : k ≤ length bytes
  pub fits : need_of scheme (take k bytes) ≤ room
  pub greatest : (j : ℕ) → j ≤ length bytes → need_of scheme (take j bytes) ≤ room → j ≤ k

-- whether the whole text is one run, so that the codewords after it would be read in the run's encodation
abbrev pub ends_in_run : Scheme → List ℕ → Bool
ends_in_run C40 bytes = is_whole_run Capital bytes
ends_in_run Text bytes = is_whole_run Small bytes
ends_in_run _ bytes = false

-- the n codewords after the text, the first at position p: pads, but after a run 254 first where two or more are left
abbrev pub words_after_text : Bool → ℕ → ℕ → List ℕ
words_after_text in_run p n = if in_run && nat_le 2 n then 254 ∷ pads (p + 1) (n - 1) else pads p n

-- the data codewords of a symbol that has `capacity` of them: the head, the text, and what fills the rest
unfoldable pub filled : Scheme → List ℕ → List ℕ → ℕ → List ℕ
filled scheme head bytes capacity =
    let words = head ++ text scheme (length head + 1) bytes in
    words ++ words_after_text (ends_in_run scheme bytes) (length words + 1) (capacity - length words)
