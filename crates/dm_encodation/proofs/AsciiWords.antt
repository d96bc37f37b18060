-- A text in ASCII: the piece at its front, and one byte more at its end.
use Rattle.std.proofs.lemmas.{Grind.common_steps, Bool.lt-ltb, Bool.le-ltb, List.append-nil}
use Rattle.std.proofs.Common.{◌≡◌, ℕ, ◌+◌, ◌-◌, ◌*◌, ◌<◌, ◌≤◌, ◌≢◌, Bool, true, false, ◌&&◌, List, [], ◌∷◌, ◌++◌, length, get_or, drop, refl, sym, ap, ◌∙◌, arith, ◌⊎◌}
use Rattle.std.specs.Char.{is_ascii_digit}
use Rattle.dm_encodation.specs.{Written.ascii_byte, Written.ascii, declared.counter.AsciiCounter.AsciiCounter}
use Rattle.dm_encodation.specs.inner.Counting.{has_digits, has_lone_digit, CountsAscii}

pub ascii-digits : (bytes : List ℕ) → has_digits bytes ≡ true
    → ascii bytes ≡ (130 + (10 * (get_or bytes 0 0 - 48) + (get_or bytes 1 0 - 48))) ∷ ascii (drop 2 bytes)
unfolding ascii
ascii-digits bytes x = grind arith

ascii-byte : (bytes : List ℕ) → length bytes ≢ 0 → has_digits bytes ≡ false
    → ascii bytes ≡ ascii_byte (get_or bytes 0 0) ++ ascii (drop 1 bytes)
unfolding ascii
ascii-byte bytes long x = grind arith

pub ascii-character : (bytes : List ℕ) → length bytes ≢ 0 → has_digits bytes ≡ false
    → get_or bytes 0 0 < 128 → ascii bytes ≡ (get_or bytes 0 0 + 1) ∷ ascii (drop 1 bytes)
ascii-character bytes long x low = ascii-byte bytes long x ∙ rw (lt-ltb _ _ low) refl

pub ascii-upper : (bytes : List ℕ) → length bytes ≢ 0 → has_digits bytes ≡ false
    → 128 ≤ get_or bytes 0 0 → ascii bytes ≡ 235 ∷ (get_or bytes 0 0 - 127) ∷ ascii (drop 1 bytes)
ascii-upper bytes long x high = ascii-byte bytes long x ∙ rw (le-ltb _ _ high) refl

pub ascii-nil : (bytes : List ℕ) → bytes ≡ [] → ascii bytes ≡ []
unfolding ascii
ascii-nil bytes e = rw e refl

-- all is written
pub ascii_done : (out bytes all : List ℕ) → bytes ≡ [] → out ++ ascii bytes ≡ all → out ≡ all
ascii_done out bytes all e h = sym (append-nil out) ∙ ap (λ (x : List ℕ). out ++ x) (sym (ascii-nil bytes e)) ∙ h

-- a byte takes one codeword or two
pub some_words : (b : ℕ) → (1 ≤ length (ascii_byte b)) × (length (ascii_byte b) ≤ 2)
some_words b = grind arith

pub some_ascii : (b : ℕ) (bs : List ℕ) → 1 ≤ length (ascii (b ∷ bs))
unfolding ascii
some_ascii b bs = grind arith

-- a text in ASCII is at least half as long, and at most twice
pub length-ascii : (bytes : List ℕ) →
    (length bytes ≤ 2 * length (ascii bytes)) × (length (ascii bytes) ≤ 2 * length bytes)
unfolding ascii
length-ascii [] = (omega arith, omega arith)
length-ascii (b ∷ []) = grind (arith, some_words b)
length-ascii (b ∷ c ∷ bs) = grind (arith, length-ascii bs, length-ascii (c ∷ bs))

-- ---- one byte more at the end

both_or_not : (b : Bool) → (b ≡ true) ⊎ (b ≡ false)
both_or_not b = grind arith

-- What one byte more does to a text: the last lone digit shares its codeword with it, or it stands alone.
record Pushed (bytes : List ℕ) (c : ℕ) : Type 0 where
  shared : has_lone_digit bytes ≡ true → is_ascii_digit c ≡ true →
      (length (ascii (bytes ++ c ∷ [])) ≡ length (ascii bytes)) × (has_lone_digit (bytes ++ c ∷ []) ≡ false)
  alone : (has_lone_digit bytes && is_ascii_digit c) ≡ false →
      (length (ascii (bytes ++ c ∷ [])) ≡ length (ascii bytes) + length (ascii_byte c)) ×
      (has_lone_digit (bytes ++ c ∷ []) ≡ is_ascii_digit c)

pushed : (bytes : List ℕ) (c : ℕ) → Pushed bytes c
unfolding ascii has_lone_digit
pushed [] c = record { shared = λ e f. absurd cc; alone = λ e. (omega arith, refl) }
pushed (b ∷ []) c = grind arith
pushed (b ∷ d ∷ bs) c = grind (arith, common_steps, both_or_not, pushed bs c, pushed (d ∷ bs) c)

pub not_both : (a b d : Bool) → d ≡ b → ((a ≡ true) × (d ≡ false)) ⊎ (a ≡ false) → (a && b) ≡ false
not_both a b d e given = grind arith

pub counts_none : (c : AsciiCounter) → c.words ≡ 0 → c.lone_digit ≡ false → CountsAscii [] c
unfolding ascii has_lone_digit
counts_none c e f = record { words = e; lone = f }

-- one byte more shares the last lone digit's codeword
pub counts_shared : (c d : AsciiCounter) (b : ℕ) → c.lone_digit ≡ true → is_ascii_digit b ≡ true → d.words ≡ c.words →
    d.lone_digit ≡ false
    → (bytes : List ℕ) → CountsAscii bytes c → CountsAscii (bytes ++ b ∷ []) d
counts_shared c d b lone digit words last bytes counts = grind (arith, pushed bytes b)

-- one byte more stands alone
pub counts_alone : (c d : AsciiCounter) (b : ℕ) → (c.lone_digit && is_ascii_digit b) ≡ false →
    d.words ≡ c.words + length (ascii_byte b) → d.lone_digit ≡ is_ascii_digit b
    → (bytes : List ℕ) → CountsAscii bytes c → CountsAscii (bytes ++ b ∷ []) d
counts_alone c d b not_shared words last bytes counts = grind (arith, pushed bytes b)
