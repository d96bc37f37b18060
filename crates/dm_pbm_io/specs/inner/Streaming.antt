-- How far the image of a grid is drawn, which bytes a source gave and a sink took, and how far a header is read.
use Rattle.std.specs.Prelude.{◌≡◌, ℕ, ◌+◌, ◌*◌, ◌<◌, Bool, false, nat_lt, List, length, get_or, if◌then◌else◌, ◌≢◌, true, [], ◌∷◌, Option, MatchOption, ◌-◌, ◌==◌, ◌≤◌, min, Some, None}
use Rattle.std.specs.Io.KnownBytes.{Appends, Consumes, IsAtEnd, Keeps}
use Rattle.std.specs.Char.{is_ascii_digit}
use Rattle.dm_size.specs.Squares.{Square}
use Rattle.dm_pbm_io.specs.{Image.pixel_with_quiet_zone, declared.fault.PbmFault.PbmFault, Header.is_white}
use Rattle.relay_streams.specs.Streams.{Fills, InputView, OutputView}
use Rattle.dm_pbm_io.specs.declared.{fault.PbmFault.TheVariants.Read, header.HeaderState.HeaderState}
use Rattle.dm_pbm_io.specs.declared.header.HeaderState.TheVariants.{AfterMagic, BeforeWidth, InWidth, BeforeHeight, InHeight, Done}

-- the pixels of the image of a square, w wide: that many rows of the square are drawn, and all other pixels are light
pub record IsDrawnTo (s : Square) (w rows : ℕ) (pixels : List Bool) : Type 0 where
  pub count : length pixels ≡ w * w
  pub drawn : (r c : ℕ) → r < w → c < w
      → get_or pixels (r * w + c) false ≡ (if nat_lt r (rows + 1) then pixel_with_quiet_zone s r c else false)

-- these bytes were taken, and no read has failed
pub record TakesBytes (old new : InputView) (bytes : List ℕ) : Type 0 where
  pub consumed : Consumes old.remaining new.remaining bytes
  pub kept : new.has_failed ≡ old.has_failed

-- the end was found, and no read has failed
pub record FindsEnd (old new : InputView) : Type 0 where
  pub nothing : Keeps old.remaining new.remaining
  pub end : IsAtEnd new.remaining
  pub kept : new.has_failed ≡ old.has_failed

-- the next byte or the end
abbrev pub TakesNext : InputView → InputView → Option ℕ → Type 0
TakesNext old new found = MatchOption found (FindsEnd old new) (λ byte. TakesBytes old new (byte ∷ []))

-- the first `count` bytes of the buffer were taken, and whether a read has failed stays as it was
pub record TakesFront (old new : InputView) (buffer : List ℕ) (count : ℕ) : Type 0 where
  pub filled : Fills old.remaining new.remaining buffer count
  pub kept : new.has_failed ≡ old.has_failed

-- a read has failed where the fault is `Read`, and else none
pub record Remembers (old new : InputView) (fault : PbmFault) : Type 0 where
  pub failed : fault ≡ Read → new.has_failed ≡ true
  pub kept : fault ≢ Read → new.has_failed ≡ old.has_failed

-- these bytes were taken until the fault
pub record TakesUntil (old new : InputView) (bytes : List ℕ) (fault : PbmFault) : Type 0 where
  pub consumed : Consumes old.remaining new.remaining bytes
  pub remembers : Remembers old new fault

-- this text was appended, and no write has failed
pub record AppendsText (old new : OutputView) (text : List ℕ) : Type 0 where
  pub appended : Appends old.contents new.contents text
  pub kept : new.has_failed ≡ old.has_failed

-- a number with one more digit; above the greatest side it stays
abbrev pub with_digit : ℕ → ℕ → ℕ
with_digit n d = min (10 * n + (d - 48)) 1025

-- the state after one more sign
abbrev pub next_state : HeaderState → ℕ → Option HeaderState
next_state AfterMagic s = if is_white s then Some BeforeWidth else None
next_state BeforeWidth s =
    if is_white s then Some BeforeWidth else if is_ascii_digit s then Some (InWidth (with_digit 0 s)) else None
next_state (InWidth n) s =
    if is_ascii_digit s then Some (InWidth (with_digit n s))
    else if is_white s then (if n == 0 then None else Some (BeforeHeight n)) else None
next_state (BeforeHeight w) s =
    if is_white s then Some (BeforeHeight w) else if is_ascii_digit s then Some (InHeight w (with_digit 0 s)) else None
next_state (InHeight w n) s =
    if is_ascii_digit s then Some (InHeight w (with_digit n s))
    else if is_white s then (if n == 0 then None else Some (Done w n)) else None
next_state (Done w h) s = None

-- the state after these signs
abbrev pub walk : Option HeaderState → List ℕ → Option HeaderState
walk state [] = state
walk None (s ∷ text) = None
walk (Some state) (s ∷ text) = walk (next_state state s) text

-- the number at the state stays within its bound
abbrev pub HasNumber : HeaderState → Type 0
HasNumber (InWidth n) = n ≤ 1025
HasNumber (BeforeHeight w) = w ≤ 1025
HasNumber (InHeight w n) = (w ≤ 1025) × (n ≤ 1025)
HasNumber (Done w h) = (w ≤ 1025) × (h ≤ 1025)
HasNumber _ = Unit {0}
