-- Reading codeword by codeword, with a mode, as the code does. Grammar.antt says what is read; lemmas join the two.
use Rattle.std.specs.Prelude.{ℕ, zero, suc, ◌+◌, ◌-◌, ◌*◌, ◌/◌, ◌%◌, List, [], ◌∷◌, ◌++◌, Bool, true, false, ◌&&◌, not, Option, Some, None, Result, Ok, Err, ◌==◌, nat_lt, nat_le, if◌then◌else◌, ◌≡◌, ◌<◌, ◌≤◌, length, take}
use Rattle.dm_encodation.specs.declared.letters.Letters.{Letters, TheVariants.Capital, TheVariants.Small}
use Rattle.dm_encodation.specs.declared.mode.{Set.Set, Pending.Pending, Mode.Mode, ValueFault.ValueFault}
use Rattle.dm_encodation.specs.declared.mode.Set.TheVariants.{Basic, First, Second, Third}
use Rattle.dm_encodation.specs.declared.mode.Mode.TheVariants.{Ascii, Upper, Run, Half, Length, LongLength, Bytes, Rest, Padded}
use Rattle.dm_encodation.specs.declared.mode.ValueFault.TheVariants.{Fnc1, Missing}
use Rattle.dm_encodation.specs.declared.{fault.DecodeFault.DecodeFault, reader.Decoded.Decoded}
use Rattle.dm_encodation.specs.declared.fault.DecodeFault.TheVariants.{Unsupported, Reserved, Cut}
use Rattle.dm_encodation.specs.declared.reader.Decoded.TheVariants.{Nothing, One, Two, Three}

infixl 10 ◌>>=◌
-- goes on with a result, if there is one
abbrev pub ◌>>=◌ : {A B E : Type 0} → Result A E → (A → Result B E) → Result B E
(Ok x) >>= f = f x
(Err e) >>= f = Err e

-- bytes in front of what is read
abbrev pub prepend : List ℕ → Result (List ℕ) DecodeFault → Result (List ℕ) DecodeFault
prepend front read = read >>= λ more. Ok (front ++ more)

-- what a codeword does: the next mode, and the bytes that it gives
abbrev pub Stepped : Type 0
Stepped = Result (Mode × List ℕ) DecodeFault

-- no character is pending
abbrev pub no_pending : Pending
no_pending = record { upper = false; set = Basic }

-- a codeword in ASCII
unfoldable pub ascii_step : ℕ → ℕ → Stepped
ascii_step p w =
    if w == 0 then Err (Reserved p w) else
    if nat_le w 128 then Ok (Ascii, (w - 1) ∷ []) else
    if w == 129 then Ok (Padded, []) else
    if nat_le w 229 then Ok (Ascii, (48 + (w - 130) / 10) ∷ (48 + (w - 130) % 10) ∷ []) else
    if w == 230 then Ok (Run Capital no_pending, []) else
    if w == 231 then Ok (Length, []) else
    if w == 235 then Ok (Upper, []) else
    if w == 239 then Ok (Run Small no_pending, []) else
    if nat_le w 241 then Err (Unsupported p w) else Err (Reserved p w)

-- the codeword after Upper Shift
unfoldable pub upper_step : ℕ → ℕ → Stepped
upper_step p w =
    if w == 0 then Err (Reserved p w) else
    if nat_le w 128 then Ok (Ascii, (w + 127) ∷ []) else Err (Reserved p w)

-- The byte of a value in a set, before Upper Shift adds 128.
unfoldable pub byte_in : Letters → Set → ℕ → Option ℕ
byte_in t Basic v =
    if nat_lt v 3 then None else
    if v == 3 then Some 32 else
    if nat_lt v 14 then Some (v + 44) else
    if nat_lt v 40 then Some (v + letter t) else None
  where
    letter : Letters → ℕ
    letter Capital = 51
    letter Small = 83
byte_in t First v = if nat_lt v 32 then Some v else None
byte_in t Second v =
    if nat_lt v 15 then Some (v + 33) else
    if nat_lt v 22 then Some (v + 43) else
    if nat_lt v 27 then Some (v + 69) else None
byte_in Capital Third v = if nat_lt v 32 then Some (v + 96) else None
byte_in Small Third v =
    if v == 0 then Some 96 else
    if nat_lt v 27 then Some (v + 64) else
    if nat_lt v 32 then Some (v + 96) else None

-- what values do: what is then pending, and the bytes of the characters that they end
abbrev pub Valued : Type 0
Valued = Result (Pending × List ℕ) ValueFault

-- the end of a character
abbrev pub character_ended : Bool → Option ℕ → Valued
character_ended up None = Err Missing
character_ended up (Some b) = Ok (no_pending, (if up then b + 128 else b) ∷ [])

-- what a value does: it is a shift, the second half of Upper Shift, or ends a character
unfoldable pub value_step : Letters → Pending → ℕ → Valued
value_step t s v = by_set s.upper s.set
  where
    by_set : Bool → Set → Valued
    by_set up Basic =
        if v == 0 then Ok (record { upper = up; set = First }, []) else
        if v == 1 then Ok (record { upper = up; set = Second }, []) else
        if v == 2 then Ok (record { upper = up; set = Third }, []) else
        character_ended up (byte_in t Basic v)
    by_set up Second =
        if v == 27 then Err Fnc1 else
        if v == 30 && not up then Ok (record { upper = true; set = Basic }, []) else
        character_ended up (byte_in t Second v)
    by_set up First = character_ended up (byte_in t First v)
    by_set up Third = character_ended up (byte_in t Third v)

-- values one after another
abbrev pub values_step : Letters → Pending → List ℕ → Valued
values_step t s [] = Ok (s, [])
values_step t s (v ∷ vs) = value_step t s v >>= λ a. values_step t a.0 vs >>= λ b. Ok (b.0, a.1 ++ b.1)

-- a fault of a pair is at its first codeword
abbrev pub at_pair : Letters → ℕ → ℕ → Valued → Stepped
at_pair t p w (Ok a) = Ok (Run t a.0, a.1)
at_pair t p w (Err Fnc1) = Err (Unsupported p w)
at_pair t p w (Err Missing) = Err (Reserved p w)

-- a pair of codewords
unfoldable pub pair_step : Letters → Pending → ℕ → ℕ → ℕ → Stepped
pair_step t s p w x =
    let v = 256 * w + x in
    if v == 0 then Err (Reserved p w) else
    if nat_lt 64000 v then Err (Reserved p w) else
    at_pair t p w (values_step t s (((v - 1) / 1600) ∷ ((v - 1) / 40 % 40) ∷ ((v - 1) % 40) ∷ []))

-- a value taken out of the 255-state algorithm
unfoldable pub value_255 : ℕ → ℕ → ℕ
value_255 p w = let shift = (149 * p) % 255 + 1 in if nat_le shift w then w - shift else w + 256 - shift

-- the mode in which this many bytes of Base 256 are left
abbrev pub bytes_left : ℕ → ℕ → Mode
bytes_left zero at = Ascii
bytes_left (suc n) at = Bytes (suc n) at

-- the codeword at position p
unfoldable pub step : Mode → ℕ → ℕ → Stepped
step Ascii p w = ascii_step p w
step Upper p w = upper_step p w
step (Run t s) p w = if w == 254 then Ok (Ascii, []) else Ok (Half t s w, [])
step (Half t s a) p w = pair_step t s (p - 1) a w
step Length p w = let n = value_255 p w in
    if n == 0 then Ok (Rest, []) else if nat_lt n 250 then Ok (bytes_left n (p - 1), []) else Ok (LongLength n, [])
step (LongLength v) p w = let x = value_255 p w in
    if nat_lt x 250 then Ok (bytes_left (250 * (v - 249) + x) (p - 2), []) else Err (Reserved p w)
step (Bytes n at) p w = Ok (bytes_left (n - 1) at, value_255 p w ∷ [])
step Rest p w = Ok (Rest, value_255 p w ∷ [])
step Padded p w = Ok (Padded, [])

-- what the end means where the mode isn't Half; p is the position after the last codeword
abbrev pub ended : Mode → ℕ → Result (List ℕ) DecodeFault
ended Upper p = Err (Cut (p - 1))
ended Length p = Err (Cut (p - 1))
ended (LongLength v) p = Err (Cut (p - 2))
ended (Bytes n at) p = Err (Cut at)
ended _ p = Ok []

-- What the end means: a codeword that a run left over is read in ASCII.
unfoldable pub finish : Mode → ℕ → Result (List ℕ) DecodeFault
finish (Half t s a) p = ascii_step (p - 1) a >>= λ n. prepend n.1 (ended n.0 p)
finish m p = ended m p

-- the bytes of the codewords from position p on, or the fault at which reading stops
unfoldable pub reading : Mode → ℕ → List ℕ → Result (List ℕ) DecodeFault
reading m p [] = finish m p
reading m p (w ∷ ws) = step m p w >>= λ n. prepend n.1 (reading n.0 (p + 1) ws)

-- ---- The results of the reader's functions with their bytes as lists, as they stand above.

-- the bytes that one codeword gives
abbrev pub bytes_of : Decoded → List ℕ
bytes_of Nothing = []
bytes_of (One a) = a ∷ []
bytes_of (Two a b) = a ∷ b ∷ []
bytes_of (Three a b c) = a ∷ b ∷ c ∷ []

-- the byte that one value gives, if any
abbrev pub option_bytes : Option ℕ → List ℕ
option_bytes None = []
option_bytes (Some b) = b ∷ []

-- the result of a step or of three values, of the end of the codewords, of a value, and of an end without bytes
abbrev pub seen : {X E : Type 0} → Result (X × Decoded) E → Result (X × List ℕ) E
seen (Ok x) = Ok (x.0, bytes_of x.1)
seen (Err f) = Err f

abbrev pub seen_end : Result Decoded DecodeFault → Result (List ℕ) DecodeFault
seen_end (Ok x) = Ok (bytes_of x)
seen_end (Err f) = Err f

abbrev pub seen_value : Result (Pending × Option ℕ) ValueFault → Valued
seen_value (Ok x) = Ok (x.0, option_bytes x.1)
seen_value (Err f) = Err f

abbrev pub seen_unit : Result (Unit {0}) DecodeFault → Result (List ℕ) DecodeFault
seen_unit (Ok x) = Ok []
seen_unit (Err f) = Err f

-- a mode that the reader can be in before position p
abbrev pub IsMode : Mode → ℕ → Type 0
IsMode Upper p = 1 < p
IsMode (Half t s a) p = 1 < p
IsMode Length p = 1 < p
IsMode (LongLength v) p = (2 < p) × (250 ≤ v)
IsMode (Bytes n at) p = 0 < n
IsMode _ p = Unit {0}

-- the fault of a pair at position p whose first codeword is w
abbrev pub fault_of : ValueFault → ℕ → ℕ → DecodeFault
fault_of Fnc1 p w = Unsupported p w
fault_of Missing p w = Reserved p w

-- these bytes are the first of a room, and so many; or there is no room for all of them
abbrev pub Holds : List ℕ → Option ℕ → List ℕ → Type 0
Holds room (Some count) bytes = (count ≤ length room) × (take count room ≡ bytes)
Holds room None bytes = length room < length bytes

-- the answer is the fault that is read, or a room holds the bytes that are read
abbrev pub Collects : List ℕ → Result (Option ℕ) DecodeFault → Result (List ℕ) DecodeFault → Type 0
Collects room (Ok count) read = (bytes : List ℕ) × (read ≡ Ok bytes) × Holds room count bytes
Collects room (Err f) read = read ≡ Err f
