-- What a symbol's data codewords read as, and their characters and pads (ISO/IEC 16022:2006, 5.2 and Annex B).
use Rattle.std.specs.Prelude.{◌≡◌, ℕ, ◌+◌, ◌-◌, ◌*◌, ◌/◌, ◌%◌, ◌<◌, ◌⊎◌, List, [], ◌∷◌, ◌++◌, nat_lt, if◌then◌else◌, zero, suc, nat_le, ◌≢◌, ◌≤◌, length, take, get_or}
use Rattle.std.specs.List.{flat_map, AllByRecursion}
use Rattle.dm_encodation.specs.declared.letters.Letters.{Letters, TheVariants.Capital, TheVariants.Small}
use Rattle.dm_encodation.specs.declared.fault.DecodeFault.{DecodeFault}
use Rattle.dm_encodation.specs.declared.fault.DecodeFault.TheVariants.{Unsupported, Reserved, Cut}

-- The values of a byte below 128: a value of the basic set from 3 on, or a shift 0, 1, 2 and a value of set 1, 2, 3.
unfoldable pub values_below_128 : Letters → ℕ → List ℕ
values_below_128 t b =
    if nat_lt b 32 then 0 ∷ b ∷ [] else
    if nat_lt b 33 then 3 ∷ [] else
    if nat_lt b 48 then 1 ∷ (b - 33) ∷ [] else
    if nat_lt b 58 then (b - 44) ∷ [] else
    if nat_lt b 65 then 1 ∷ (b - 43) ∷ [] else
    if nat_lt b 91 then capital t b else
    if nat_lt b 96 then 1 ∷ (b - 69) ∷ [] else
    if nat_lt b 97 then 2 ∷ 0 ∷ [] else
    if nat_lt b 123 then small t b else
    2 ∷ (b - 96) ∷ []
  where
    capital : Letters → ℕ → List ℕ
    capital Capital b = (b - 51) ∷ []
    capital Small b = 2 ∷ (b - 64) ∷ []

    small : Letters → ℕ → List ℕ
    small Capital b = 2 ∷ (b - 96) ∷ []
    small Small b = (b - 83) ∷ []

-- The values of a byte: Upper Shift (1, 30) adds 128.
unfoldable pub values_of : Letters → ℕ → List ℕ
values_of t b = if nat_lt b 128 then values_below_128 t b else 1 ∷ 30 ∷ values_below_128 t (b - 128)

-- What an unfinished character has so far: nothing, a shift, Upper Shift, or both.
pub data Unfinished : List ℕ → Type 0 where
  nothing : Unfinished []
  shift : {s : ℕ} → s < 3 → Unfinished (s ∷ [])
  upper : Unfinished (1 ∷ 30 ∷ [])
  upper_shift : {s : ℕ} → s < 3 → Unfinished (1 ∷ 30 ∷ s ∷ [])

-- The values spell these bytes as whole characters, and then at most one unfinished character.
pub record Chars (t : Letters) (values bytes : List ℕ) : Type 0 where
  pub tail : List ℕ
  pub unfinished : Unfinished tail
  pub spelled : values ≡ flat_map (values_of t) bytes ++ tail
  pub fits : AllByRecursion (λ b. b < 256) bytes

-- The value v is the first without a meaning: the values before it spell bytes, and with it they spell none.
pub record IsMeaningless (t : Letters) (values : List ℕ) (v : ℕ) : Type 0 where
  pub bytes : List ℕ
  pub before : Chars t values bytes
  pub none : (others : List ℕ) → Chars t (values ++ v ∷ []) others → ⊥

-- FNC1, the value 27 of set 2: what is unfinished before it is the shift to set 2, with or without Upper Shift
abbrev pub IsFnc1 : {t : Letters} {values : List ℕ} {v : ℕ} → IsMeaningless t values v → Type 0
IsFnc1 {v = v} m = (v ≡ 27) × ((m.before.tail ≡ 1 ∷ []) ⊎ (m.before.tail ≡ 1 ∷ 30 ∷ 1 ∷ []))

-- Three values of a run: they make a number, and that makes two codewords, a pair.
pub record Triple : Type 0 where
  pub first : ℕ
  pub second : ℕ
  pub third : ℕ

-- each of the three is a value
abbrev pub IsTriple : Triple → Type 0
IsTriple t = (t.first < 40) × (t.second < 40) × (t.third < 40)

-- the three values in order
abbrev pub triple_values : Triple → List ℕ
triple_values t = t.first ∷ t.second ∷ t.third ∷ []

-- the two codewords of three values
abbrev pub pair : Triple → List ℕ
pair t = let v = 1600 * t.first + 40 * t.second + t.third + 1 in (v / 256) ∷ (v % 256) ∷ []

-- ---- Words that depend on where they stand: pads (the 253-state algorithm) and Base 256 (the 255-state algorithm) of
-- ISO/IEC 16022:2006, Annex B. A position counts the symbol's data codewords from 1.

-- the 255-state algorithm: how a value of Base 256 stands at position p
unfoldable pub state_255 : ℕ → ℕ → ℕ
state_255 p value = let sum = value + ((149 * p) % 255 + 1) in if nat_le sum 255 then sum else sum - 256

-- the values one after another, the first at position p
abbrev pub randomised : ℕ → List ℕ → List ℕ
randomised p [] = []
randomised p (value ∷ values) = state_255 p value ∷ randomised (p + 1) values

-- the 253-state algorithm: how a pad but the first stands at position p
unfoldable pub state_253 : ℕ → ℕ
state_253 p = let sum = 129 + ((149 * p) % 253 + 1) in if nat_le sum 254 then sum else sum - 254

-- n pads other than the first, from position p on
abbrev pub later_pads : ℕ → ℕ → List ℕ
later_pads p zero = []
later_pads p (suc n) = state_253 p ∷ later_pads (p + 1) n

-- n pads, the first at position p
abbrev pub pads : ℕ → ℕ → List ℕ
pads p zero = []
pads p (suc n) = 129 ∷ later_pads (p + 1) n

-- ---- What a symbol's data codewords read as, from ASCII on, and where they are stuck (ISO/IEC 16022:2006, 5.2). How a
-- run of C40 or Text ends, and what a pending shift does there, is this project's own rule.

-- the codeword that begins a run
abbrev pub latch : Letters → ℕ
latch Capital = 230
latch Small = 239

-- These are the length codewords of n bytes, before they are randomised.
pub data IsLength : List ℕ → ℕ → Type 0 where
  one : {n : ℕ} → 0 < n → n < 250 → IsLength (n ∷ []) n
  two : {v w : ℕ} → 250 ≤ v → v < 256 → w < 250 → IsLength (v ∷ w ∷ []) (250 * (v - 249) + w)

-- what may follow a run that 254 doesn't end: no codeword, or one codeword that isn't 254
abbrev pub EndsOpen : List ℕ → Type 0
EndsOpen [] = Unit {0}
EndsOpen (w ∷ []) = w ≢ 254
EndsOpen (_ ∷ _ ∷ _) = ⊥

-- Segment p words after bytes: these codewords, the first at position p, are one segment that says these bytes, where
-- the codewords `after` follow them to the end.
pub data Segment : ℕ → List ℕ → List ℕ → List ℕ → Type 0 where
  character : {p b : ℕ} {after : List ℕ} → b < 128 → Segment p ((b + 1) ∷ []) after (b ∷ [])
  digits : {p m n : ℕ} {after : List ℕ} → m < 10 → n < 10
      → Segment p ((130 + (10 * m + n)) ∷ []) after ((48 + m) ∷ (48 + n) ∷ [])
  upper : {p b : ℕ} {after : List ℕ} → b < 128 → Segment p (235 ∷ (b + 1) ∷ []) after ((b + 128) ∷ [])
  run : {p : ℕ} {t : Letters} {after bytes : List ℕ} (triples : List Triple) → AllByRecursion IsTriple triples
      → Chars t (flat_map triple_values triples) bytes
      → Segment p (latch t ∷ (flat_map pair triples ++ 254 ∷ [])) after bytes
  open_run : {p : ℕ} {t : Letters} {after bytes : List ℕ} (triples : List Triple) → AllByRecursion IsTriple triples
      → Chars t (flat_map triple_values triples) bytes → EndsOpen after
      → Segment p (latch t ∷ flat_map pair triples) after bytes
  bytes : {p : ℕ} {after bs : List ℕ} (len : List ℕ) → IsLength len (length bs) → AllByRecursion (λ b. b < 256) bs
      → Segment p (231 ∷ randomised (p + 1) (len ++ bs)) after bs
  rest : {p : ℕ} {bs : List ℕ} → AllByRecursion (λ b. b < 256) bs → Segment p (231 ∷ randomised (p + 1) (0 ∷ bs)) [] bs

-- Reads p words bytes: from position p on the codewords are segments and the end of the text, which are these bytes.
pub data Reads : ℕ → List ℕ → List ℕ → Type 0 where
  nothing : {p : ℕ} → Reads p [] []
  padded : {p : ℕ} {any : List ℕ} → Reads p (129 ∷ any) []
  joined : {p : ℕ} (words after bytes more : List ℕ) → Segment p words after bytes
      → Reads (p + length words) after more → Reads p (words ++ after) (bytes ++ more)

-- FNC1, Structured Append, Reader Programming, Macro, X12, EDIFACT, ECI
abbrev pub IsUnsupported : ℕ → Type 0
IsUnsupported w = ((232 ≤ w) × (w ≤ 234)) ⊎ ((236 ≤ w) × (w ≤ 238)) ⊎ (w ≡ 240) ⊎ (w ≡ 241)

-- The codewords w x are the next pair of a run after these triples, and the value at this place of the pair is the
-- first of the run that has no meaning.
pub record NextMeaningless (t : Letters) (triples : List Triple) (w x : ℕ) : Type 0 where
  pub next : Triple
  pub place : ℕ
  pub is_triple : IsTriple next
  pub spelled : pair next ≡ w ∷ x ∷ []
  pub in_pair : place < 3
  pub meaningless : IsMeaningless t (flat_map triple_values triples ++ take place (triple_values next))
      (get_or (triple_values next) place 0)

-- After these triples of a run, the codewords w x aren't another pair of it.
pub data BadPair (t : Letters) : ℕ → List Triple → ℕ → ℕ → DecodeFault → Type 0 where
  no_value : {p w x : ℕ} {triples : List Triple} → (256 * w + x ≡ 0) ⊎ (64000 < 256 * w + x)
      → BadPair t p triples w x (Reserved p w)
  fnc1 : {p w x : ℕ} {triples : List Triple} (n : NextMeaningless t triples w x) → IsFnc1 n.meaningless
      → BadPair t p triples w x (Unsupported p w)
  meaningless : {p w x : ℕ} {triples : List Triple} (n : NextMeaningless t triples w x) → (IsFnc1 n.meaningless → ⊥)
      → BadPair t p triples w x (Reserved p w)

-- StuckHere p words fault: a segment should begin at position p, but these codewords stand there to the end.
pub data StuckHere : ℕ → List ℕ → DecodeFault → Type 0 where
  unsupported : {p w : ℕ} {after : List ℕ} → IsUnsupported w → StuckHere p (w ∷ after) (Unsupported p w)
  reserved : {p w : ℕ} {after : List ℕ} → (w ≡ 0) ⊎ (242 ≤ w) → StuckHere p (w ∷ after) (Reserved p w)
  cut_upper : {p : ℕ} → StuckHere p (235 ∷ []) (Cut p)
  bad_upper : {p x : ℕ} {after : List ℕ} → (x ≡ 0) ⊎ (128 < x) → StuckHere p (235 ∷ x ∷ after) (Reserved (p + 1) x)
  no_length : {p : ℕ} → StuckHere p (231 ∷ []) (Cut p)
  half_length : {p v : ℕ} → 250 ≤ v → v < 256 → StuckHere p (231 ∷ state_255 (p + 1) v ∷ []) (Cut p)
  bad_length : {p v x : ℕ} {after : List ℕ} → 250 ≤ v → v < 256 → 250 ≤ x → x < 256
      → StuckHere p (231 ∷ state_255 (p + 1) v ∷ state_255 (p + 1 + 1) x ∷ after)
      (Reserved (p + 1 + 1) (state_255 (p + 1 + 1) x))
  too_few : {p n : ℕ} (len after : List ℕ) → IsLength len n → length after < n
      → StuckHere p (231 ∷ (randomised (p + 1) len ++ after)) (Cut p)
  bad_pair : {p w x : ℕ} {t : Letters} {bytes : List ℕ} {fault : DecodeFault} (triples : List Triple) (after : List ℕ)
      → AllByRecursion IsTriple triples → Chars t (flat_map triple_values triples) bytes → w ≢ 254
      → BadPair t (p + 1 + length (flat_map pair triples)) triples w x fault
      → StuckHere p (latch t ∷ (flat_map pair triples ++ w ∷ x ∷ after)) fault

-- Stuck p words fault: whole segments stand from position p on, and then the codewords are stuck with this fault.
pub data Stuck : ℕ → List ℕ → DecodeFault → Type 0 where
  here : {p : ℕ} {words : List ℕ} {fault : DecodeFault} → StuckHere p words fault → Stuck p words fault
  later : {p : ℕ} {fault : DecodeFault} (words after bytes : List ℕ) → Segment p words after bytes
      → Stuck (p + length words) after fault → Stuck p (words ++ after) fault

-- From position p on the codewords read as these bytes, as no others, and are stuck nowhere.
pub record ReadsOnly (p : ℕ) (words bytes : List ℕ) : Type 0 where
  pub reads : Reads p words bytes
  pub only : (others : List ℕ) → Reads p words others → others ≡ bytes
  pub unstuck : (fault : DecodeFault) → Stuck p words fault → ⊥

-- From position p on the codewords are stuck with this fault alone, and read as nothing.
pub record StuckOnly (p : ℕ) (words : List ℕ) (fault : DecodeFault) : Type 0 where
  pub stuck : Stuck p words fault
  pub only : (others : DecodeFault) → Stuck p words others → others ≡ fault
  pub unread : (bytes : List ℕ) → Reads p words bytes → ⊥
