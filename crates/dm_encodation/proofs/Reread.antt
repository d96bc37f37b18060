-- What is written is read.
use Rattle.std.proofs.Common.{◌≡◌, ℕ, zero, suc, ◌+◌, ◌-◌, ◌*◌, ◌<◌, ◌≤◌, inl, inr, true, ◌&&◌, List, [], ◌∷◌, ◌++◌, length, get_or, drop, Result, Ok, Err, refl, sym, ap, subst, append_assoc, arith}
use Rattle.std.specs.{List.AllByRecursion, Char.is_ascii_digit}
use Rattle.std.proofs.lemmas.Bool.{and_parts, leb-true, lt-ltb, le-ltb, cases_lt, cond_both}
use Rattle.std.proofs.lemmas.List.{append-nil, get_or-drop}
use Rattle.dm_encodation.specs.{declared.mode.Mode.TheVariants.Ascii, Written.ascii_byte, Written.ascii}
use Rattle.dm_encodation.specs.Grammar.{pads, later_pads, state_253, Segment, Reads, Stuck, StuckHere, BadPair, StuckOnly, ReadsOnly, Triple}
use Rattle.dm_encodation.specs.Grammar
use Rattle.dm_encodation.specs.{inner.Reading.reading, declared.letters.Letters.Letters}
use Rattle.dm_encodation.specs.declared.fault.DecodeFault.{DecodeFault, TheVariants.Memory}
use Rattle.dm_encodation.proofs.{ReadsToReading.complete, ReadsToReading.ok_is, ReadingToReads.reads_from}
use Rattle.dm_encodation.proofs.{StuckToReading.complete_stuck, ReadingToStuck.stuck_from}

-- bytes, each by its place
pub below_256 : (bytes : List ℕ) → ((i : ℕ) → get_or bytes i 0 < 256) → AllByRecursion (λ b. b < 256) bytes
below_256 [] h = tt
below_256 (b ∷ bs) h = (h 0, below_256 bs (λ i. h (suc i)))

-- No other bytes are read.
pub one_reading : (p : ℕ) (words xs ys : List ℕ) → Reads p words xs → Reads p words ys → xs ≡ ys
one_reading p words xs ys a b = ok_is xs ys (reading Ascii p words) (complete a) (complete b)

ok_err : {A E : Type 0} (x : A) (f : E) (r : Result A E) → r ≡ Ok x → r ≡ Err f → ⊥
ok_err x f r e g = cc

err_is : {A E : Type 0} (x y : E) (r : Result A E) → r ≡ Err x → r ≡ Err y → x ≡ y
err_is x y r e f = cc

-- What is read is read alone.
pub reads_only : {p : ℕ} {words bytes : List ℕ} → Reads p words bytes → ReadsOnly p words bytes
reads_only {p = p} {words = words} {bytes = bytes} r = grind (arith, one_reading, ok_err, complete, complete_stuck)

-- What is stuck is stuck with one fault.
pub stuck_only : {p : ℕ} {words : List ℕ} {fault : DecodeFault} → Stuck p words fault → StuckOnly p words fault
stuck_only {p = p} {words = words} {fault = fault} s = grind (arith, err_is, complete_stuck, ok_err, complete)

no_memory_pair : (t : Letters) (p : ℕ) (triples : List Triple) (w x : ℕ) → BadPair t p triples w x Memory → ⊥
no_memory_pair t p triples w x b = elim b [ ]

no_memory_here : (p : ℕ) (words : List ℕ) → StuckHere p words Memory → ⊥
no_memory_here p words (Grammar.StuckHere.bad_pair triples after fits chars ne bad) = no_memory_pair _ _ _ _ _ bad

-- Want of memory is no fault of the codewords.
pub no_memory : {p : ℕ} {words : List ℕ} → Stuck p words Memory → ⊥
no_memory (Grammar.Stuck.here h) = no_memory_here _ _ h
no_memory (Grammar.Stuck.later words after bytes segment rest) = no_memory rest

-- ---- what decode answers

pub decided : (p : ℕ) (words bytes : List ℕ) → ((i : ℕ) → get_or words i 0 < 256) → reading Ascii p words ≡ Ok bytes →
    ReadsOnly p words bytes
decided p words bytes fits e = reads_only (reads_from p words bytes (below_256 words fits) e)

pub decided_fault : (p : ℕ) (words : List ℕ) (f : DecodeFault) → ((i : ℕ) → get_or words i 0 < 256) →
    reading Ascii p words ≡ Err f → StuckOnly p words f
decided_fault p words f fits e = stuck_only (stuck_from p words f (below_256 words fits) e)

pub bytes_from : (n : ℕ) (words : List ℕ) → ((i : ℕ) → get_or words i 0 < 256) → (i : ℕ) →
    get_or (drop n words) i 0 < 256
bytes_from n words fits i = rw get_or-drop (fits (n + i))

pub pads_read : (n q p : ℕ) → Reads p (pads q n) []
pads_read n q p = grind (arith, Grammar.Reads.nothing, Grammar.Reads.padded)

byte_segment : (p b : ℕ) (after : List ℕ) → b < 256 → Segment p (ascii_byte b) after (b ∷ [])
byte_segment p b after lt =
    elim (cases_lt b 128) [
      | inl low ↦ rw (lt-ltb b 128 low) (Grammar.Segment.character low)
      | inr high ↦
          let word : b - 128 + 1 ≡ b - 127 = omega arith in
          let byte : b - 128 + 128 ≡ b = omega arith in
          let below : b - 128 < 128 = omega arith in grind (arith, Grammar.Segment.upper, le-ltb)
    ]

digit_segment : (p b c : ℕ) (after : List ℕ) → (is_ascii_digit b && is_ascii_digit c) ≡ true →
    Segment p ((130 + (10 * (b - 48) + (c - 48))) ∷ []) after (b ∷ c ∷ [])
digit_segment p b c after e =
    let both = and_parts _ _ e in
    let tens = and_parts _ _ both.0 in
    let ones = and_parts _ _ both.1 in
    let b_low = leb-true 48 b tens.0 in
    let b_high = leb-true b 57 tens.1 in
    let c_low = leb-true 48 c ones.0 in
    let c_high = leb-true c 57 ones.1 in
    let first : 48 + (b - 48) ≡ b = omega arith in
    let second : 48 + (c - 48) ≡ c = omega arith in grind (arith, Grammar.Segment.digits)

pub ascii_read : (bytes rest : List ℕ) → AllByRecursion (λ b. b < 256) bytes → ((q : ℕ) → Reads q rest []) → (p : ℕ) →
    Reads p (ascii bytes ++ rest) bytes
unfolding ascii
ascii_read [] rest fits more p = more p
ascii_read (b ∷ []) rest fits more p = Grammar.Reads.joined (ascii_byte b) rest (b ∷ []) []
    (byte_segment p b rest fits.0) (more (p + length (ascii_byte b)))
ascii_read (b ∷ c ∷ bs) rest fits more p =
    let P : List ℕ → Type 0 = λ ws. Reads p (ws ++ rest) (b ∷ c ∷ bs) in
    cond_both (is_ascii_digit b && is_ascii_digit c) _ _ P
    (λ e. Grammar.Reads.joined ((130 + (10 * (b - 48) + (c - 48))) ∷ []) (ascii bs ++ rest) (b ∷ c ∷ []) bs
    (digit_segment p b c (ascii bs ++ rest) e) (ascii_read bs rest fits.1.1 more (p + 1)))
    (λ e. subst (λ (l : List ℕ). Reads p l (b ∷ c ∷ bs)) (sym (append_assoc (ascii_byte b) (ascii (c ∷ bs)) rest))
    (Grammar.Reads.joined (ascii_byte b)
    (ascii (c ∷ bs) ++ rest) (b ∷ []) (c ∷ bs) (byte_segment p b (ascii (c ∷ bs) ++ rest) fits.0)
    (ascii_read (c ∷ bs) rest fits.1 more (p + length (ascii_byte b)))))

-- ---- the loop over pads

pub pads_more : (out : List ℕ) (p last : ℕ) (new : List ℕ) → p < last → new ≡ out ++ state_253 p ∷ [] →
    new ++ later_pads (p + 1) (last - (p + 1)) ≡ out ++ later_pads p (last - p)
pads_more out p last new lt e = let k : last - p ≡ suc (last - (p + 1)) = omega arith in grind (arith, append_assoc)

pub pads_done : (out first before : List ℕ) (p q b n : ℕ) → n + 1 ≤ p → b < n → q ≡ b + 1 → first ≡ before ++ 129 ∷ [] →
    out ++ later_pads p (n + 1 - p) ≡ first ++ later_pads (q + 1) (n + 1 - (q + 1))
    → out ≡ before ++ pads (b + 1) (n - b)
pads_done out first before p q b n le lt q-is e h = grind (arith, append-nil, append_assoc)

length-later_pads : (p n : ℕ) → length (later_pads p n) ≡ n
length-later_pads p zero = refl
length-later_pads p (suc n) = ap suc (length-later_pads (p + 1) n)

pub length-pads : (p n : ℕ) → length (pads p n) ≡ n
length-pads p n = grind (arith, length-later_pads)

pub never_memory : (p : ℕ) (words : List ℕ) (f : DecodeFault) → ((i : ℕ) → get_or words i 0 < 256) →
    reading Ascii p words ≡ Err f → f ≡ Memory → ⊥
never_memory p words f fits e is =
    no_memory (subst (λ (f : DecodeFault). Stuck p words f) is (stuck_from p words f (below_256 words fits) e))
