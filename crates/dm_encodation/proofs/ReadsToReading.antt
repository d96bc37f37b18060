-- What the grammar reads is read codeword by codeword.
use Rattle.std.proofs.lemmas.{Grind.common_steps, List.append-nil, List.length-append}
use Rattle.std.proofs.Common.{◌≡◌, ℕ, zero, suc, ◌+◌, ◌-◌, ◌*◌, ◌/◌, ◌%◌, ◌<◌, Bool, true, false, cond, ◌&&◌, eqb, leb, ltb, List, [], ◌∷◌, ◌++◌, length, Result, Ok, refl, sym, ap, subst, ◌∙◌, append_assoc, arith}
use Rattle.std.specs.List.{flat_map, AllByRecursion}
use Rattle.std.proofs.lemmas.Bool.{ne_eqb, lt-ltb, le-ltb, agree_below, agree_below_at, and_parts, eqb-true}
use Rattle.dm_encodation.specs.declared.{letters.Letters.Letters, mode.Set.Set, mode.Set.TheVariants.Basic}
use Rattle.dm_encodation.specs.declared.{mode.Pending.Pending, mode.Mode.Mode, fault.DecodeFault.DecodeFault}
use Rattle.dm_encodation.specs.declared.mode.Mode.TheVariants.{Ascii, Upper, Run, Half, Length, LongLength, Bytes, Rest, Padded}
use Rattle.dm_encodation.specs.Grammar
use Rattle.dm_encodation.specs.Grammar.{values_below_128, Unfinished, values_of, Triple, IsTriple, triple_values, pair, Chars, state_255, randomised, latch, IsLength, EndsOpen, Segment, Reads}
use Rattle.dm_encodation.proofs.AsciiStepCases.{AsciiStep, ascii_view}
use Rattle.dm_encodation.specs.inner.Reading.{◌>>=◌, prepend, Stepped, no_pending, ascii_step, upper_step, byte_in, value_step, values_step, Valued, at_pair, pair_step, value_255, bytes_left, step, ended, finish, reading}

step_character : (p b : ℕ) → b < 128 → ascii_step p (b + 1) ≡ Ok (Ascii, b ∷ [])
unfolding ascii_step
step_character p b lt = grind arith

step_digits : (p m n : ℕ) → m < 10 → n < 10 → ascii_step p (130 + (10 * m + n)) ≡ Ok (Ascii, (48 + m) ∷ (48 + n) ∷ [])
unfolding ascii_step
step_digits p m n lm ln = grind arith

step_upper : (p b : ℕ) → b < 128 → upper_step p (b + 1) ≡ Ok (Ascii, (b + 128) ∷ [])
unfolding upper_step
step_upper p b lt = grind arith

-- one codeword, then the rest
pub reading_step : (m : Mode) (p w : ℕ) (ws : List ℕ) (n : Mode) (bs : List ℕ) → step m p w ≡ Ok (n, bs) →
    reading m p (w ∷ ws) ≡ prepend bs (reading n (p + 1) ws)
unfolding reading
reading_step m p w ws n bs e = rw e refl

pub prepend-nil : (r : Result (List ℕ) DecodeFault) → prepend [] r ≡ r
prepend-nil r = grind arith

pub prepend-prepend : (xs ys : List ℕ) (r : Result (List ℕ) DecodeFault) →
    prepend xs (prepend ys r) ≡ prepend (xs ++ ys) r
prepend-prepend xs ys r = grind (arith, append_assoc)

-- a codeword that gives no bytes
pub reading_silent : (m : Mode) (p w : ℕ) (ws : List ℕ) (n : Mode) → step m p w ≡ Ok (n, []) →
    reading m p (w ∷ ws) ≡ reading n (p + 1) ws
reading_silent m p w ws n e = reading_step m p w ws n [] e ∙ prepend-nil (reading n (p + 1) ws)

-- ---- Base 256

shifted : (b s : ℕ) → b < 256 → 0 < s → s < 256
    → (let w = cond (leb (b + s) 255) (b + s) (b + s - 256) in cond (leb s w) (w - s) (w + 256 - s)) ≡ b
shifted b s lb ls hs = grind arith

pub value_255-state_255 : (p b : ℕ) → b < 256 → value_255 p (state_255 p b) ≡ b
unfolding value_255 state_255
value_255-state_255 p b lt = shifted b ((149 * p) % 255 + 1) lt (omega arith) (omega arith)

pub length-randomised : (p : ℕ) (bs : List ℕ) → length (randomised p bs) ≡ length bs
length-randomised p [] = refl
length-randomised p (b ∷ bs) = ap suc (length-randomised (p + 1) bs)

pub bytes_read : (bs : List ℕ) (q at : ℕ) (after : List ℕ) → AllByRecursion (λ b. b < 256) bs
    → reading (bytes_left (length bs) at) q (randomised q bs ++ after) ≡ prepend bs
    (reading Ascii (q + length bs) after)
unfolding step
bytes_read [] q at after fits = let e : q + 0 ≡ q = omega arith in rw e (sym (prepend-nil (reading Ascii q after)))
bytes_read (b ∷ bs) q at after fits =
    let e : q + 1 + length bs ≡ q + suc (length bs) = omega arith in
    let n : suc (length bs) - 1 ≡ length bs = omega arith in
    let s : step (Bytes (suc (length bs)) at) q (state_255 q b) ≡ Ok (bytes_left (length bs) at, b ∷ []) =
    rw (n, value_255-state_255 q b fits.0) refl in
    reading_step (Bytes (suc (length bs)) at) q (state_255 q b)
    (randomised (q + 1) bs ++ after) (bytes_left (length bs) at) (b ∷ []) s
    ∙ ap (prepend (b ∷ [])) (bytes_read bs (q + 1) at after fits.1)
    ∙ prepend-prepend (b ∷ []) bs (reading Ascii (q + 1 + length bs) after)
    ∙ ap (λ (k : ℕ). prepend (b ∷ bs) (reading Ascii k after)) e

rest_read : (bs : List ℕ) (q : ℕ) → AllByRecursion (λ b. b < 256) bs → reading Rest q (randomised q bs) ≡ Ok bs
unfolding reading step finish
rest_read [] q fits = refl
rest_read (b ∷ bs) q fits = rw (value_255-state_255 q b fits.0, rest_read bs (q + 1) fits.1) refl

pub length_read : (p n : ℕ) (len after : List ℕ) → IsLength len n →
    reading Length (p + 1) (randomised (p + 1) len ++ after) ≡ reading (bytes_left n p) (p + 1 + length len) after
unfolding step
length_read p n len after (Grammar.IsLength.one {n = m} pos lt) =
    grind (arith, value_255-state_255, ne_eqb, lt-ltb, reading_silent)
length_read p n len after (Grammar.IsLength.two {v = v} {w = w} low high lt) =
    let a = value_255-state_255 (p + 1) v high in
    let b = value_255-state_255 (p + 1 + 1) w (omega arith) in
    let t0 : eqb v 0 ≡ false = ne_eqb _ _ (λ e. omega arith) in
    let t1 : ltb v 250 ≡ false = le-ltb _ _ low in
    let t2 : ltb w 250 ≡ true = lt-ltb _ _ lt in
    let back : p + 1 + 1 - 2 ≡ p = omega arith in
    let e : p + 1 + 1 + 1 ≡ p + 1 + 2 = omega arith in
    reading_silent Length (p + 1) (state_255 (p + 1) v) (state_255 (p + 1 + 1) w ∷ after) (LongLength v)
    (rw (a, t0, t1) refl)
    ∙ reading_silent (LongLength v) (p + 1 + 1) (state_255 (p + 1 + 1) w) after (bytes_left (250 * (v - 249) + w) p)
    (rw (b, t2, back) refl)
    ∙ ap (λ (k : ℕ). reading (bytes_left (250 * (v - 249) + w) p) k after) e

pub randomised-append : (q : ℕ) (xs ys : List ℕ) → randomised q (xs ++ ys) ≡ randomised q xs ++
    randomised (q + length xs) ys
randomised-append q [] ys = let e : q + 0 ≡ q = omega arith in rw e refl
randomised-append q (x ∷ xs) ys = grind (arith, randomised-append (q + 1) xs ys)

-- ---- runs

-- both parts of a list of values
pub record Splits (t : Letters) (s : Pending) (xs ys : List ℕ) (out : Pending × List ℕ) : Type 0 where
  pub middle : Pending × List ℕ
  pub last : Pending × List ℕ
  pub first_is : values_step t s xs ≡ Ok middle
  pub second_is : values_step t middle.0 ys ≡ Ok last
  pub out_is : out ≡ (last.0, middle.1 ++ last.1)

pub bind_ok : {A B E : Type 0} (r : Result A E) (f : A → Result B E) (y : B) → (r >>= f) ≡ Ok y →
    (x : A) × (r ≡ Ok x) × (f x ≡ Ok y)
bind_ok r f y e = grind arith

pub ok_is : {A E : Type 0} (x y : A) (r : Result A E) → r ≡ Ok x → r ≡ Ok y → x ≡ y
ok_is x y r e f = cc

pub splits : (t : Letters) (s : Pending) (xs ys : List ℕ) (out : Pending × List ℕ) →
    values_step t s (xs ++ ys) ≡ Ok out → Splits t s xs ys out
splits t s [] ys out e = record { middle = (s, []); last = out; first_is = refl; second_is = e; out_is = refl }
splits t s (x ∷ xs) ys out e =
    let a = bind_ok (value_step t s x) (λ a. values_step t a.0 (xs ++ ys) >>= λ b. Ok (b.0, a.1 ++ b.1)) out e in
    let b = bind_ok (values_step t a.0.0 (xs ++ ys)) (λ b. Ok (b.0, a.0.1 ++ b.1)) out a.2 in
    let r = splits t a.0.0 xs ys b.0 b.1 in
    let o : out ≡ (b.0.0, a.0.1 ++ b.0.1) = ok_is out _ _ b.2 refl in
    record {
      middle = (r.middle.0, a.0.1 ++ r.middle.1);
      last = r.last;
      first_is = grind arith;
      second_is = r.second_is;
      out_is = grind (arith, append_assoc);
    }

pub pair_is : (t : Letters) (s : Pending) (p : ℕ) (tr : Triple) (w x : ℕ) → IsTriple tr → pair tr ≡ w ∷ x ∷ [] →
    pair_step t s p w x ≡ at_pair t p w (values_step t s (triple_values tr))
unfolding pair_step
pair_is t s p tr w x fits e = grind arith

pub values_joined : (t : Letters) (s : Pending) (xs ys : List ℕ) (middle last : Pending × List ℕ) →
    values_step t s xs ≡ Ok middle → values_step t middle.0 ys ≡ Ok last
    → values_step t s (xs ++ ys) ≡ Ok (last.0, middle.1 ++ last.1)
values_joined t s [] ys middle last e f = grind arith
values_joined t s (x ∷ xs) ys middle last e f =
    let a = bind_ok (value_step t s x) (λ a. values_step t a.0 xs >>= λ b. Ok (b.0, a.1 ++ b.1)) middle e in
    let b = bind_ok (values_step t a.0.0 xs) (λ b. Ok (b.0, a.0.1 ++ b.1)) middle a.2 in
    let o : middle ≡ (b.0.0, a.0.1 ++ b.0.1) = ok_is middle _ _ b.2 refl in
    let g : values_step t b.0.0 ys ≡ Ok last = subst (λ (m : Pending × List ℕ). values_step t m.0 ys ≡ Ok last) o f in
    let r = values_joined t a.0.0 xs ys b.0 last b.1 g in
    grind (arith, append_assoc)

pub run_read : (t : Letters) (s : Pending) (q : ℕ) (triples : List Triple) (after : List ℕ) (out : Pending × List ℕ) →
    AllByRecursion IsTriple triples
    → values_step t s (flat_map triple_values triples) ≡ Ok out
    → reading (Run t s) q (flat_map pair triples ++ after) ≡ prepend out.1
    (reading (Run t out.0) (q + length (flat_map pair triples)) after)
unfolding step
run_read t s q [] after out fits e = grind arith
run_read t s q (tr ∷ triples) after out fits e =
    let v = 1600 * tr.first + 40 * tr.second + tr.third + 1 in
    let r = splits t s (triple_values tr) (flat_map triple_values triples) out e in
    let ne : eqb (v / 256) 254 ≡ false = ne_eqb _ _ (λ e. omega (arith, fits.0)) in
    let back : q + 1 - 1 ≡ q = omega arith in
    let one : step (Half t s (v / 256)) (q + 1) (v % 256) ≡ Ok (Run t r.middle.0, r.middle.1) =
    grind (arith, pair_is) in
    let k : q + 1 + 1 + length (flat_map pair triples) ≡ q + suc (suc (length (flat_map pair triples))) = omega arith in
    reading_silent (Run t s) q (v / 256) ((v % 256) ∷ (flat_map pair triples ++ after)) (Half t s (v / 256))
    (rw ne refl)
    ∙ reading_step (Half t s (v / 256)) (q + 1) (v % 256)
    (flat_map pair triples ++ after) (Run t r.middle.0) r.middle.1 one
    ∙ ap (prepend r.middle.1) (run_read t r.middle.0 (q + 1 + 1) triples after r.last fits.1 r.second_is)
    ∙ prepend-prepend r.middle.1 r.last.1 (reading (Run t r.last.0) (q + 1 + 1 + length (flat_map pair triples)) after)
    ∙ ap (λ (j : ℕ). prepend (r.middle.1 ++ r.last.1) (reading (Run t r.last.0) j after)) k
    ∙ ap (λ (o : Pending × List ℕ). prepend o.1
    (reading (Run t o.0) (q + suc (suc (length (flat_map pair triples)))) after)) (sym r.out_is)

-- ---- characters

is_plain : Bool → Set → Bool
is_plain false Basic = true
is_plain _ _ = false

record_of : Bool → Set → Pending
record_of up set = record { upper = up; set = set }

reads_as : Valued → ℕ → Bool
reads_as (Ok (s, c ∷ [])) b = eqb c b && is_plain s.upper s.set
reads_as _ b = false

is_plain_parts : (up : Bool) (set : Set) → is_plain up set ≡ true → record_of up set ≡ no_pending
unfolding is_plain record_of
is_plain_parts up set e = grind arith

is_plain_true : (s : Pending) → is_plain s.upper s.set ≡ true → s ≡ no_pending
unfolding record_of
is_plain_true s e = is_plain_parts s.upper s.set e

reads_as_true : (r : Valued) (b : ℕ) → reads_as r b ≡ true → r ≡ Ok (no_pending, b ∷ [])
unfolding reads_as
reads_as_true r b e = grind (arith, and_parts, is_plain_true, eqb-true)

all_read : (t : Letters) → agree_below (λ b. reads_as (values_step t no_pending (values_of t b)) b)
    (λ _. true) 256 ≡ true
unfolding values_of values_below_128 value_step byte_in reads_as is_plain
all_read t = grind (arith, common_steps)

character_read : (t : Letters) (b : ℕ) → b < 256 → values_step t no_pending (values_of t b) ≡ Ok (no_pending, b ∷ [])
character_read t b lt = reads_as_true _ b (agree_below_at (λ b. reads_as (values_step t no_pending (values_of t b)) b)
    (λ _. true) 256 b (all_read t) lt)

pub tail_read : (t : Letters) (tail : List ℕ) → Unfinished tail →
    (s : Pending) × (values_step t no_pending tail ≡ Ok (s, []))
unfolding value_step
tail_read t tail Grammar.Unfinished.nothing = (no_pending, refl)
tail_read t tail (Grammar.Unfinished.shift {s = zero} lt) = (_, refl)
tail_read t tail (Grammar.Unfinished.shift {s = suc zero} lt) = (_, refl)
tail_read t tail (Grammar.Unfinished.shift {s = suc (suc zero)} lt) = (_, refl)
tail_read t tail (Grammar.Unfinished.shift {s = suc (suc (suc k))} lt) = absurd (omega arith)
tail_read t tail Grammar.Unfinished.upper = (_, refl)
tail_read t tail (Grammar.Unfinished.upper_shift {s = zero} lt) = (_, refl)
tail_read t tail (Grammar.Unfinished.upper_shift {s = suc zero} lt) = (_, refl)
tail_read t tail (Grammar.Unfinished.upper_shift {s = suc (suc zero)} lt) = (_, refl)
tail_read t tail (Grammar.Unfinished.upper_shift {s = suc (suc (suc k))} lt) = absurd (omega arith)

pub characters_read : (t : Letters) (bytes tail : List ℕ) (s : Pending) → AllByRecursion (λ b. b < 256) bytes →
    values_step t no_pending tail ≡ Ok (s, [])
    → values_step t no_pending (flat_map (values_of t) bytes ++ tail) ≡ Ok (s, bytes)
characters_read t [] tail s fits e = e
characters_read t (b ∷ bs) tail s fits e = grind (
  arith,
  append_assoc (values_of t b) (flat_map (values_of t) bs) tail,
  values_joined t no_pending (values_of t b) (flat_map (values_of t) bs ++ tail) (no_pending, b ∷ []) (s, bs)
      (character_read t b fits.0) (characters_read t bs tail s fits.1 e),
)

pub chars_step : (t : Letters) (values bytes : List ℕ) → Chars t values bytes →
    (s : Pending) × (values_step t no_pending values ≡ Ok (s, bytes))
chars_step t values bytes chars = grind (
  arith,
  characters_read t bytes chars.tail (tail_read t chars.tail
      chars.unfinished).0 chars.fits (tail_read t chars.tail chars.unfinished).1,
)

pub ended_ascii : (p : ℕ) → reading Ascii p [] ≡ Ok []
unfolding reading finish
ended_ascii p = refl

pub padded_read : (p : ℕ) (any : List ℕ) → reading Padded p any ≡ Ok []
unfolding reading finish step
padded_read p [] = refl
padded_read p (w ∷ ws) = reading_silent Padded p w ws Padded refl ∙ padded_read (p + 1) ws

pub step_latch : (t : Letters) (p : ℕ) → step Ascii p (latch t) ≡ Ok (Run t no_pending, [])
unfolding step ascii_step
step_latch t p = grind arith

-- a codeword read in ASCII leaves no half pair
never_half : (p k w : ℕ) (r : Stepped) → AsciiStep p w r →
    (r >>= λ n. prepend n.1 (ended n.0 k)) ≡ (r >>= λ n. prepend n.1 (finish n.0 k))
unfolding finish
never_half p k w r given = grind arith

open_read : (t : Letters) (s : Pending) (q : ℕ) (after : List ℕ) → EndsOpen after →
    reading (Run t s) q after ≡ reading Ascii q after
unfolding reading finish step
open_read t s q [] stops = refl
open_read t s q (w ∷ []) stops = grind (arith, never_half q (q + 1) w (ascii_step q w) (ascii_view q w))
open_read t s q (w ∷ x ∷ ws) stops = absurd stops

pub complete_segment : {p : ℕ} {words after bytes : List ℕ} → Segment p words after bytes →
    reading Ascii p (words ++ after) ≡ prepend bytes (reading Ascii (p + length words) after)
unfolding step ascii_step
complete_segment {p = p} {after = after} (Grammar.Segment.character {b = b} lt) =
    reading_step Ascii p (b + 1) after Ascii (b ∷ []) (step_character p b lt)
complete_segment {p = p} {after = after} (Grammar.Segment.digits {m = m} {n = n} lm ln) =
    reading_step Ascii p (130 + (10 * m + n)) after Ascii ((48 + m) ∷ (48 + n) ∷ []) (step_digits p m n lm ln)
complete_segment {p = p} {after = after} (Grammar.Segment.upper {b = b} lt) =
    grind (
      arith,
      reading_silent Ascii p 235 ((b + 1) ∷ after) Upper refl,
      reading_step Upper (p + 1) (b + 1) after
          Ascii ((b + 128) ∷ []) (step_upper (p + 1) b lt),
    )
complete_segment {p = p} {after = after} (Grammar.Segment.run {t = t} {bytes = bytes} triples fits chars) =
    grind (
      arith,
      length-append (flat_map pair triples) (254 ∷ []),
      reading_silent Ascii p (latch t) ((flat_map pair
          triples ++ 254 ∷ []) ++ after) (Run t no_pending) (step_latch t p),
      append_assoc (flat_map pair triples) (254 ∷ [])
          after,
      run_read t no_pending (p + 1) triples (254 ∷ after) (
        (chars_step t (flat_map triple_values triples) bytes
            chars).0,
        bytes,
      ) fits (chars_step t (flat_map triple_values triples) bytes chars).1,
      reading_silent (Run t
          (chars_step t (flat_map triple_values triples) bytes chars).0) (p + 1 + length (flat_map pair triples)) 254 after
          Ascii refl,
    )
complete_segment {p = p} {after = after} (Grammar.Segment.open_run {t = t} {bytes = bytes} triples fits chars stops) =
    grind (
      arith,
      reading_silent Ascii p (latch t) (flat_map pair triples ++ after) (Run t no_pending) (step_latch t p),
      run_read t no_pending (p + 1) triples after ((chars_step t (flat_map triple_values triples) bytes chars).0, bytes)
          fits (chars_step t (flat_map triple_values triples) bytes chars).1,
      open_read t (chars_step t (flat_map
          triple_values triples) bytes chars).0 (p + 1 + length (flat_map pair triples)) after stops,
    )
complete_segment {p = p} {after = after} (Grammar.Segment.bytes {bs = bs} len is_len fits) =
    grind (
      arith,
      randomised-append (p + 1) len bs,
      append_assoc (randomised (p + 1) len) (randomised (p + 1 + length
          len) bs) after,
      length-randomised (p + 1) (len ++ bs),
      length-append len bs,
      reading_silent Ascii p 231 (randomised
          (p + 1) (len ++ bs) ++ after) Length refl,
      length_read p (length bs) len (randomised (p + 1 + length len) bs ++
          after) is_len,
      bytes_read bs (p + 1 + length len) p after fits,
    )
complete_segment {p = p} (Grammar.Segment.rest {bs = bs} fits) =
    grind (
      arith,
      reading_silent Ascii p 231 (randomised (p + 1) (0 ∷ bs) ++ []) Length refl,
      append-nil (randomised (p
          + 1) (0 ∷ bs)),
      reading_silent Length (p + 1) (state_255 (p + 1) 0) (randomised (p + 1 + 1) bs) Rest (rw
          (value_255-state_255 (p + 1) 0 (omega arith)) refl),
      rest_read bs (p + 1 + 1) fits,
      ended_ascii (p + length (231 ∷
          randomised (p + 1) (0 ∷ bs))),
      append-nil bs,
    )

pub complete : {p : ℕ} {words bytes : List ℕ} → Reads p words bytes → reading Ascii p words ≡ Ok bytes
unfolding reading step ascii_step finish
complete Grammar.Reads.nothing = refl
complete (Grammar.Reads.padded {p = p} {any = any}) = grind (arith, reading_silent, padded_read)
complete {p = p} (Grammar.Reads.joined words after bytes more segment rest) = complete_segment segment ∙
    ap (prepend bytes) (complete rest)
