-- What is read codeword by codeword, the grammar reads.
use Rattle.std.proofs.lemmas.{Grind.common_steps, List.append-nil, List.length-append, List.Concat.flat_map-append}
use Rattle.std.proofs.Common.{◌≡◌, ℕ, suc, ◌+◌, ◌-◌, ◌*◌, ◌/◌, ◌%◌, ◌<◌, ◌≤◌, ◌≢◌, ◌⊎◌, inl, inr, Bool, true, false, cond, eqb, leb, ltb, List, [], ◌∷◌, ◌++◌, length, Result, Ok, Err, refl, sym, ap, subst, ◌∙◌, append_assoc, arith}
use Rattle.std.specs.List.{flat_map, AllByRecursion}
use Rattle.std.proofs.lemmas.Bool.{eqb-true, eqb-false, leb-true, ltb-true, ltb-false, cases_lt}
use Rattle.dm_encodation.specs.declared.{letters.Letters.Letters, mode.Pending.Pending, mode.Mode.Mode}
use Rattle.dm_encodation.specs.declared.mode.Mode.TheVariants.{Ascii, Upper, Run, Half, Length, LongLength, Bytes, Rest, Padded}
use Rattle.dm_encodation.specs.declared.fault.DecodeFault.TheVariants.{Reserved}
use Rattle.dm_encodation.specs.Grammar.{Triple, IsTriple, triple_values, pair, state_255, randomised, latch, IsLength, Segment, Reads}
use Rattle.dm_encodation.specs.Grammar
use Rattle.dm_encodation.specs.inner.Reading.{◌>>=◌, prepend, Stepped, Valued, no_pending, upper_step, at_pair, pair_step, values_step, value_255, bytes_left, step, ended, finish, reading}
use Rattle.dm_encodation.proofs.{AsciiStepCases.AsciiStep, AsciiStepCases.ascii_view, TakenValues.chars_from}
use Rattle.dm_encodation.proofs.ReadsToReading.{bind_ok, ok_is, values_joined, randomised-append, length-randomised}

-- Where a reader stands: the mode, where its segment began, the segment's codewords so far, and the bytes given since.
pub data InMode : Mode → ℕ → List ℕ → List ℕ → Type 0 where
  ascii : {p : ℕ} → InMode Ascii p [] []
  upper : {p : ℕ} → InMode Upper p (235 ∷ []) []
  run : {t : Letters} {s : Pending} {p : ℕ} {given : List ℕ} (triples : List Triple) → AllByRecursion IsTriple triples
      → values_step t no_pending (flat_map triple_values triples) ≡ Ok (s, given) →
      InMode (Run t s) p (latch t ∷ flat_map pair triples) given
  half : {t : Letters} {s : Pending} {p a : ℕ} {given : List ℕ} (triples : List Triple) →
      AllByRecursion IsTriple triples
      → values_step t no_pending (flat_map triple_values triples) ≡ Ok (s, given) → a ≢ 254 → a < 256 →
      InMode (Half t s a) p (latch t ∷ (flat_map pair triples ++ a ∷ [])) given
  length_due : {p : ℕ} → InMode Length p (231 ∷ []) []
  long_length : {p v : ℕ} → 250 ≤ v → v < 256 → InMode (LongLength v) p (231 ∷ state_255 (p + 1) v ∷ []) []
  bytes : {p n : ℕ} (len bs : List ℕ) → IsLength len (length bs + suc n) → AllByRecursion (λ b. b < 256) bs
      → InMode (Bytes (suc n) p) p (231 ∷ randomised (p + 1) (len ++ bs)) bs
  rest : {p : ℕ} (bs : List ℕ) → AllByRecursion (λ b. b < 256) bs → InMode Rest p (231 ∷ randomised (p + 1) (0 ∷ bs)) bs
  padded : {p : ℕ} (any : List ℕ) → InMode Padded p (129 ∷ any) []

-- After one more codeword: the segment goes on, or it is whole.
abbrev pub Advanced : ℕ → List ℕ → List ℕ → Mode → Type 0
Advanced p words given m = InMode m p words given ⊎ ((m ≡ Ascii) × ((after : List ℕ) → Segment p words after given))

-- ---- tests

pub chosen : {A : Type 0} (b : Bool) (x y z : A) → cond b x y ≡ z → ((b ≡ true) × (x ≡ z)) ⊎ ((b ≡ false) × (y ≡ z))
chosen b x y z e = grind arith

pub unless : {A E : Type 0} (b : Bool) (f : E) (r : Result A E) (out : A) → cond b (Err f) r ≡ Ok out →
    (b ≡ false) × (r ≡ Ok out)
unless b f r out e = grind arith

pub only_if : {A E : Type 0} (b : Bool) (f : E) (x out : A) → cond b (Ok x) (Err f) ≡ Ok out → (b ≡ true) × (x ≡ out)
only_if b f x out e = grind arith

-- ---- Base 256

shifted_back : (w s : ℕ) → w < 256 → 0 < s → s < 256
    → (let b = cond (leb s w) (w - s) (w + 256 - s) in cond (leb (b + s) 255) (b + s) (b + s - 256)) ≡ w
shifted_back w s lw ls hs = grind arith

pub state_255-value_255 : (p w : ℕ) → w < 256 → state_255 p (value_255 p w) ≡ w
unfolding value_255 state_255
state_255-value_255 p w lt = shifted_back w ((149 * p) % 255 + 1) lt (omega arith) (omega arith)

below_shift : (w s : ℕ) → w < 256 → 0 < s → s < 256 → cond (leb s w) (w - s) (w + 256 - s) < 256
below_shift w s lw ls hs = grind arith

pub value_255-below : (p w : ℕ) → w < 256 → value_255 p w < 256
unfolding value_255
value_255-below p w lt = below_shift w ((149 * p) % 255 + 1) lt (omega arith) (omega arith)

-- one more value of Base 256
push_value : (p : ℕ) (xs : List ℕ) (w : ℕ) → w < 256 →
    randomised p xs ++ w ∷ [] ≡ randomised p (xs ++ value_255 (p + length xs) w ∷ [])
push_value p xs w lt = grind (arith, randomised-append, state_255-value_255)

-- ---- runs

pub values_below : (triples : List Triple) → AllByRecursion IsTriple triples →
    AllByRecursion (λ v. v < 40) (flat_map triple_values triples)
values_below [] fits = tt
values_below (tr ∷ triples) fits = (fits.0.0, (fits.0.1, (fits.0.2, values_below triples fits.1)))

-- a pair that was taken
pub record TakesPair (t : Letters) (s : Pending) (w x : ℕ) (out : Mode × List ℕ) : Type 0 where
  pub triple : Triple
  pub is_triple : IsTriple triple
  pub spelled : pair triple ≡ w ∷ x ∷ []
  pub to : Pending × List ℕ
  pub taken : values_step t s (triple_values triple) ≡ Ok to
  pub out_is : (Run t to.0, to.1) ≡ out

from_at_pair : (t : Letters) (p w : ℕ) (r : Valued) (out : Mode × List ℕ) → at_pair t p w r ≡ Ok out →
    (o : Pending × List ℕ) × (r ≡ Ok o) × ((Run t o.0, o.1) ≡ out)
from_at_pair t p w r out e = grind arith

pub takes_pair : (t : Letters) (s : Pending) (p w x : ℕ) (out : Mode × List ℕ) → x < 256 →
    pair_step t s p w x ≡ Ok out → TakesPair t s w x out
unfolding pair_step
takes_pair t s p w x out lt e =
    let v = 256 * w + x in
    let a = unless (eqb v 0) _ _ out e in
    let b = unless (ltb 64000 v) _ _ out a.1 in
    let n0 = eqb-false v 0 a.0 in
    let n1 = ltb-false 64000 v b.0 in
    let c = from_at_pair t p w _ out b.1 in
    let whole : 1600 * ((v - 1) / 1600) + 40 * ((v - 1) / 40 % 40) + (v - 1) % 40 + 1 ≡ v = omega arith in
    let d : v / 256 ≡ w = omega arith in
    let m : v % 256 ≡ x = omega arith in
    record {
      triple = record { first = (v - 1) / 1600; second = (v - 1) / 40 % 40; third = (v - 1) % 40 };
      is_triple = (omega arith, omega arith, omega arith);
      spelled = rw (whole, d, m) refl;
      to = c.0;
      taken = c.1;
      out_is = c.2;
    }

-- ---- one more codeword

from_ascii : {p w : ℕ} {out : Mode × List ℕ} (q : ℕ) → AsciiStep p w (Ok out) → Advanced q (w ∷ []) out.1 out.0
from_ascii q (AsciiStep.character b lt e) = grind (arith, Grammar.Segment.character)
from_ascii q (AsciiStep.digits m n lm ln e) = grind (arith, Grammar.Segment.digits)
from_ascii q (AsciiStep.pad e) = inl (subst (λ (w : ℕ). InMode Padded q (w ∷ []) []) (sym e) (InMode.padded []))
from_ascii q (AsciiStep.to_run t e) =
    inl (subst (λ (w : ℕ). InMode (Run t no_pending) q (w ∷ []) []) (sym e) (InMode.run [] tt refl))
from_ascii q (AsciiStep.to_bytes e) = inl (subst (λ (w : ℕ). InMode Length q (w ∷ []) []) (sym e) InMode.length_due)
from_ascii q (AsciiStep.to_upper e) = inl (subst (λ (w : ℕ). InMode Upper q (w ∷ []) []) (sym e) InMode.upper)

from_upper : (p w : ℕ) (out : Mode × List ℕ) (q : ℕ) → upper_step p w ≡ Ok out → Advanced q (235 ∷ w ∷ []) out.1 out.0
unfolding upper_step
from_upper p w out q e =
    let a = unless (eqb w 0) _ _ out e in
    let b = only_if (leb w 128) _ _ out a.1 in
    let n0 = eqb-false w 0 a.0 in
    let le = leb-true w 128 b.0 in
    let back : w - 1 + 1 ≡ w = omega arith in
    let byte_given = w + 127 in
    let byte : w - 1 + 128 ≡ byte_given = omega arith in
    let segment : (after : List ℕ) → Segment q (235 ∷ w ∷ []) after ((w + 127) ∷ []) =
    grind (arith, Grammar.Segment.upper) in grind arith

plus_none : (n : ℕ) → n ≡ 0 + n
plus_none n = omega arith

-- Base 256: what is left of this many bytes
left : (q n : ℕ) (len bs : List ℕ) → IsLength len (length bs + n) → AllByRecursion (λ b. b < 256) bs
    → Advanced q (231 ∷ randomised (q + 1) (len ++ bs)) bs (bytes_left n q)
left q n len bs is fits = grind (arith, Grammar.Segment.bytes, InMode.bytes)

from_length : (p q w : ℕ) (out : Mode × List ℕ) → w < 256 → step Length (q + 1) w ≡ Ok out →
    Advanced q (231 ∷ w ∷ []) out.1 out.0
unfolding step
from_length p q w out lt e =
    let n = value_255 (q + 1) w in
    let word = state_255-value_255 (q + 1) w lt in
    let below = value_255-below (q + 1) w lt in
    elim (chosen (eqb n 0) _ _ _ e) [
      | inl is ↦
          let o = ok_is _ out (Ok out) (sym is.1) refl in
          let zero_word : state_255 (q + 1) 0 ≡ w = ap (state_255 (q + 1)) (sym (eqb-true n 0 is.0)) ∙ word in
          subst (λ (o : Mode × List ℕ). Advanced q (231 ∷ w ∷ []) o.1 o.0) o
          (inl (subst (λ (w : ℕ). InMode Rest q (231 ∷ w ∷ []) []) zero_word (InMode.rest [] tt)))
      | inr isnt ↦
          let n0 = eqb-false n 0 isnt.0 in
          let pos : 0 < n = elim (cases_lt 0 n) [ inl pos ↦ pos | inr le ↦ absurd (n0 (omega arith)) ] in
          elim (chosen (ltb n 250) _ _ _ isnt.1) [
            | inl is ↦
                let o = ok_is _ out (Ok out) (sym is.1) refl in
                let back : q + 1 - 1 ≡ q = omega arith in
                let whole : Advanced q (231 ∷ w ∷ []) [] (bytes_left n q) =
                subst (λ (w : ℕ). Advanced q (231 ∷ w ∷ []) [] (bytes_left n q)) word
                (left q n (n ∷ []) [] (subst (IsLength (n ∷ [])) (plus_none n)
                (Grammar.IsLength.one pos (ltb-true n 250 is.0))) tt) in grind arith
            | inr isnt2 ↦ grind (arith, InMode.long_length, ok_is, ltb-false)
          ]
    ]

pub triples_pushed : (triples : List Triple) (tr : Triple) → AllByRecursion IsTriple triples → IsTriple tr →
    AllByRecursion IsTriple (triples ++ tr ∷ [])
triples_pushed triples tr fits f = grind (arith, common_steps)

fits_pushed : (bs : List ℕ) (b : ℕ) → AllByRecursion (λ b. b < 256) bs → b < 256 →
    AllByRecursion (λ b. b < 256) (bs ++ b ∷ [])
fits_pushed bs b fits f = grind (arith, common_steps)

pub advance : {m : Mode} {q : ℕ} {front given : List ℕ} (w : ℕ) (out : Mode × List ℕ) → InMode m q front given →
    w < 256 → step m (q + length front) w ≡ Ok out
    → Advanced q (front ++ w ∷ []) (given ++ out.1) out.0
unfolding step
advance {q = q} w out InMode.ascii lt e =
    from_ascii q (subst (λ (r : Stepped). AsciiStep (q + 0) w r) e (ascii_view (q + 0) w))
advance {q = q} w out InMode.upper lt e = from_upper (q + 1) w out q e
advance {q = q} w out (InMode.run {t = t} {s = s} {given = given} triples fits taken) lt e =
    elim (chosen (eqb w 254) _ _ _ e) [
      | inl is ↦
          let o = ok_is _ out (Ok out) (sym is.1) refl in
          let chars = chars_from t (flat_map triple_values triples) given s (values_below triples fits) taken in
          let segment : (after : List ℕ) → Segment q (latch t ∷ (flat_map pair triples ++ w ∷ [])) after (given ++ []) =
          λ after.
          subst (λ (bs : List ℕ). Segment q (latch t ∷ (flat_map pair triples ++ w ∷ [])) after bs)
          (sym (append-nil given))
          (subst (λ (x : ℕ). Segment q (latch t ∷ (flat_map pair triples ++ x ∷ [])) after given)
          (sym (eqb-true w 254 is.0)) (Grammar.Segment.run triples fits chars)) in
          subst (λ (o : Mode × List ℕ). Advanced q (latch t ∷ (flat_map pair triples ++ w ∷ [])) (given ++ o.1) o.0) o
          (inr (refl, segment))
      | inr isnt ↦
          let o = ok_is _ out (Ok out) (sym isnt.1) refl in
          subst (λ (o : Mode × List ℕ). Advanced q (latch t ∷ (flat_map pair triples ++ w ∷ [])) (given ++ o.1) o.0) o
          (inl (subst (λ (bs : List ℕ). InMode (Half t s w) q (latch t ∷ (flat_map pair triples ++ w ∷ [])) bs)
          (sym (append-nil given)) (InMode.half triples fits taken (eqb-false w 254 isnt.0) lt)))
    ]
advance {q = q} w out (InMode.half {t = t} {s = s} {a = a} {given = given} triples fits taken ne la) lt e =
    let r = takes_pair t s _ a w out lt e in
    let one = r.triple ∷ [] in
    let values : flat_map triple_values (triples ++ one) ≡ flat_map triple_values triples ++ triple_values r.triple =
    flat_map-append triple_values triples one in
    let joined : values_step t no_pending (flat_map triple_values (triples ++ one)) ≡ Ok (r.to.0, given ++ r.to.1) =
    ap (values_step t no_pending) values ∙ values_joined t no_pending (flat_map triple_values triples)
    (triple_values r.triple) (s, given) r.to taken r.taken in
    let words : flat_map pair (triples ++ one) ≡ (flat_map pair triples ++ a ∷ []) ++ w ∷ [] =
    flat_map-append pair triples one ∙ ap (λ (l : List ℕ). flat_map pair triples ++ l) (r.spelled) ∙
    sym (append_assoc (flat_map pair triples) (a ∷ []) (w ∷ [])) in
    subst (λ (o : Mode × List ℕ). Advanced q (latch t ∷ ((flat_map pair triples ++ a ∷ []) ++ w ∷ [])) (given ++
    o.1) o.0) r.out_is
    (inl (subst (λ (l : List ℕ). InMode (Run t r.to.0) q (latch t ∷ l) (given ++ r.to.1)) words
    (InMode.run (triples ++ one) (triples_pushed triples r.triple fits r.is_triple) joined)))
advance {q = q} w out InMode.length_due lt e = from_length q q w out lt e
advance {q = q} w out (InMode.long_length {v = v} low high) lt e =
    let k : q + 2 ≡ q + 1 + 1 = omega arith in
    let back : q + 2 - 2 ≡ q = omega arith in
    let x = value_255 (q + 1 + 1) w in
    let word = state_255-value_255 (q + 1 + 1) w lt in
    let at : cond (ltb x 250) (Ok (bytes_left (250 * (v - 249) + x) (q + 2 - 2), [])) (Err (Reserved (q + 1 + 1) w)) ≡
    Ok out = subst (λ (j : ℕ). cond (ltb (value_255 j w) 250)
    (Ok (bytes_left (250 * (v - 249) + value_255 j w) (q + 2 - 2), [])) (Err (Reserved j w)) ≡ Ok out) k e in
    let r = only_if (ltb x 250) _ _ out at in
    let whole = left q (250 * (v - 249) + x) (v ∷ x ∷ []) []
    (subst (IsLength (v ∷ x ∷ [])) (plus_none (250 * (v - 249) + x)) (Grammar.IsLength.two low high
    (ltb-true x 250 r.0))) tt in
    let placed : Advanced q (231 ∷ state_255 (q + 1) v ∷ w ∷ []) [] (bytes_left (250 * (v - 249) + x) q) =
    subst (λ (w : ℕ). Advanced q (231 ∷ state_255 (q + 1) v ∷ w ∷ []) [] (bytes_left (250 * (v - 249) + x) q)) word
    whole in grind arith
advance {q = q} w out (InMode.bytes {n = n} len bs is fits) lt e =
    grind (arith, length-randomised, ok_is, append_assoc, push_value, length-append, left, fits_pushed, value_255-below)
advance {q = q} w out (InMode.rest bs fits) lt e =
    grind (arith, InMode.rest, length-randomised, ok_is, push_value, fits_pushed, value_255-below)
advance {q = q} w out (InMode.padded any) lt e = grind (arith, InMode.padded, ok_is)

nothing_more : {q : ℕ} (front given : List ℕ) → Segment q front [] given → Reads q front given
nothing_more {q = q} front given segment =
    grind (arith, Grammar.Reads.joined, Grammar.Reads.nothing, append-nil front, append-nil given)

-- a last codeword in ASCII
single : {p a : ℕ} {r : Stepped} (q k : ℕ) (bs : List ℕ) → AsciiStep p a r →
    (r >>= λ n. prepend n.1 (ended n.0 k)) ≡ Ok bs → Reads q (a ∷ []) bs
single q k bs (AsciiStep.nothing x) e = absurd cc
single q k bs (AsciiStep.unsupported x) e = absurd cc
single {a = a} q k bs (AsciiStep.character b lt is) e = grind (arith, Grammar.Segment.character, ok_is, nothing_more)
single {a = a} q k bs (AsciiStep.digits m n lm ln is) e = grind (arith, Grammar.Segment.digits, ok_is, nothing_more)
single {a = a} q k bs (AsciiStep.pad is) e = grind (arith, Grammar.Reads.padded, ok_is)
single {a = a} q k bs (AsciiStep.to_run t is) e =
    subst (λ (l : List ℕ). Reads q (a ∷ []) l) (ok_is [] bs _ refl e)
    (subst (λ (w : ℕ). Reads q (w ∷ []) []) (sym is)
    (nothing_more (latch t ∷ []) [] (Grammar.Segment.open_run [] tt (chars_from t [] [] no_pending tt refl) tt)))
single q k bs (AsciiStep.to_bytes is) e = absurd cc
single q k bs (AsciiStep.to_upper is) e = absurd cc

-- the end of the codewords
at_end : {m : Mode} {q : ℕ} {front given : List ℕ} (p : ℕ) (bs : List ℕ) → InMode m q front given → finish m p ≡ Ok bs →
    Reads q front (given ++ bs)
unfolding finish
at_end {q = q} p bs InMode.ascii e = subst (λ (l : List ℕ). Reads q [] l) (ok_is [] bs _ refl e) Grammar.Reads.nothing
at_end p bs InMode.upper e = absurd cc
at_end {q = q} p bs (InMode.run {t = t} {s = s} {given = given} triples fits taken) e =
    let chars = chars_from t (flat_map triple_values triples) given s (values_below triples fits) taken in
    subst (λ (l : List ℕ). Reads q (latch t ∷ flat_map pair triples) (given ++ l)) (ok_is [] bs _ refl e)
    (subst (λ (l : List ℕ). Reads q (latch t ∷ flat_map pair triples) l) (sym (append-nil given))
    (nothing_more (latch t ∷ flat_map pair triples) given (Grammar.Segment.open_run triples fits chars tt)))
at_end {q = q} p bs (InMode.half {t = t} {s = s} {a = a} {given = given} triples fits taken ne lt) e =
    let chars = chars_from t (flat_map triple_values triples) given s (values_below triples fits) taken in
    Grammar.Reads.joined (latch t ∷ flat_map pair triples) (a ∷ []) given bs
    (Grammar.Segment.open_run triples fits chars ne)
    (single (q + length (latch t ∷ flat_map pair triples)) p bs (ascii_view (p - 1) a) e)
at_end p bs InMode.length_due e = absurd cc
at_end p bs (InMode.long_length low high) e = absurd cc
at_end p bs (InMode.bytes len xs is fits) e = absurd cc
at_end {q = q} p bs (InMode.rest xs fits) e = grind (arith, Grammar.Segment.rest, append-nil, nothing_more)
at_end {q = q} p bs (InMode.padded any) e = grind (arith, Grammar.Reads.padded, ok_is)

pub sound : (words : List ℕ) {m : Mode} {q : ℕ} {front given : List ℕ} (bs : List ℕ) →
    AllByRecursion (λ w. w < 256) words → InMode m q front given
    → reading m (q + length front) words ≡ Ok bs → Reads q (front ++ words) (given ++ bs)
unfolding reading
sound [] {m = m} {q = q} {front = front} {given = given} bs fits i e = grind (arith, append-nil, at_end)
sound (w ∷ words) {m = m} {q = q} {front = front} {given = given} bs fits i e =
    let p = q + length front in
    let a = bind_ok (step m p w) (λ n. prepend n.1 (reading n.0 (p + 1) words)) bs e in
    let out = a.0 in
    let b = bind_ok (reading out.0 (p + 1) words) (λ more. Ok (out.1 ++ more)) bs a.2 in
    let more = b.0 in
    let longer = front ++ w ∷ [] in
    let k : p + 1 ≡ q + length longer = omega (arith, length-append front (w ∷ [])) in
    let whole : Reads q (longer ++ words) ((given ++ out.1) ++ more) =
    elim (advance w out i fits.0 a.1) [
      | inl inside ↦ sound words more fits.1 inside (subst (λ (j : ℕ). reading out.0 j words ≡ Ok more) k b.1)
      | inr ended ↦
          let k0 : p + 1 ≡ q + length longer + length {A = ℕ} [] = omega (arith, length-append front (w ∷ [])) in
          let r : reading Ascii (q + length longer + length {A = ℕ} []) words ≡ Ok more = cc in
          Grammar.Reads.joined longer words (given ++ out.1) more (ended.1 words)
          (sound words more fits.1 (InMode.ascii {p = q + length longer}) r)
    ] in
    let bytes_are : (given ++ out.1) ++ more ≡ given ++ bs = append_assoc given out.1 more ∙
    ap (λ (l : List ℕ). given ++ l) (ok_is (out.1 ++ more) bs _ refl b.2) in grind (arith, append_assoc)

-- from ASCII on
pub reads_from : (p : ℕ) (words bs : List ℕ) → AllByRecursion (λ w. w < 256) words → reading Ascii p words ≡ Ok bs →
    Reads p words bs
reads_from p words bs fits e = let k : p + 0 ≡ p = omega arith in
    sound words bs fits (InMode.ascii {p = p}) (subst (λ (j : ℕ). reading Ascii j words ≡ Ok bs) (sym k) e)
