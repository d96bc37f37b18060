-- Where reading codeword by codeword fails, the codewords are stuck.
use Rattle.std.proofs.lemmas.{Grind.common_steps, Bool.eqb-false, Bool.ltb-false, List.append-nil, List.length-append}
use Rattle.std.proofs.Common.{◌≡◌, ℕ, suc, ◌+◌, ◌-◌, ◌*◌, ◌/◌, ◌%◌, ◌<◌, ◌≤◌, ◌⊎◌, inl, inr, eqb, ltb, List, [], ◌∷◌, ◌++◌, length, get_or, take, Result, Ok, Err, refl, sym, subst, append_assoc, arith}
use Rattle.std.specs.List.{flat_map, AllByRecursion}
use Rattle.dm_encodation.specs.declared.{letters.Letters.Letters, mode.Pending.Pending, mode.Mode.Mode}
use Rattle.dm_encodation.specs.declared.mode.Mode.TheVariants.{Ascii, Length, LongLength}
use Rattle.dm_encodation.specs.declared.mode.ValueFault.{ValueFault, TheVariants.Fnc1, TheVariants.Missing}
use Rattle.dm_encodation.specs.declared.fault.DecodeFault.{DecodeFault}
use Rattle.dm_encodation.specs.Grammar.{Triple, IsTriple, triple_values, pair, IsMeaningless, state_255, latch, Segment, BadPair, StuckHere, Stuck}
use Rattle.dm_encodation.specs.Grammar
use Rattle.dm_encodation.specs.inner.Reading.{◌>>=◌, prepend, Stepped, Valued, no_pending, value_step, ascii_step, upper_step, at_pair, pair_step, values_step, value_255, step, ended, finish, reading}
use Rattle.dm_encodation.proofs.AsciiStepCases.{AsciiStep, ascii_view}
use Rattle.dm_encodation.proofs.ReadsToReading.{chars_step, values_joined, randomised-append, length-randomised}
use Rattle.dm_encodation.proofs.ReadingToReads.{chosen, values_below}
use Rattle.dm_encodation.proofs.TakenValues.{chars_from, tail_of}
use Rattle.dm_encodation.proofs.ReadingToReads.{InMode, advance, state_255-value_255, value_255-below}
use Rattle.dm_encodation.proofs.StuckToReading.{fnc1_is, fnc1_from, values_fail, second_tail, second_set, append_below, ok_err, moved, moved_back}

bind_err : {A B E : Type 0} (r : Result A E) (g : A → Result B E) (f : E) → (r >>= g) ≡ Err f →
    (r ≡ Err f) ⊎ ((x : A) × (r ≡ Ok x) × (g x ≡ Err f))
bind_err {A} {B} {E} r g f e = grind arith

prepend_err : (bs : List ℕ) (r : Result (List ℕ) DecodeFault) (f : DecodeFault) → prepend bs r ≡ Err f → r ≡ Err f
prepend_err bs r f e = grind arith

abbrev failed : DecodeFault → Stepped
failed f = Err f

fault_is : (x y : DecodeFault) → failed x ≡ failed y → x ≡ y
fault_is x y e = cc

-- ---- pairs

-- the first value that fails
record FirstFailure (t : Letters) (s : Pending) (vs : List ℕ) (e : ValueFault) : Type 0 where
  place : ℕ
  below : place < length vs
  mid : Pending × List ℕ
  taken : values_step t s (take place vs) ≡ Ok mid
  fails : value_step t mid.0 (get_or vs place 0) ≡ Err e

first_failure : (t : Letters) (s : Pending) (vs : List ℕ) (e : ValueFault) → values_step t s vs ≡ Err e →
    FirstFailure t s vs e
first_failure t s [] e h = absurd (ok_err _ _ h)
first_failure t s (v ∷ vs) e h =
    elim (bind_err (value_step t s v) (λ a. values_step t a.0 vs >>= λ b. Ok (b.0, a.1 ++ b.1)) e h) [
      | inl now ↦ record { place = 0; below = omega arith; mid = (s, []); taken = refl; fails = now }
      | inr more ↦ elim (bind_err (values_step t more.0.0 vs) (λ b. Ok (b.0, more.0.1 ++ b.1)) e more.2) [
        | inl later ↦ let r = first_failure t more.0.0 vs e later in
            record {
              place = suc r.place;
              below = omega (arith, r.below);
              mid = (r.mid.0, more.0.1 ++ r.mid.1);
              taken = cc;
              fails = r.fails;
            }
        | inr never ↦ absurd (ok_err _ _ never.2)
      ]
    ]

-- the value has no meaning after the others
meaningless_at : (t : Letters) (s : Pending) (vs front : List ℕ) (v : ℕ) (given : List ℕ) (mid : Pending × List ℕ)
    (e : ValueFault) → AllByRecursion (λ v. v < 40) (vs ++ front)
    → values_step t no_pending vs ≡ Ok (s, given) → values_step t s front ≡ Ok mid → value_step t mid.0 v ≡ Err e
    → (m : IsMeaningless t (vs ++ front) v) × (tail_of mid.0 ≡ m.before.tail)
unfolding chars_from
meaningless_at t s vs front v given mid e fits taken ok err =
    let joined = values_joined t no_pending vs front (s, given) mid taken ok in
    let failing = values_fail t no_pending (vs ++ front) v [] (mid.0, given ++ mid.1) e joined err in (
      record {
        bytes = given ++ mid.1;
        before = chars_from t (vs ++ front) (given ++ mid.1) mid.0 fits joined;
        none = λ others chars. let r = chars_step t ((vs ++ front) ++ v ∷ []) others chars in grind arith;
      },
      refl,
    )

front_below : (tr : Triple) (k : ℕ) → k < 3 → IsTriple tr → AllByRecursion (λ v. v < 40) (take k (triple_values tr))
front_below tr k lt f = grind (arith, common_steps)

different : Missing ≡ Fnc1 → ⊥
different e = cc

by_kind : (t : Letters) (s : Pending) (p : ℕ) (triples : List Triple) (next : Triple) (a x k : ℕ) (f : DecodeFault)
    (e : ValueFault) (mid : Pending) → IsTriple next → pair next ≡ a ∷ x ∷ [] → k < 3
    → value_step t mid (get_or (triple_values next) k 0) ≡ Err e
    → (m : IsMeaningless t (flat_map triple_values triples ++ take k (triple_values next))
    (get_or (triple_values next) k 0)) → tail_of mid ≡ m.before.tail
    → at_pair t p a (Err e) ≡ Err f → BadPair t p triples a x f
by_kind t s p triples next a x k f Fnc1 mid is spelled lt h m tail at =
    let r = fnc1_is t mid.upper mid.set _ h in
    subst (λ (f : DecodeFault). BadPair t p triples a x f) (fault_is _ f at)
    (Grammar.BadPair.fnc1 (record {
      next = next;
      place = k;
      is_triple = is;
      spelled = spelled;
      in_pair = lt;
      meaningless = m;
    }) (r.1, moved_back mid m.before.tail tail (second_tail mid.upper mid.set r.0)))
by_kind t s p triples next a x k f Missing mid is spelled lt h m tail at =
    subst (λ (f : DecodeFault). BadPair t p triples a x f) (fault_is _ f at)
    (Grammar.BadPair.meaningless (record {
      next = next;
      place = k;
      is_triple = is;
      spelled = spelled;
      in_pair = lt;
      meaningless = m;
    }) (λ q. grind (arith, different, fnc1_from, second_set, moved)))

by_value : (t : Letters) (s : Pending) (p : ℕ) (triples : List Triple) (next : Triple) (a x : ℕ) (given : List ℕ)
    (f : DecodeFault) (e : ValueFault) → AllByRecursion IsTriple triples → IsTriple next
    → pair next ≡ a ∷ x ∷ [] → values_step t no_pending (flat_map triple_values triples) ≡ Ok (s, given) →
    FirstFailure t s (triple_values next) e → at_pair t p a (Err e) ≡ Err f → BadPair t p triples a x f
by_value t s p triples next a x given f e fits is spelled taken r at =
    let vs = flat_map triple_values triples in
    let k : r.place < 3 = omega (arith, r.below) in
    let m = meaningless_at t s vs (take r.place (triple_values next))
    (get_or (triple_values next) r.place 0) given r.mid e
    (append_below vs (take r.place (triple_values next)) (values_below triples fits)
    (front_below next r.place k is)) taken r.taken r.fails in search (arith, by_kind)

from_at_pair_err : (t : Letters) (p w : ℕ) (r : Valued) (f : DecodeFault) → at_pair t p w r ≡ Err f →
    (e : ValueFault) × (r ≡ Err e) × (at_pair t p w (Err e) ≡ Err f)
from_at_pair_err t p w r f h = grind arith

valued : (t : Letters) (s : Pending) (p : ℕ) (triples : List Triple) (a x : ℕ) (given : List ℕ) (f : DecodeFault) →
    x < 256 → AllByRecursion IsTriple triples
    → values_step t no_pending (flat_map triple_values triples) ≡ Ok (s, given) → 1 ≤ 256 * a + x → 256 * a + x ≤ 64000
    → at_pair t p a (values_step t s
    (((256 * a + x - 1) / 1600) ∷ ((256 * a + x - 1) / 40 % 40) ∷ ((256 * a + x - 1) % 40) ∷ [])) ≡ Err f →
    BadPair t p triples a x f
valued t s p triples a x given f lt fits taken low high e =
    let v = 256 * a + x in
    let next : Triple = record { first = (v - 1) / 1600; second = (v - 1) / 40 % 40; third = (v - 1) % 40 } in
    let whole : 1600 * ((v - 1) / 1600) + 40 * ((v - 1) / 40 % 40) + (v - 1) % 40 + 1 ≡ v = omega arith in
    let d : v / 256 ≡ a = omega arith in
    let m : v % 256 ≡ x = omega arith in
    let spelled : pair next ≡ a ∷ x ∷ [] = rw (whole, d, m) refl in
    let q1 : (v - 1) / 1600 < 40 = omega arith in
    let q2 : (v - 1) / 40 % 40 < 40 = omega arith in
    let q3 : (v - 1) % 40 < 40 = omega arith in
    let r = from_at_pair_err t p a (values_step t s (triple_values next)) f e in search (arith, by_value, first_failure)

bad_pair_from : (t : Letters) (s : Pending) (p : ℕ) (triples : List Triple) (a x : ℕ) (given : List ℕ)
    (f : DecodeFault) → x < 256 → AllByRecursion IsTriple triples
    → values_step t no_pending (flat_map triple_values triples) ≡ Ok (s, given) → pair_step t s p a x ≡ Err f →
    BadPair t p triples a x f
unfolding pair_step
bad_pair_from t s p triples a x given f lt fits taken e =
    elim (chosen (eqb (256 * a + x) 0) _ _ _ e) [
      | inl is ↦ grind (arith, Grammar.BadPair.no_value)
      | inr is ↦
          elim (chosen (ltb 64000 (256 * a + x)) _ _ _ is.1) [
            | inl over ↦ grind (arith, Grammar.BadPair.no_value)
            | inr fine ↦
                let n0 = eqb-false (256 * a + x) 0 is.0 in
                let low : 1 ≤ 256 * a + x = grind arith in search (arith, valued, ltb-false)
          ]
    ]

-- ---- one codeword that fails

here_nothing : {p w : ℕ} {r : Stepped} (q : ℕ) (after : List ℕ) (f : DecodeFault) → p ≡ q → AsciiStep p w r →
    r ≡ Err f → StuckHere q (w ∷ after) f
here_nothing {p} {w} {r} q after f at given e =
    grind (arith, Grammar.StuckHere.reserved, Grammar.StuckHere.unsupported, fault_is, ok_err)

upper_fails : (q w : ℕ) (after : List ℕ) (f : DecodeFault) → upper_step (q + 1) w ≡ Err f →
    StuckHere q (235 ∷ w ∷ after) f
unfolding upper_step
upper_fails q w after f e = grind (arith, Grammar.StuckHere.bad_upper)

long_stuck : (q v w : ℕ) (after : List ℕ) (f : DecodeFault) → 250 ≤ v → v < 256 → w < 256 →
    step (LongLength v) (q + 1 + 1) w ≡ Err f → StuckHere q (231 ∷ state_255 (q + 1) v ∷ w ∷ after) f
unfolding step
long_stuck q v w after f low high lt e =
    let x = value_255 (q + 1 + 1) w in
    let word = state_255-value_255 (q + 1 + 1) w lt in
    grind (arith, Grammar.StuckHere.bad_length, chosen, ok_err, fault_is, ltb-false, value_255-below)

length_never : (p w : ℕ) (f : DecodeFault) → step Length p w ≡ Err f → ⊥
unfolding step
length_never p w f e = grind arith

step_fails : {m : Mode} {q : ℕ} {front given : List ℕ} (w : ℕ) (after : List ℕ) (f : DecodeFault) →
    InMode m q front given → w < 256 → step m (q + length front) w ≡ Err f → StuckHere q (front ++ w ∷ after) f
unfolding step
step_fails {q = q} w after f InMode.ascii lt e = here_nothing q after f (omega arith) (ascii_view (q + 0) w) e
step_fails {q = q} w after f InMode.upper lt e = upper_fails q w after f e
step_fails {q = q} w after f (InMode.run {t = t} {s = s} triples fits taken) lt e = grind arith
step_fails {q = q} w after f (InMode.half {t = t} {s = s} {a = a} {given = given} triples fits taken ne la) lt e =
    let p = q + 1 + length (flat_map pair triples) in
    let k : q + length (latch t ∷ (flat_map pair triples ++ a ∷ [])) - 1 ≡ p = grind (arith, length-append) in
    let bad = bad_pair_from t s p triples a w given f lt fits taken
    (subst (λ (j : ℕ). pair_step t s j a w ≡ Err f) k e) in
    let chars = chars_from t (flat_map triple_values triples) given s (values_below triples fits) taken in
    search (arith, Grammar.StuckHere.bad_pair, append_assoc)
step_fails {q = q} w after f InMode.length_due lt e = absurd (length_never (q + 1) w f e)
step_fails {q = q} w after f (InMode.long_length {v = v} low high) lt e = grind (arith, long_stuck)
step_fails w after f (InMode.bytes len bs is fits) lt e = absurd (ok_err _ _ e)
step_fails w after f (InMode.rest bs fits) lt e = absurd (ok_err _ _ e)
step_fails w after f (InMode.padded any) lt e = absurd (ok_err _ _ e)

-- ---- the end of the codewords

abbrev ended_as : DecodeFault → Result (List ℕ) DecodeFault
ended_as f = Err f

end_fault : (x y : DecodeFault) → ended_as x ≡ ended_as y → x ≡ y
end_fault x y e = cc

single_fails : {j a : ℕ} {r : Stepped} (q : ℕ) (f : DecodeFault) → j ≡ q → AsciiStep j a r →
    (r >>= λ n. prepend n.1 (ended n.0 (j + 1))) ≡ Err f → StuckHere q (a ∷ []) f
single_fails {j} {a} {r} q f at given e = grind (
  arith,
  Grammar.StuckHere.reserved,
  Grammar.StuckHere.unsupported,
  Grammar.StuckHere.no_length,
  Grammar.StuckHere.cut_upper,
  end_fault,
  ok_err,
)

end_fails : {m : Mode} {q : ℕ} {front given : List ℕ} (f : DecodeFault) → InMode m q front given →
    finish m (q + length front) ≡ Err f → Stuck q front f
unfolding finish
end_fails f InMode.ascii e = absurd (ok_err _ _ e)
end_fails {q = q} f InMode.upper e = grind (arith, Grammar.Stuck.here, Grammar.StuckHere.cut_upper, end_fault)
end_fails f (InMode.run triples fits taken) e = absurd (ok_err _ _ e)
end_fails {q = q} f (InMode.half {t = t} {s = s} {a = a} {given = given} triples fits taken ne la) e =
    let chars = chars_from t (flat_map triple_values triples) given s (values_below triples fits) taken in
    let front = latch t ∷ flat_map pair triples in
    let p = q + length (latch t ∷ (flat_map pair triples ++ a ∷ [])) in
    let k : p - 1 ≡ q + length front = omega (arith, length-append (flat_map pair triples) (a ∷ [])) in
    let k2 : p ≡ p - 1 + 1 = omega (arith, length-append (flat_map pair triples) (a ∷ [])) in
    let e2 = subst (λ (j : ℕ). (ascii_step (p - 1) a >>= λ n. prepend n.1 (ended n.0 j)) ≡ Err f) k2 e in
    Grammar.Stuck.later front (a ∷ []) given (Grammar.Segment.open_run triples fits chars ne)
    (Grammar.Stuck.here (single_fails (q + length front) f k (ascii_view (p - 1) a) e2))
end_fails {q = q} f InMode.length_due e = grind (arith, Grammar.Stuck.here, Grammar.StuckHere.no_length, end_fault)
end_fails {q = q} f (InMode.long_length {v = v} low high) e =
    grind (arith, Grammar.Stuck.here, Grammar.StuckHere.half_length, end_fault)
end_fails {q = q} f (InMode.bytes {n = n} len bs is fits) e =
    grind (arith, Grammar.Stuck.here, Grammar.StuckHere.too_few, length-randomised, end_fault, randomised-append)
end_fails f (InMode.rest bs fits) e = absurd (ok_err _ _ e)
end_fails f (InMode.padded any) e = absurd (ok_err _ _ e)

pub sound_fault : (words : List ℕ) {m : Mode} {q : ℕ} {front given : List ℕ} (f : DecodeFault) →
    AllByRecursion (λ w. w < 256) words → InMode m q front given
    → reading m (q + length front) words ≡ Err f → Stuck q (front ++ words) f
unfolding reading
sound_fault [] {m = m} {q = q} {front = front} f fits i e = grind (arith, append-nil, end_fails)
sound_fault (w ∷ words) {m = m} {q = q} {front = front} {given = given} f fits i e =
    let p = q + length front in
    let longer = front ++ w ∷ [] in
    elim (bind_err (step m p w) (λ n. prepend n.1 (reading n.0 (p + 1) words)) f e) [
      | inl now ↦ Grammar.Stuck.here (step_fails w words f i fits.0 now)
      | inr a ↦
          let out = a.0 in
          let more = prepend_err out.1 (reading out.0 (p + 1) words) f a.2 in
          let k : p + 1 ≡ q + length longer = omega (arith, length-append front (w ∷ [])) in
          let whole : Stuck q (longer ++ words) f =
          elim (advance w out i fits.0 a.1) [
            | inl inside ↦ sound_fault words f fits.1 inside (subst (λ (j : ℕ). reading out.0 j words ≡ Err f) k more)
            | inr end ↦
                let k0 : p + 1 ≡ q + length longer + length {A = ℕ} [] = omega (arith, length-append front (w ∷ [])) in
                let r : reading Ascii (q + length longer + length {A = ℕ} []) words ≡ Err f = cc in
                Grammar.Stuck.later longer words (given ++ out.1) (end.1 words)
                (sound_fault words f fits.1 (InMode.ascii {p = q + length longer}) r)
          ] in grind (arith, append_assoc)
    ]

pub stuck_from : (p : ℕ) (words : List ℕ) (f : DecodeFault) → AllByRecursion (λ w. w < 256) words →
    reading Ascii p words ≡ Err f → Stuck p words f
stuck_from p words f fits e = let k : p + 0 ≡ p = omega arith in
    sound_fault words f fits (InMode.ascii {p = p}) (subst (λ (j : ℕ). reading Ascii j words ≡ Err f) (sym k) e)
