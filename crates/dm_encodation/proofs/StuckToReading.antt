-- Where the codewords are stuck, reading codeword by codeword fails so.
use Rattle.std.proofs.lemmas.{Grind.common_steps, Bool.ne_eqb, Bool.le-ltb}
use Rattle.std.proofs.Common.{◌≡◌, ℕ, zero, suc, ◌+◌, ◌-◌, ◌<◌, ◌≤◌, ◌⊎◌, inl, inr, Bool, true, false, eqb, List, [], ◌∷◌, ◌++◌, length, get_or, take, Ok, Err, refl, sym, ap, subst, ◌∙◌, append_assoc, arith}
use Rattle.std.specs.List.{flat_map, AllByRecursion}
use Rattle.dm_encodation.specs.declared.{letters.Letters.Letters, mode.Set.Set, mode.Pending.Pending, mode.Mode.Mode}
use Rattle.dm_encodation.specs.declared.mode.Set.TheVariants.{Basic, First, Second, Third}
use Rattle.dm_encodation.specs.declared.mode.Mode.TheVariants.{Ascii, Run, Half, Length, LongLength}
use Rattle.dm_encodation.specs.declared.mode.ValueFault.{ValueFault, TheVariants.Fnc1, TheVariants.Missing}
use Rattle.dm_encodation.specs.declared.fault.DecodeFault.{DecodeFault}
use Rattle.dm_encodation.specs.declared.fault.DecodeFault.TheVariants.{Unsupported, Reserved, Cut}
use Rattle.dm_encodation.specs.Grammar
use Rattle.dm_encodation.specs.Grammar.{Unfinished, Triple, IsTriple, triple_values, pair, IsMeaningless, state_255, randomised, latch, IsUnsupported, BadPair, StuckHere, Stuck}
use Rattle.dm_encodation.specs.inner.Reading.{◌>>=◌, prepend, Stepped, Valued, no_pending, value_step, ascii_step, upper_step, at_pair, pair_step, values_step, bytes_left, step, finish, reading}
use Rattle.dm_encodation.proofs.{AsciiStepCases.AsciiStep, AsciiStepCases.ascii_view, ReadingToReads.values_below}
use Rattle.dm_encodation.proofs.ReadsToReading.{bind_ok, ok_is, reading_silent, complete_segment, length_read, run_read, chars_step, characters_read, pair_is, step_latch, value_255-state_255, values_joined, splits}
use Rattle.dm_encodation.proofs.TakenValues.{chars_from, tail_of, tail_at}

reading_fault : (m : Mode) (p w : ℕ) (ws : List ℕ) (f : DecodeFault) → step m p w ≡ Err f → reading m p (w ∷ ws) ≡ Err f
unfolding reading
reading_fault m p w ws f e = ap (λ (s : Stepped). s >>= λ n. prepend n.1 (reading n.0 (p + 1) ws)) e

is_unsupported : {p w : ℕ} {r : Stepped} → AsciiStep p w r → IsUnsupported w → r ≡ Err (Unsupported p w)
is_unsupported {p} {w} {r} given u = grind arith

is_reserved : {p w : ℕ} {r : Stepped} → AsciiStep p w r → (w ≡ 0) ⊎ (242 ≤ w) → r ≡ Err (Reserved p w)
is_reserved {p} {w} {r} given u = grind arith

bad_upper : (p x : ℕ) → (x ≡ 0) ⊎ (128 < x) → upper_step p x ≡ Err (Reserved p x)
unfolding upper_step
bad_upper p x given = grind arith

bytes_short : (after : List ℕ) (n q at : ℕ) → length after < n → reading (bytes_left n at) q after ≡ Err (Cut at)
unfolding reading step finish
bytes_short [] n q at lt = grind arith
bytes_short (w ∷ ws) zero q at lt = absurd (omega arith)
bytes_short (w ∷ ws) (suc n) q at lt = let e : suc n - 1 ≡ n = omega arith in grind (arith, bytes_short ws n (q + 1))

-- ---- pairs

-- which fault a value has
fnc1_at : (t : Letters) (up : Bool) → value_step t (record { upper = up; set = Second }) 27 ≡ Err Fnc1
unfolding value_step
fnc1_at t up = refl

pub ok_err : {A E : Type 0} (x : A) (f : E) → Ok x ≡ Err f → ⊥
ok_err x f e = cc

pub fnc1_is : (t : Letters) (up : Bool) (set : Set) (v : ℕ) →
    value_step t (record { upper = up; set = set }) v ≡ Err Fnc1 → (set ≡ Second) × (v ≡ 27)
unfolding value_step
fnc1_is t up set v e = grind arith

-- the values of a triple, cut at one of them
triple_cut : (tr : Triple) (k : ℕ) → k < 3 →
    (rest : List ℕ) × (triple_values tr ≡ take k (triple_values tr) ++ get_or (triple_values tr) k 0 ∷ rest)
triple_cut tr zero lt = (tr.second ∷ tr.third ∷ [], refl)
triple_cut tr (suc zero) lt = (tr.third ∷ [], refl)
triple_cut tr (suc (suc zero)) lt = ([], refl)
triple_cut tr (suc (suc (suc k))) lt = absurd (omega arith)

pub values_fail : (t : Letters) (s : Pending) (front : List ℕ) (v : ℕ) (rest : List ℕ) (mid : Pending × List ℕ)
    (e : ValueFault) → values_step t s front ≡ Ok mid → value_step t mid.0 v ≡ Err e
    → values_step t s (front ++ v ∷ rest) ≡ Err e
values_fail t s [] v rest mid e ok err = grind arith
values_fail t s (x ∷ xs) v rest mid e ok err =
    let a = bind_ok (value_step t s x) (λ a. values_step t a.0 xs >>= λ b. Ok (b.0, a.1 ++ b.1)) mid ok in
    let b = bind_ok (values_step t a.0.0 xs) (λ b. Ok (b.0, a.0.1 ++ b.1)) mid a.2 in
    let o : mid ≡ (b.0.0, a.0.1 ++ b.0.1) = ok_is mid _ _ b.2 refl in
    let next = values_fail t a.0.0 xs v rest b.0 e b.1
    (subst (λ (m : Pending × List ℕ). value_step t m.0 v ≡ Err e) o err) in grind arith

tail_state : (t : Letters) (tail : List ℕ) → Unfinished tail →
    (s : Pending) × (values_step t no_pending tail ≡ Ok (s, [])) × (tail_of s ≡ tail)
unfolding value_step
tail_state t tail Grammar.Unfinished.nothing = (no_pending, refl, refl)
tail_state t tail (Grammar.Unfinished.shift {s = zero} lt) = (record { upper = false; set = First }, refl, refl)
tail_state t tail (Grammar.Unfinished.shift {s = suc zero} lt) = (record { upper = false; set = Second }, refl, refl)
tail_state t tail (Grammar.Unfinished.shift {s = suc (suc zero)} lt) =
    (record { upper = false; set = Third }, refl, refl)
tail_state t tail (Grammar.Unfinished.shift {s = suc (suc (suc k))} lt) = absurd (omega arith)
tail_state t tail Grammar.Unfinished.upper = (record { upper = true; set = Basic }, refl, refl)
tail_state t tail (Grammar.Unfinished.upper_shift {s = zero} lt) = (record { upper = true; set = First }, refl, refl)
tail_state t tail (Grammar.Unfinished.upper_shift {s = suc zero} lt) =
    (record { upper = true; set = Second }, refl, refl)
tail_state t tail (Grammar.Unfinished.upper_shift {s = suc (suc zero)} lt) =
    (record { upper = true; set = Third }, refl, refl)
tail_state t tail (Grammar.Unfinished.upper_shift {s = suc (suc (suc k))} lt) = absurd (omega arith)

-- what a value without a meaning does
record Refused (t : Letters) (s : Pending) (front : List ℕ) (v : ℕ) (tail : List ℕ) : Type 0 where
  mid : Pending × List ℕ
  taken : values_step t s front ≡ Ok mid
  fault : ValueFault
  refused : value_step t mid.0 v ≡ Err fault
  pending : tail_of mid.0 ≡ tail

refuses : (t : Letters) (s : Pending) (vs front : List ℕ) (v : ℕ) (bytes : List ℕ) →
    AllByRecursion (λ v. v < 40) ((vs ++ front) ++ v ∷ []) → values_step t no_pending vs ≡ Ok (s, bytes)
    → (m : IsMeaningless t (vs ++ front) v) → Refused t s front v m.before.tail
refuses t s vs front v bytes fits taken m =
    let end = tail_state t m.before.tail m.before.unfinished in
    let all : values_step t no_pending (vs ++ front) ≡ Ok (end.0, m.bytes) = grind (arith, characters_read) in
    let parts = splits t no_pending vs front (end.0, m.bytes) all in
    let middle : parts.middle ≡ (s, bytes) = ok_is parts.middle (s, bytes) _ parts.first_is taken in
    let second : values_step t s front ≡ Ok parts.last = cc in
    let state : end.0 ≡ parts.last.0 = ap (λ (x : Pending × List ℕ). x.0) parts.out_is in
    let tail_is : tail_of parts.last.0 ≡ m.before.tail = sym (ap tail_of state) ∙ end.2 in
    go (value_step t parts.last.0 v) parts.last refl second tail_is (end.0, all, state)
  where
    go : (r : Valued) (last : Pending × List ℕ) → value_step t last.0 v ≡ r → values_step t s front ≡ Ok last →
        tail_of last.0 ≡ m.before.tail
        → (all : (x : Pending) × (values_step t no_pending (vs ++ front) ≡ Ok (x, m.bytes)) × (x ≡ last.0)) →
        Refused t s front v m.before.tail
    go (Err e) last is second tail_is all = record {
      mid = last;
      taken = second;
      fault = e;
      refused = is;
      pending = tail_is;
    }
    go (Ok out) last is second tail_is all =
        let at : value_step t all.0 v ≡ Ok out = subst (λ (x : Pending). value_step t x v ≡ Ok out) (sym all.2) is in
        let one : values_step t all.0 (v ∷ []) ≡ Ok (out.0, out.1 ++ []) = cc in
        let whole = values_joined t no_pending (vs ++ front) (v ∷ []) (all.0, m.bytes) (out.0, out.1 ++ []) all.1 one in
        absurd (m.none (m.bytes ++ (out.1 ++ [])) (chars_from t ((vs ++ front) ++ v ∷ []) (m.bytes ++
        (out.1 ++ [])) out.0 fits whole))

pub append_below : (xs ys : List ℕ) → AllByRecursion (λ v. v < 40) xs → AllByRecursion (λ v. v < 40) ys →
    AllByRecursion (λ v. v < 40) (xs ++ ys)
append_below xs ys f g = grind (arith, common_steps)

pub cut_below : (tr : Triple) (k : ℕ) → k < 3 → IsTriple tr →
    AllByRecursion (λ v. v < 40) (take k (triple_values tr) ++ get_or (triple_values tr) k 0 ∷ [])
cut_below tr k lt f = grind arith

-- the set by the tail
pub second_set : (up : Bool) (set : Set) → (tail_at up set ≡ 1 ∷ []) ⊎ (tail_at up set ≡ 1 ∷ 30 ∷ 1 ∷ []) → set ≡ Second
second_set up set e = grind arith

pub second_tail : (up : Bool) (set : Set) → set ≡ Second →
    (tail_at up set ≡ 1 ∷ []) ⊎ (tail_at up set ≡ 1 ∷ 30 ∷ 1 ∷ [])
second_tail up set e = grind arith

-- FNC1 exactly where the set is 2 and the value 27
pub fnc1_from : (t : Letters) (s : Pending) (v : ℕ) (fault : ValueFault) → s.set ≡ Second → v ≡ 27 →
    value_step t s v ≡ Err fault → fault ≡ Fnc1
fnc1_from t s v fault set-is v-is e = grind (arith, fnc1_at t s.upper)

missing_from : (t : Letters) (s : Pending) (v : ℕ) (fault : ValueFault) → ((s.set ≡ Second) × (v ≡ 27) → ⊥) →
    value_step t s v ≡ Err fault → fault ≡ Missing
missing_from t s v Missing deny e = refl
missing_from t s v Fnc1 deny e = absurd (deny (fnc1_is t s.upper s.set v e))

pub moved : (s : Pending) (tail : List ℕ) → tail_of s ≡ tail → (tail ≡ 1 ∷ []) ⊎ (tail ≡ 1 ∷ 30 ∷ 1 ∷ []) →
    (tail_of s ≡ 1 ∷ []) ⊎ (tail_of s ≡ 1 ∷ 30 ∷ 1 ∷ [])
moved s tail e given = grind arith

pub moved_back : (s : Pending) (tail : List ℕ) → tail_of s ≡ tail →
    (tail_of s ≡ 1 ∷ []) ⊎ (tail_of s ≡ 1 ∷ 30 ∷ 1 ∷ []) → (tail ≡ 1 ∷ []) ⊎ (tail ≡ 1 ∷ 30 ∷ 1 ∷ [])
moved_back s tail e given = grind arith

fails_by : (t : Letters) (s : Pending) (p : ℕ) (triples : List Triple) (w x : ℕ) (bytes : List ℕ) →
    AllByRecursion IsTriple triples
    → values_step t no_pending (flat_map triple_values triples) ≡ Ok (s, bytes) → (next : Triple) (k : ℕ) →
    IsTriple next → pair next ≡ w ∷ x ∷ [] → k < 3
    → (m : IsMeaningless t (flat_map triple_values triples ++ take k (triple_values next))
    (get_or (triple_values next) k 0)) (fault : ValueFault)
    → ((r : Refused t s (take k (triple_values next)) (get_or (triple_values next) k 0) m.before.tail) →
    r.fault ≡ fault) → pair_step t s p w x ≡ at_pair t p w (Err fault)
fails_by t s p triples w x bytes fits taken next k is spelled lt m fault known =
    let vs = flat_map triple_values triples in
    let front = take k (triple_values next) in
    let v = get_or (triple_values next) k 0 in
    let below : AllByRecursion (λ v. v < 40) ((vs ++ front) ++ v ∷ []) =
    grind (arith, append_assoc, append_below, values_below, cut_below) in
    let r = refuses t s vs front v bytes below taken m in
    let cut = triple_cut next k lt in
    let e : values_step t s (triple_values next) ≡ Err r.fault = ap (values_step t s) cut.1 ∙
    values_fail t s front v cut.0 r.mid r.fault r.taken r.refused in
    pair_is t s p next w x is spelled ∙ ap (at_pair t p w) (e ∙ ap (λ (f : ValueFault). Err f) (known r))

bad_pair_fails : (t : Letters) (s : Pending) (p : ℕ) (triples : List Triple) (w x : ℕ) (f : DecodeFault)
    (bytes : List ℕ) → AllByRecursion IsTriple triples
    → values_step t no_pending (flat_map triple_values triples) ≡ Ok (s, bytes) → BadPair t p triples w x f →
    pair_step t s p w x ≡ Err f
unfolding pair_step
bad_pair_fails t s p triples w x f bytes fits taken (Grammar.BadPair.no_value (inl none)) = grind arith
bad_pair_fails t s p triples w x f bytes fits taken (Grammar.BadPair.no_value (inr above)) = grind arith
bad_pair_fails t s p triples w x f bytes fits taken (Grammar.BadPair.fnc1 n is_fnc1) =
    let m = n.meaningless in
    fails_by t s p triples w x bytes fits taken n.next n.place n.is_triple n.spelled n.in_pair m Fnc1
    (λ r. grind (arith, fnc1_from, second_set, moved))
bad_pair_fails t s p triples w x f bytes fits taken (Grammar.BadPair.meaningless n isnt) =
    let m = n.meaningless in
    fails_by t s p triples w x bytes fits taken n.next n.place n.is_triple n.spelled n.in_pair m Missing
    (λ r. grind (arith, missing_from, moved_back, second_tail))

to_long : (p v : ℕ) → 250 ≤ v → v < 256 → step Length p (state_255 p v) ≡ Ok (LongLength v, [])
unfolding step
to_long p v low high = grind (arith, value_255-state_255 p v high)

long_fails : (p v x : ℕ) → 250 ≤ x → x < 256 → step (LongLength v) p (state_255 p x) ≡ Err (Reserved p (state_255 p x))
unfolding step
long_fails p v x low high = grind (arith, value_255-state_255, le-ltb)

half_end : (p v : ℕ) → reading (LongLength v) (p + 1 + 1) [] ≡ Err (Cut p)
unfolding reading finish
half_end p v = let e : p + 1 + 1 - 2 ≡ p = omega arith in ap (λ (k : ℕ). Err (Cut k)) e

to_length : (p : ℕ) → step Ascii p 231 ≡ Ok (Length, [])
unfolding step ascii_step
to_length p = refl

half_read : (p v : ℕ) → 250 ≤ v → v < 256 → reading Ascii p (231 ∷ state_255 (p + 1) v ∷ []) ≡ Err (Cut p)
half_read p v low high = grind (
  arith,
  reading_silent Ascii p 231 (state_255 (p + 1) v ∷ []) Length (to_length p),
  reading_silent Length (p + 1) (state_255 (p + 1) v) [] (LongLength v) (to_long (p + 1) v low high),
  half_end p v,
)

long_read : (p v x : ℕ) (after : List ℕ) → 250 ≤ v → v < 256 → 250 ≤ x → x < 256
    → reading Ascii p (231 ∷ state_255 (p + 1) v ∷ state_255 (p + 1 + 1) x ∷ after) ≡
    Err (Reserved (p + 1 + 1) (state_255 (p + 1 + 1) x))
long_read p v x after low high low2 high2 = grind (
  arith,
  reading_silent Ascii p 231 (state_255 (p + 1) v ∷ state_255 (p
      + 1 + 1) x ∷ after) Length (to_length p),
  reading_silent Length (p + 1) (state_255 (p + 1) v) (state_255 (p + 1 + 1)
      x ∷ after) (LongLength v) (to_long (p + 1) v low high),
  long_fails (p + 1 + 1) v x low2 high2,
  reading_silent,
  to_length,
  to_long,
  reading_fault,
  long_fails,
)

pub complete_here : {p : ℕ} {words : List ℕ} {f : DecodeFault} → StuckHere p words f → reading Ascii p words ≡ Err f
unfolding step ascii_step finish reading
complete_here {p = p} (Grammar.StuckHere.unsupported {w = w} {after = after} u) =
    reading_fault Ascii p w after (Unsupported p w) (is_unsupported (ascii_view p w) u)
complete_here {p = p} (Grammar.StuckHere.reserved {w = w} {after = after} u) =
    reading_fault Ascii p w after (Reserved p w) (is_reserved (ascii_view p w) u)
complete_here {p = p} Grammar.StuckHere.cut_upper = grind (arith, common_steps, reading_silent)
complete_here {p = p} (Grammar.StuckHere.bad_upper {x = x} {after = after} bad) =
    grind (arith, common_steps, reading_silent, reading_fault, bad_upper)
complete_here {p = p} Grammar.StuckHere.no_length = grind (arith, common_steps, reading_silent)
complete_here {p = p} (Grammar.StuckHere.half_length {v = v} low high) = half_read p v low high
complete_here {p = p} (Grammar.StuckHere.bad_length {v = v} {x = x} {after = after} low high low2 high2) =
    long_read p v x after low high low2 high2
complete_here {p = p} (Grammar.StuckHere.too_few {n = n} len after is short) =
    reading_silent Ascii p 231 (randomised (p + 1) len ++ after) Length refl ∙ length_read p n len after is ∙
    bytes_short after n (p + 1 + length len) p short
complete_here {p = p} (Grammar.StuckHere.bad_pair {w = w} {x = x} {t = t} {bytes = bytes} {fault =
    f} triples after fits chars ne bad) =
    let s = chars_step t (flat_map triple_values triples) bytes chars in
    let q = p + 1 + length (flat_map pair triples) in
    let t0 : eqb w 254 ≡ false = ne_eqb _ _ ne in
    let back : q + 1 - 1 ≡ q = omega arith in
    reading_silent Ascii p (latch t) (flat_map pair triples ++ w ∷ x ∷ after) (Run t no_pending) (step_latch t p)
    ∙ run_read t no_pending (p + 1) triples (w ∷ x ∷ after) (s.0, bytes) fits s.1
    ∙ ap (prepend bytes) (reading_silent (Run t s.0) q w (x ∷ after) (Half t s.0 w) (rw t0 refl)
    ∙ reading_fault (Half t s.0 w) (q + 1) x after f (ap (λ (j : ℕ). pair_step t s.0 j w x) back ∙
    bad_pair_fails t s.0 q triples w x f bytes fits s.1 bad))

pub complete_stuck : {p : ℕ} {words : List ℕ} {f : DecodeFault} → Stuck p words f → reading Ascii p words ≡ Err f
complete_stuck (Grammar.Stuck.here h) = complete_here h
complete_stuck {f = f} (Grammar.Stuck.later words after bytes segment rest) = complete_segment segment ∙
    ap (prepend bytes) (complete_stuck rest)
