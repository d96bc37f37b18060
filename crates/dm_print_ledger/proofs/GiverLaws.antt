-- Givers, of which one is noted.
use Rattle.dm_print_ledger.specs.{Verdicts.NotesSerial, declared.giver.Giver.Giver}
use Rattle.std.proofs.Common.{◌≡◌, ◌+◌, ◌≤◌, ◌<◌, ◌⊎◌, inl, inr, ℕ, Bool, true, false, Some, List, [], ◌∷◌, refl, sym, ◌∙◌, ap, subst, arith}
use Rattle.std.specs.Prelude.{◌==◌, if◌then◌else◌}
use Rattle.std.proofs.lemmas.Bool.{eq-eqb, ne_eqb, cond-true, cond-false, eqb-true, cases_eq}
use Rattle.dm_print_ledger.proofs.Rising.{GiversFrom, givers_test}
use Rattle.dm_print_ledger.specs.Ledger.{last_taken, givers_with}

-- after a giver below the new one comes what the rest gives
with_past : (giver : Giver) (givers : List Giver) (last : Giver) → giver.number < last.number →
    givers_with (giver ∷ givers) last ≡ giver ∷ givers_with givers last
with_past giver givers last h = grind arith

-- at the same giver its serial is replaced
with_here : (giver : Giver) (givers : List Giver) (last : Giver) → giver.number ≡ last.number →
    givers_with (giver ∷ givers) last ≡ last ∷ givers
with_here giver givers last h = grind arith

-- before a later giver the new one is put
with_before : (giver : Giver) (givers : List Giver) (last : Giver) → last.number < giver.number →
    givers_with (giver ∷ givers) last ≡ last ∷ giver ∷ givers
with_before giver givers last h = grind arith

-- of two numbers one is less, or they are the same
three : (a b : ℕ) → (a < b) ⊎ ((a ≡ b) ⊎ (b < a))
three a b = grind arith

-- the givers with one more rise
pub with_rise : (from : ℕ) (givers : List Giver) (last : Giver) → GiversFrom from givers → from ≤ last.number →
    GiversFrom from (givers_with givers last)
with_rise from [] last rise low = (low, tt)
with_rise from (giver ∷ givers) last rise low =
    let P : List Giver → Type 0 = λ all. GiversFrom from all in
    elim (three giver.number last.number) [
      | inl past ↦ subst P (sym (with_past giver givers last past))
          (rise.0, with_rise (giver.number + 1) givers last rise.1 (omega arith))
      | inr h ↦ elim h [
        | inl here ↦ subst P (sym (with_here giver givers last here))
            (low, subst (λ (n : ℕ). GiversFrom (n + 1) givers) here rise.1)
        | inr before ↦ subst P (sym (with_before giver givers last before))
            (low, (let l : last.number + 1 ≤ giver.number = omega arith in l, rise.1))
      ]
    ]

-- two tests that exclude each other may be made in either order
cond_swap : {X : Type 0} (a b : Bool) (x y z : X) → ((a ≡ true) → (b ≡ true) → ⊥) →
    (if a then x else (if b then y else z)) ≡ (if b then y else (if a then x else z))
cond_swap true true x y z apart = absurd (apart refl refl)
cond_swap true false x y z apart = refl
cond_swap false b x y z apart = refl

-- each giver's last serial, once one is noted
pub with_last : (from : ℕ) (givers : List Giver) (last : Giver) (other : ℕ) → GiversFrom from givers →
    last_taken (givers_with givers last) other ≡ (if last.number == other then Some last.serial else last_taken
    givers other)
with_last from [] last other rise = refl
with_last from (giver ∷ givers) last other rise =
    let P : List Giver → Type 0 = λ all. last_taken all other
    ≡ (if last.number == other then Some last.serial else last_taken (giver ∷ givers) other) in
    elim (three giver.number last.number) [
      | inl past ↦ subst P (sym (with_past giver givers last past))
          (ap (λ o. if giver.number == other then Some giver.serial else o)
          (with_last (giver.number + 1) givers last other rise.1)
          ∙ cond_swap (giver.number == other) (last.number == other) (Some giver.serial) (Some last.serial)
          (last_taken givers other)
          (λ a b. let x : giver.number ≡ other = eqb-true _ _ a in let y : last.number ≡ other = eqb-true _ _ b in
          omega arith))
      | inr h ↦ elim h [
        | inl here ↦ subst P (sym (with_here giver givers last here))
            (same_key giver.number last.number other (Some giver.serial) (Some last.serial)
            (last_taken givers other) here)
        | inr before ↦ subst P (sym (with_before giver givers last before)) refl
      ]
    ]
  where
    same_key : {X : Type 0} (a b c : ℕ) (x y z : X) → a ≡ b →
        (if b == c then y else z) ≡ (if b == c then y else (if a == c then x else z))
    same_key a b c x y z e = elim (cases_eq b c) [
      | inl same ↦ cond-true (b == c) y z (eq-eqb b c same) ∙
          sym (cond-true (b == c) y (if a == c then x else z) (eq-eqb b c same))
      | inr not ↦
          let not' : a ≡ c → ⊥ = (λ f. not (sym e ∙ f)) in
          cond-false (b == c) y z (ne_eqb b c not)
          ∙ sym (cond-false (b == c) y (if a == c then x else z) (ne_eqb b c not) ∙
          cond-false (a == c) x z (ne_eqb a c not'))
    ]

-- the noted list notes
pub notes : (givers : List Giver) (number serial : ℕ) → GiversFrom 0 givers →
    (let last : Giver = record { number = number; serial = serial } in
    NotesSerial givers number serial (givers_with givers last))
notes givers number serial rise = grind (arith, givers_test, with_rise, with_last)
