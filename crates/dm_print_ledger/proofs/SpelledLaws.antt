-- Bytes are read exactly where they are those of a sound ledger.
use Rattle.std.proofs.Common.{◌≡◌, ◌≤◌, ℕ, Bool, true, false, ◌&&◌, List, length, get_or, Result, Ok, Err, refl, ap, ◌∙◌, subst, arith, inl, inr, ◌⊎◌}
use Rattle.std.specs.Prelude.{nat_eq, if◌then◌else◌}
use Rattle.std.specs.{Cmp.Lexicographic.pointwise, Cmp.Lexicographic.bytes_decides, List.starts_with}
use Rattle.std.proofs.lemmas.Bool.{and_parts, and_from, cond-true, le-ltb}
use Rattle.dm_print_ledger.specs.declared.fault.OpenFault.{OpenFault, TheVariants.Version, TheVariants.Damaged}
use Rattle.dm_print_ledger.specs.Ledger.{ShownView, FirstLedger, SpellsLedger, ReadsWhatIsSpelled, are_in_order, first_bytes, first_in, numbers_in, read_first, read_ledger, read_second, shown_of_first}
use Rattle.dm_print_ledger.specs.Ledger.SpellsLedger.{second, first}
use Rattle.dm_print_ledger.proofs.ReadLaws.{by_tests, ledger_read, length-first_bytes, mark}

-- ---- what is read is spelled

-- a test that is read
if_read : (t : Bool) (x shown : ShownView) →
    (let r : Result ShownView OpenFault = if t then Ok x else Err Damaged in r ≡ Ok shown) →
    (t ≡ true) × (x ≡ shown)
if_read true x shown e = (refl, cc)
if_read false x shown e = absurd cc

-- of a refusal and another answer, the other is read
other_read : (t : Bool) (fault : OpenFault) (other : Result ShownView OpenFault) (shown : ShownView) →
    (if t then Err fault else other) ≡ Ok shown → other ≡ Ok shown
other_read true fault other shown e = absurd cc
other_read false fault other shown e = e

-- of two answers, one is read
one_read : (t : Bool) (one other : Result ShownView OpenFault) (shown : ShownView) →
    (if t then one else other) ≡ Ok shown → (one ≡ Ok shown) ⊎ (other ≡ Ok shown)
one_read true one other shown e = inl e
one_read false one other shown e = inr e

first_spelled : (bytes : List ℕ) (shown : ShownView) → read_first bytes ≡ Ok shown → SpellsLedger bytes shown
first_spelled bytes shown e =
    let read = if_read _ _ shown e in
    let are = and_parts _ _ read.0 in
    subst (SpellsLedger bytes) read.1 (first (first_in bytes) are.0
    ((bytes_decides bytes (first_bytes (first_in bytes))).0 are.1))

second_spelled : (bytes : List ℕ) (shown : ShownView) → read_second bytes ≡ Ok shown → SpellsLedger bytes shown
second_spelled bytes shown e =
    let read = if_read _ _ shown e in
    let are = and_parts _ _ read.0 in
    subst (SpellsLedger bytes) read.1 (second (numbers_in bytes) are.0 ((bytes_decides bytes _).0 are.1))

-- another version is not read
no_version : (shown : ShownView) → (let r : Result ShownView OpenFault = Err Version in r ≡ Ok shown) → ⊥
no_version shown e = absurd cc

spelled : (bytes : List ℕ) (shown : ShownView) → read_ledger bytes ≡ Ok shown → SpellsLedger bytes shown
spelled bytes shown e = grind (arith, other_read, mark, one_read, first_spelled, second_spelled, no_version)

-- ---- what is spelled is read

first_again : (l : FirstLedger) → first_in (first_bytes l) ≡ l
unfolding first_bytes
first_again l = grind arith

begins : (l : FirstLedger) → starts_with nat_eq (first_bytes l) mark ≡ true
unfolding first_bytes
begins l = refl

fifth : (l : FirstLedger) → get_or (first_bytes l) 4 0 ≡ 1
unfolding first_bytes
fifth l = refl

first_read : (l : FirstLedger) → are_in_order l ≡ true → read_ledger (first_bytes l) ≡ Ok (shown_of_first l)
first_read l sound =
    let len = length-first_bytes l in
    let read : read_first (first_bytes l) ≡ Ok (shown_of_first l) =
    ap (λ (m : FirstLedger). if are_in_order m && pointwise nat_eq (first_bytes l) (first_bytes m)
    then Ok (shown_of_first m) else Err Damaged) (first_again l)
    ∙ cond-true (are_in_order l && pointwise nat_eq (first_bytes l) (first_bytes l)) (Ok (shown_of_first l))
    (Err Damaged) (and_from _ _ sound ((bytes_decides (first_bytes l) (first_bytes l)).1 refl)) in
    by_tests (first_bytes l) true false 1 (Ok (shown_of_first l)) (read_second (first_bytes l)) (begins l)
    (le-ltb _ _ (let long : 5 ≤ length (first_bytes l) = omega arith in long)) (fifth l) read refl

read : (bytes : List ℕ) (shown : ShownView) → SpellsLedger bytes shown → read_ledger bytes ≡ Ok shown
read bytes _ (second ledger sound e) = ap read_ledger e ∙ ledger_read ledger sound
read bytes _ (first ledger sound e) = ap read_ledger e ∙ first_read ledger sound

pub reads_what_is_spelled : ReadsWhatIsSpelled
reads_what_is_spelled bytes shown = (spelled bytes shown, read bytes shown)
